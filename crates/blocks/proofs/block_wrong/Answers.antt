-- `blocks::block_wrong` meets its contract: the definition goes by block 0 and the others, and so does the code.
use Rattle.std.proofs.Common.{◌≡◌, suc, ◌-◌, arith}
use Rattle.rules.specs.File.{blocks_in}
use Rattle.rules.specs.Refusals.{block_wrong}
use Rattle.blocks.proofs.Lengths.{cells-bounded}
use Rattle.blocks.proofs.block_wrong.Goals as goal

pub blocks_for-requires : goal.blocks_for-requires
blocks_for-requires c =
    omega (arith, c.requires.told, cells-bounded c.args.file.now (λ j. (c.type_inv.file j).fits))

pub returns-then-i-eq0 : goal.returns-then-i-eq0
unfolding block_wrong blocks_in
returns-then-i-eq0 c = rw (c.if-i-eq0.true, c.blocks_for.ensures, c.requires.told)

pub returns : goal.returns
unfolding block_wrong
returns c =
    let n = c.if-i-eq0.false in
    let later : c.args.i ≡ suc (c.args.i - 1) = omega arith in
    rw (c.cell_block_right.ensures, later)
