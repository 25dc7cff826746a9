-- `blocks::head_laid` meets its contract: the definition goes by block 0 and the others, and so does the code.
use Rattle.std.proofs.Common.{◌≡◌, suc, ◌-◌, arith}
use Rattle.blocks.specs.Reading.{head_laid}
use Rattle.blocks.proofs.head_laid.Goals as goal

pub returns-then-i-eq0 : goal.returns-then-i-eq0
unfolding head_laid
returns-then-i-eq0 c = rw c.if-i-eq0.true c.head_is.ensures

pub returns : goal.returns
unfolding head_laid
returns c =
    let n = c.if-i-eq0.false in
    let later : c.args.i ≡ suc (c.args.i - 1) = omega arith in
    rw (c.head_is-2.ensures, c.records_in.ensures, later)
