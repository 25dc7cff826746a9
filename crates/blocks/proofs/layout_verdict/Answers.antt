-- `blocks::layout_verdict` meets its contract, by the search for the lowest block that is wrong: as long as each lower head is right, the
-- next is where one more is counted.
use Rattle.std.proofs.Common.{[], ◌<◌, sym, ◌∙◌, arith}
use Rattle.rules.specs.File.{blocks_in}
use Rattle.rules.proofs.CheckLaws.{found}
use Rattle.blocks.proofs.Heading.{next-right, lower-right}
use Rattle.blocks.proofs.layout_verdict.Goals as goal

pub block_wrong-requires : goal.block_wrong-requires
unfolding blocks_in
block_wrong-requires c =
    let heads = c.requires.headed.heads-are in
    let l : c.loop-i.i < blocks_in c.args.file.now = omega arith in
    record { whole = omega arith; told = c.requires.told; head = next-right _ _ _ _ l heads (lower-right _ _ _ _ heads c.requires.header c.loop-i.invariant) }

pub returns-then-block_wrong : goal.returns-then-block_wrong
unfolding blocks_in
returns-then-block_wrong c =
    c.refuse.ensures ∙ sym (found 5 [] c.loop-i.invariant (omega arith) (sym c.block_wrong.ensures ∙ c.if-block_wrong.true))
