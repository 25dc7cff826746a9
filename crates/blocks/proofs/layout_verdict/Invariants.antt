-- `blocks::layout_verdict` meets its contract, by the search for the lowest block that is wrong: as long as each lower head is right, the
-- next is where one more is counted.
use Rattle.base.proofs.TestLaws.{Searched}
use Rattle.rules.specs.File.{blocks_in}
use Rattle.rules.specs.Refusals.{block_wrong}
use Rattle.blocks.proofs.layout_verdict.Given as goal

abbrev pub invariant-loop-i : goal.invariant-loop-i
invariant-loop-i l = Searched (blocks_in l.file) (block_wrong l.file) l.i
