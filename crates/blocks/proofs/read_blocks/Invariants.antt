-- `blocks::read_blocks` meets its contract, by the search for the lowest block that reading refuses; on the way each head is counted.
use Rattle.std.proofs.Common.{not}
use Rattle.base.proofs.TestLaws.{Searched}
use Rattle.rules.specs.File.{blocks_in, sums_right}
use Rattle.blocks.specs.Reading.{RightTo}
use Rattle.blocks.proofs.read_blocks.Given as goal

abbrev pub invariant-loop-i : goal.invariant-loop-i
invariant-loop-i l = Searched (blocks_in l.file) (λ k. not (sums_right l.file k)) l.i × RightTo l.file l.i l.heads
