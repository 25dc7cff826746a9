-- A byte more (left-byte).
use Rattle.std.proofs.Common.{refl, arith}
use borrow.Author.Rules.{part_to_end}
use Rattle.readings.proofs.LeftLaws.{left-byte}
use Rattle.readings.proofs.walk.Walk.check_rows.Goals as goal

pub loop-j-preserved : goal.loop-j-preserved
loop-j-preserved c =
    left-byte _ _ _ _ _ _ _ _ _ _ c.loop-j.invariant (omega arith) refl (rw part_to_end at c.sift_byte.ensures)
