-- Byte by byte.
use Rattle.std.proofs.Common.{◌*◌}
use Rattle.words.specs.Sets.{member}
use Rattle.readings.specs.Readings.{stray_at, Left}
use Rattle.readings.proofs.walk.Walk.check_rows.Given as goal

abbrev pub invariant-loop-j : goal.invariant-loop-j
invariant-loop-j l = Left (stray_at l.self.capture.now (l.t * l.self.bytes) (l.u * l.self.bytes) (member l.changing.words) l.self.table.now) l.initial.left (8 * l.j) l.left
