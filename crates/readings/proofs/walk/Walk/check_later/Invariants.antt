-- Vector by vector.
use Rattle.std.proofs.Common.{◌*◌}
use Rattle.base.specs.Tests.{any}
use Rattle.readings.specs.Readings.{other_later, Left}
use Rattle.readings.proofs.walk.Walk.check_later.Given as goal

abbrev pub invariant-loop-u : goal.invariant-loop-u
invariant-loop-u l = Left (λ c. any l.u (other_later l.first l.self.bytes l.self.capture.now c)) l.initial.left (8 * l.self.bytes) l.left
