-- Part by part: t is where part i begins.
use Rattle.std.proofs.Common.{◌≡◌, ◌*◌}
use Rattle.base.specs.Tests.{any}
use Rattle.plan.specs.Plans.{start_of}
use Rattle.readings.specs.Readings.{stray_in, Left}
use Rattle.readings.proofs.walk.Walk.check_first.Given as goal

abbrev pub invariant-loop-i : goal.invariant-loop-i
invariant-loop-i l =
    record {
      begins : l.t ≡ start_of l.self.plan l.i;
      still_left : Left (λ c. any l.i (stray_in l.self.plan l.self.bytes l.self.capture.now l.self.table.now c)) l.initial.left (8 * l.self.bytes) l.left;
    }
