-- The k-th inserted vector has the k x SSOL lowest of the differing nets changed, and the next base vector all of them.
use Rattle.std.proofs.Common.{◌≡◌, ◌+◌, ◌*◌}
use Rattle.base.specs.Tests.{any}
use Rattle.words.specs.Sets.{member}
use Rattle.readings.specs.Readings.{value_at, stray_after, Left}
use Rattle.readings.proofs.walk.Walk.check_inserted.Given as goal

abbrev pub invariant-loop-k : goal.invariant-loop-k
invariant-loop-k l =
    record {
      still_left : Left (λ c. any l.k (λ j. stray_after l.self.plan l.self.bytes l.self.capture.now l.self.table.now c (l.span.start + j))) l.initial.left (8 * l.self.bytes) l.left;
      now : member l.values.words ≡ value_at l.self.plan (l.span.start + l.k);
    }
