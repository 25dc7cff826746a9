-- n is where part i starts in a round, and `old` has the values of base vector i.
use mathlib.Core.Path.{◌≡◌}
use Rattle.words.specs.Sets.{member}
use Rattle.plan.specs.Plans.{bases_for, full_start}
use Rattle.plan.proofs.steps.round.Given as goal

abbrev pub invariant-loop-i : goal.invariant-loop-i
invariant-loop-i l = (l.n ≡ full_start l.plan l.i) × (member l.old.words ≡ (bases_for l.plan).value l.i)
