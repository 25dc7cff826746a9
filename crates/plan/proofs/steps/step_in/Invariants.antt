-- What is left of t is its place in part j of the round.
use Prim.Native.Nat.{◌+◌}
use mathlib.Core.Path.{◌≡◌}
use Rattle.plan.specs.Plans.{full_start}
use Rattle.plan.proofs.steps.step_in.Given as goal

abbrev pub invariant-loop-j : goal.invariant-loop-j
invariant-loop-j l = full_start l.plan l.j + l.left ≡ l.t
