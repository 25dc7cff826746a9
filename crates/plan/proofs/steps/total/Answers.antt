-- Each group has a round, but after the last pattern of the last nothing is inserted (total-rounds).
use native.Mathlib.Omega.{arith}
use Rattle.plan.proofs.RoundLaws.{rounds-bounded, total-rounds}
use Rattle.plan.proofs.steps.total.Goals as goal

pub overflow_mul-result : goal.overflow_mul-result
overflow_mul-result c = rw c.round.ensures (omega (arith, rounds-bounded c.args.plan))

pub overflow_sub-result : goal.overflow_sub-result
overflow_sub-result c = rw (c.round.ensures, c.full_after.ensures) (omega (arith, total-rounds c.args.plan))

pub returns : goal.returns
returns c = rw (c.round.ensures, c.full_after.ensures) (omega (arith, total-rounds c.args.plan))
