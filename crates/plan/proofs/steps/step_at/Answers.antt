-- t is in turn t / round, and there vector t % round.
use native.Mathlib.Nat.{mod-lt}
use Rattle.plan.proofs.RoundLaws.{round-positive}
use Rattle.plan.proofs.steps.step_at.Goals as goal

pub nonzero_div-t : goal.nonzero_div-t
nonzero_div-t c = rw c.round-round.ensures (round-positive c.args.plan)

pub nonzero_rem-t : goal.nonzero_rem-t
nonzero_rem-t c = rw c.round-round.ensures (round-positive c.args.plan)

pub step_in-requires-clause-t_bound : goal.step_in-requires-clause-t_bound
step_in-requires-clause-t_bound c = rw c.round-round.ensures (mod-lt _ (round-positive c.args.plan))
