-- A base vector's values are one pattern.
use Rattle.plan.specs.Plans.{bases_for}
use Rattle.plan.proofs.steps.base_values.Goals as goal

pub returns : goal.returns
unfolding bases_for
returns c = c.pattern.ensures
