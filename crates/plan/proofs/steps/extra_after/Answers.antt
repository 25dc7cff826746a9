-- There is a next base vector, or none is inserted.
use mathlib.Core.Path.{◌∙◌}
use Rattle.plan.proofs.StepLaws.{extra-none}
use Rattle.plan.proofs.RoundLaws.{full_is}
use Rattle.plan.proofs.steps.extra_after.Goals as goal

pub returns-then-i-plan : goal.returns-then-i-plan
returns-then-i-plan c = c.full_after.ensures ∙ full_is _ _ c.if-i-plan.true

pub returns : goal.returns
returns c = extra-none _ _ c.if-i-plan.false
