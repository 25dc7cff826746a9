-- By the case of the step.
use mathlib.Core.Path.{sym, ◌∙◌, ap}
use Rattle.rules.specs.Vectors.{vector_of}
use Rattle.rules.specs.declared.Step.{Step}
use Rattle.plan.specs.Plans.{bases_for}
use Rattle.plan.proofs.values.values.Goals as goal

pub returns-in-Base : goal.returns-in-Base
unfolding vector_of
returns-in-Base c = c.base_values.ensures ∙ ap (λ (s : Step). (vector_of (bases_for c.args.plan) s).value) (sym c.in-Base.is)
