-- What is inserted between the values of base vector i and of the next.
use mathlib.Core.Path.{◌∙◌}
use Rattle.plan.proofs.RoundLaws.{between_is}
use Rattle.plan.proofs.steps.full_after.Goals as goal

pub returns : goal.returns
returns c =
    c.inserted_between.ensures
    ∙ between_is c.args.plan _ _ _ c.base_values-old.ensures c.base_values-new.ensures
