-- The two base vectors' values, mixed.
use Rattle.plan.proofs.MixLaws.{mix-inserted}
use Rattle.plan.proofs.values.inserted_values.Goals as goal

pub returns : goal.returns
returns c = mix-inserted _ _ _ _ _ _ c.base_values-old.ensures c.base_values-new.ensures c.mixed.ensures
