-- A differing net that has changed sides has its new value.
use mathlib.Core.Path.{◌∙◌, ap}
use Rattle.base.specs.Counting.{among}
use Rattle.words.specs.Sets.{unlike}
use Rattle.plan.proofs.MixLaws.{mixed-nets}
use Rattle.plan.proofs.values.mixed.Goals as goal

pub returns : goal.returns
returns c = c.flip-2.ensures ∙ ap (unlike _) (c.lowest_members-changed.ensures ∙ ap (among _) c.flip.ensures) ∙ mixed-nets _ _ _
