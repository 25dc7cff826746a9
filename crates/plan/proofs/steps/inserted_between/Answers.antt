-- The nets that differ, and what is inserted for so many.
use mathlib.Core.Path.{◌∙◌, ap}
use Prim.Native.Nat.{ℕ, ◌-◌}
use Rattle.base.specs.Digits.{ceil}
use Rattle.base.proofs.CountingLaws.{count-le}
use Rattle.plan.specs.Plans.{inserted_between}
use Rattle.plan.proofs.steps.inserted_between.Goals as goal

pub inserted-requires : goal.inserted-requires
inserted-requires c = (rw c.differing.ensures (count-le _ _), c.requires.0, c.requires.1)

pub returns : goal.returns
unfolding inserted_between
returns c = c.inserted.ensures ∙ ap (λ (h : ℕ). ceil h c.args.limit - 1) c.differing.ensures
