-- The total decides.
use Prim.Native.Nat.{ℕ}
use mathlib.Core.Path.{◌∙◌, ap}
use mathlib.Core.List.{◌∷◌, []}
use lib.Dec.{ltb}
use Rattle.rules.specs.Refusals.{judge, once, most_vectors}
use Rattle.plan.proofs.boards.count_verdict.Goals as goal

pub returns : goal.returns
returns c = c.once.ensures ∙ ap (λ (x : ℕ). judge (once 12 (ltb most_vectors x) ∷ [])) c.total.ensures
