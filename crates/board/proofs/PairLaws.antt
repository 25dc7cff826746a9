-- What comparing net sets finds: the first larger position that crosses, and refusal 10 at the lowest that has one.
use Prim.Native.Nat.{ℕ, ◌+◌, ◌<◌, ◌≤◌}
use mathlib.Core.Path.{◌≡◌, refl, sym, ◌∙◌, ap}
use mathlib.Core.Bool.{Bool, true, false, cond}
use mathlib.Core.List.{[], ◌∷◌}
use native.Mathlib.Omega.{arith}
use Rattle.std.specs.Prelude.{Option, Some, None, is_some}
use Rattle.base.proofs.TestLaws.{any_at, least_at, Searched, search-next}
use Rattle.rules.specs.File.{Board}
use Rattle.rules.specs.Refusals.{judge, paired, crossing, crossed_by, crossed, crosser, Accepted, Refused}
use Rattle.rules.specs.declared.Position.{Position}
use Rattle.rules.proofs.Verdicts.{judge-passes, judge-applies}
use Rattle.board.specs.Controls.{crosser_of}

is-found : (x : Bool) (j : Position) → is_some (cond x (Some j) None) ≡ x
is-found true j = refl
is-found false j = refl

module _ (b : Board) where
  -- the first above control cell i that crosses it
  pub crosser_found : (i j : ℕ) → j < b.size → crossed_by b i j ≡ true → ((x : ℕ) → x < j → crossed_by b i x ≡ false)
      → Some (record { 0 = j }) ≡ crosser_of b i
  unfolding crosser_of crossed crosser
  crosser_found i j l t none = rw (any_at _ _ l t, least_at _ _ l t none)

  pub crosser-none : (i : ℕ) → crossed b i ≡ false → None ≡ crosser_of b i
  unfolding crosser_of
  crosser-none i f = rw f

  -- one is found exactly where i is crossed
  found-crossed : (i : ℕ) → is_some (crosser_of b i) ≡ crossed b i
  unfolding crosser_of
  found-crossed i = is-found (crossed b i) _

  -- the search for the lowest: it goes on above one that has none, and ends at one that has
  module _ {i : ℕ} (s : Searched b.size (crossed b) i) where
    pub pairs_next : i < b.size → None ≡ crosser_of b i → Searched b.size (crossed b) (i + 1)
    pairs_next l e = search-next s l (sym (found-crossed i) ∙ ap is_some (sym e))

    pub pairs-found : {j : Position} → i < b.size → Some j ≡ crosser_of b i → judge (crossing b ∷ []) ≡ Refused (paired 10 i j.0)
    unfolding crosser_of
    pairs-found {j = j} l e =
        let t = sym (found-crossed i) ∙ ap is_some (sym e) in
        let q : Some j ≡ Some (record { 0 = crosser b i }) = rw t at e in
        judge-applies (crossing b) [] (record { within = l; applies = t; lowest = s.lower }) ∙ ap (λ (o : Option Position). Refused (paired 10 i (at o))) (sym q)
      where
        at : Option Position → ℕ
        at (Some k) = k.0
        at None = 0

    pub pairs-ended : b.size ≤ i → judge (crossing b ∷ []) ≡ Accepted
    unfolding judge
    pairs-ended l = judge-passes (crossing b) [] (λ j m. s.lower j (omega arith))
