-- Crossing control cells: what crossing is, part by part, and which positions a higher one crosses.
use Prim.Native.Nat.{ℕ, ◌<◌}
use mathlib.Core.Path.{◌≡◌}
use mathlib.Core.Bool.{true, false, not, ◌&&◌}
use borrow.Author.Tests.{lt-ltb, ltb-true}
use lib.Dec.{ltb}
use Rattle.base.proofs.BoolLaws.{left, right, both, not-fails, fails-not, fails-if}
use Rattle.base.proofs.TestLaws.{any_at, none_any}
use Rattle.rules.specs.File.{Board}
use Rattle.rules.specs.Drivers.{is_control, meets, inside, crosses}
use Rattle.rules.specs.Refusals.{crossed_by, crossed}

-- what crossing is, part by part
pub record Crossing (b : Board) (i j : ℕ) : Type 0 where
  pub first : is_control b i ≡ true
  pub second : is_control b j ≡ true
  pub meet : meets b i j ≡ true
  pub out : inside b i j ≡ false
  pub back : inside b j i ≡ false

module _ (b : Board) where
  pub parts : (i j : ℕ) → crosses b i j ≡ true → Crossing b i j
  unfolding crosses
  parts i j t =
      let t4 = left (is_control b i && is_control b j && meets b i j && not (inside b i j)) _ t in
      let t3 = left (is_control b i && is_control b j && meets b i j) _ t4 in
      let t2 = left (is_control b i && is_control b j) _ t3 in
      record {
        first = left (is_control b i) _ t2;
        second = right (is_control b i) t2;
        meet = right (is_control b i && is_control b j) t3;
        out = fails-not _ (right (is_control b i && is_control b j && meets b i j) t4);
        back = fails-not _ (right (is_control b i && is_control b j && meets b i j && not (inside b i j)) t);
      }

  pub crossing-of : (i j : ℕ) → Crossing b i j → crosses b i j ≡ true
  unfolding crosses
  crossing-of i j c = both (both (both (both c.first c.second) c.meet) (not-fails c.out)) (not-fails c.back)

  -- a larger position crosses i
  module _ (i : ℕ) where
    pub crossed-by : (j : ℕ) → crossed_by b i j ≡ true → (i < j) × (crosses b i j ≡ true)
    unfolding crossed_by
    crossed-by j t = (ltb-true i j (left (ltb i j) _ t), right (ltb i j) t)

    pub by-crossing : (j : ℕ) → i < j → crosses b i j ≡ true → crossed_by b i j ≡ true
    unfolding crossed_by
    by-crossing j l t = both (lt-ltb i j l) t

    -- some does, or none
    pub crossed-at : (j : ℕ) → i < j → j < b.size → crosses b i j ≡ true → crossed b i ≡ true
    unfolding crossed
    crossed-at j l m t = any_at _ _ m (by-crossing j l t)

    pub crossed-none : ((j : ℕ) → i < j → j < b.size → crosses b i j ≡ true → ⊥) → crossed b i ≡ false
    unfolding crossed
    crossed-none h = none_any _ _ (λ j m. fails-if _ (λ t. let c = crossed-by j t in h j c.0 m c.1))
