-- Laws of tables, of what stands in a list, and of a list of zeros.
use Prim.Native.Nat.{ℕ, zero, suc, ◌<◌}
use mathlib.Core.Path.{◌≡◌, refl, ◌∙◌, ap₂}
use mathlib.Core.Logic.{⊎_elim, ◌⊎◌, inl, inr}
use mathlib.Core.Bool.{true, Bool, false, ◌||◌}
use mathlib.Core.List.{[], ◌∷◌, List, ◌++◌}
use native.Mathlib.Omega.{arith}
use borrow.Author.Tests.{eq-eqb, eqb-true}
use lib.ListN.{length, length-append, get_or, get_or-append, replicate}
use lib.Seq.{get_or_at}
use lib.Dec.{eqb}
use Rattle.base.specs.Lists.{table, has}
use Rattle.base.proofs.BoolLaws.{below_suc, or_left, or_right, or_cases}

-- tables: their length, what stands at i, and the same for functions that agree below n
pub length-table {ℓ} : {A : Type ℓ} (n : ℕ) (f : ℕ → A) → length (table n f) ≡ n
unfolding table
length-table zero f = refl
length-table (suc n) f = rw (length-append, length-table n f) (omega arith)

pub table_at {ℓ} : {A : Type ℓ} (n : ℕ) (f : ℕ → A) (d : A) {i : ℕ} → i < n → get_or (table n f) i d ≡ f i
unfolding table
table_at zero f d h = absurd (omega arith)
table_at (suc n) f d {i} h =
    ⊎_elim
    (λ (q : i ≡ n). rw q (get_or_at (table n f) (f n) [] d n (length-table n f)))
    (λ (q : i < n). get_or-append (table n f) (f n ∷ []) d i (omega (arith, length-table n f)) ∙ table_at n f d q)
    (below_suc h)

pub table_same {ℓ} : {A : Type ℓ} (n : ℕ) (f g : ℕ → A) → ((i : ℕ) → i < n → f i ≡ g i) → table n f ≡ table n g
unfolding table
table_same zero f g h = refl
table_same {A} (suc n) f g h =
    ap₂ (λ (x : List A) (y : A). x ++ (y ∷ [])) (table_same n f g (λ i l. h i (omega arith))) (h n (omega arith))

-- what stands in a list: its first, the others, and those of two lists together
pub has_here : (k : ℕ) (on : List ℕ) → has k (k ∷ on) ≡ true
unfolding has
has_here k on = or_left _ (eq-eqb k k refl)

pub has_there : (k t : ℕ) (on : List ℕ) → has k on ≡ true → has k (t ∷ on) ≡ true
unfolding has
has_there k t on h = or_right (eqb k t) h

pub has-cases : (k t : ℕ) (on : List ℕ) → has k (t ∷ on) ≡ true → (k ≡ t) ⊎ (has k on ≡ true)
unfolding has
has-cases k t on h = ⊎_elim (λ e. inl (eqb-true k t e)) inr (or_cases (eqb k t) h)

pub has-append : (k : ℕ) (xs ys : List ℕ) → has k (xs ++ ys) ≡ (has k xs || has k ys)
unfolding has
has-append k [] ys = refl
has-append k (x ∷ xs) ys = rw (has-append k xs ys) (regroup (eqb k x) (has k xs) (has k ys))
  where
    regroup : (x y z : Bool) → (x || (y || z)) ≡ (x || y || z)
    regroup true y z = refl
    regroup false y z = refl

-- a list of zeros has a zero everywhere
pub zero-at : (n i : ℕ) → ◌≡◌ {A = ℕ} (get_or (replicate n 0) i 0) 0
zero-at zero i = refl
zero-at (suc n) zero = refl
zero-at (suc n) (suc i) = zero-at n i
