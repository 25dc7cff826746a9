-- A function's values as a list, and what stands in a list. Assumes nothing.
use Rattle.std.specs.Prelude.{ℕ, zero, suc, Bool, false, ◌||◌, List, [], ◌∷◌, ◌++◌, eqb}

-- the list f 0, .., f (n - 1)
unfoldable pub table {ℓ} : {A : Type ℓ} → ℕ → (ℕ → A) → List A
table zero f = []
table (suc n) f = table n f ++ (f n ∷ [])

-- k stands in the list
unfoldable pub has : ℕ → List ℕ → Bool
has k [] = false
has k (x ∷ xs) = eqb k x || has k xs
