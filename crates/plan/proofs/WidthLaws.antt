-- The width of the codes is the number of digits of the highest one.
use Prim.Native.Nat.{ℕ, suc, ◌+◌, ◌-◌, ◌^◌, ◌≤◌, ◌<◌}
use mathlib.Core.Path.{◌≡◌, ap}
use mathlib.Core.Logic.{⊎_elim}
use native.Mathlib.Nat.{eq-or-lt_of_le, eq-zero-or-pos}
use native.Mathlib.Omega.{arith}
use lib.Count.{count_leading_zeros, leading_top}
use lib.Pow.{pow_mono}
use Rattle.base.proofs.BoolLaws.{order}
use Rattle.rules.specs.Vectors.{code_width}
use Rattle.rules.proofs.Codes.{width-least}
-- at most k where 2 ^ k holds every code
pub use Rattle.rules.proofs.Codes.{width-bounded}

-- the digits of N + 1 are as many as the width of N codes
pub digits-width : (k nets : ℕ) → nets + 1 < 2 ^ k → k - count_leading_zeros k (nets + 1) ≡ code_width nets
digits-width k nets h = go (leading_top k (nets + 1) (omega arith) h) (width-least nets)
  where
    go :
        (j : ℕ) × (count_leading_zeros k (nets + 1) + suc j ≡ k) × (2 ^ j ≤ nets + 1) × (nets + 1 < 2 ^ suc j) →
        (nets + 2 ≤ 2 ^ code_width nets) × ((q : ℕ) → q < code_width nets → 2 ^ q < nets + 2) →
        k - count_leading_zeros k (nets + 1) ≡ code_width nets
    go (j, e, at_least_lem, less-than) (wide, narrow) =
        ⊎_elim
        (λ (l : suc j < code_width nets). absurd (omega (arith, narrow (suc j) l)))
        (λ (l : code_width nets ≤ suc j).
        ⊎_elim
        (λ (q : code_width nets ≡ suc j). omega arith)
        (λ (q : code_width nets < suc j). absurd (omega (arith, pow_mono {i = code_width nets} {j = j} (omega arith))))
        (eq-or-lt_of_le l))
        (order (suc j) (code_width nets))

-- a width is at least 1, and at most k where 2 ^ k holds every code
pub width_positive : (nets : ℕ) → 1 ≤ code_width nets
width_positive nets = ⊎_elim none (λ (q : 0 < code_width nets). q) (eq-zero-or-pos (code_width nets))
  where
    none : code_width nets ≡ 0 → 1 ≤ code_width nets
    none e = absurd (let w = (width-least nets).0 in let z = ap (λ (k : ℕ). 2 ^ k) e in omega arith)
