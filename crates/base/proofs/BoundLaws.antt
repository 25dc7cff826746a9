-- Laws of bounds: what some, each and how many of the numbers below m are, told by those below a smaller n.
use Prim.Native.Nat.{ℕ, zero, suc, ◌+◌, ◌-◌, ◌≤◌, ◌<◌}
use mathlib.Core.Path.{◌≡◌, ◌∙◌, ap}
use mathlib.Core.Logic.{⊎_elim}
use mathlib.Core.Bool.{Bool, false, true}
use native.Mathlib.Nat.{add-zero, add-suc, add_assoc}
use native.Mathlib.Omega.{arith}
use Rattle.base.specs.Tests.{digit, any, all}
use Rattle.base.specs.Counting.{count}
use Rattle.base.proofs.BoolLaws.{same_test, order, clashes}
use Rattle.base.proofs.TestLaws.{any_at, any-member, all-at, all_from}
use Rattle.base.proofs.CountingLaws.{count_none}

-- how many below n + m: those below n, and those from n on
pub count_add : (n m : ℕ) (p : ℕ → Bool) → count (n + m) p ≡ count n p + count m (λ i. p (n + i))
unfolding count
count_add n zero p = rw (add-zero n, add-zero (count n p))
count_add n (suc m) p =
    rw add-suc (ap (λ (x : ℕ). x + digit (p (n + m))) (count_add n m p) ∙ add_assoc (count n p) _ (digit (p (n + m))))

-- below more there are no fewer
pub count-grows : {n m : ℕ} (p : ℕ → Bool) → n ≤ m → count n p ≤ count m p
count-grows {n} {m} p h =
    let e : m ≡ n + (m - n) = omega arith in
    rw e (omega (arith, count_add n (m - n) p))

-- the same below m as below n, where no number from n on passes
module _ {n m : ℕ} (p : ℕ → Bool) (h : n ≤ m) (none : (i : ℕ) → n ≤ i → i < m → p i ≡ false) where
  pub any-bound : any m p ≡ any n p
  any-bound =
      same_test (any m p) (any n p)
      (λ e. let a = any-member m p e in ⊎_elim (λ (l : a.0 < n). any_at n p l a.2) (λ (l : n ≤ a.0). absurd (clashes a.2 (none a.0 l a.1))) (order a.0 n))
      (λ e. let a = any-member n p e in any_at m p {i = a.0} (omega arith) a.2)

  pub count-bound : count m p ≡ count n p
  count-bound =
      let e : m ≡ n + (m - n) = omega arith in
      rw e (count_add n (m - n) p ∙ ap (λ (x : ℕ). count n p + x) (count_none (m - n) (λ i. p (n + i)) (λ i l. none (n + i) (omega arith) (omega arith))) ∙ add-zero (count n p))

-- and where each number from n on passes
pub all-bound : {n m : ℕ} (p : ℕ → Bool) → n ≤ m → ((i : ℕ) → n ≤ i → i < m → p i ≡ true) → all m p ≡ all n p
all-bound {n} {m} p h each =
    same_test (all m p) (all n p)
    (λ e. all_from n p (λ i l. all-at m p e {i = i} (omega arith)))
    (λ e. all_from m p (λ i l. ⊎_elim (λ (k : i < n). all-at n p e k) (λ (k : n ≤ i). each i k l) (order i n)))
