-- Laws of counting: how many of the numbers below n pass, and the k lowest that do.
use Prim.Native.Nat.{ℕ, zero, suc, ◌+◌, ◌<◌, ◌≤◌, min}
use mathlib.Core.Path.{◌≡◌, refl, ap₂}
use mathlib.Core.Logic.{◌⊎◌, inl, inr}
use mathlib.Core.Bool.{Bool, true, false, false≢true, not, ◌&&◌}
use native.Mathlib.Omega.{arith}
use borrow.Author.Tests.{ltb-true, ltb-false, lt-ltb}
use lib.Dec.{ltb}
use Rattle.base.specs.Tests.{digit, any}
use Rattle.base.specs.Counting.{count, among}
use Rattle.base.proofs.BoolLaws.{below_suc, fails-if, decided, left, passes-if, same_test, both, right}
use Rattle.base.proofs.TestLaws.{any-member, any_none}

-- how many: tests that agree below n count alike
pub count_same : (n : ℕ) (p q : ℕ → Bool) → ((i : ℕ) → i < n → p i ≡ q i) → count n p ≡ count n q
unfolding count
count_same zero p q h = refl
count_same (suc n) p q h =
    ap₂ (λ (x : ℕ) (y : Bool). x + digit y) (count_same n p q (λ i l. h i (omega arith))) (h n (omega arith))

digit-le : (a c : Bool) → (a ≡ true → c ≡ true) → digit a ≤ digit c
digit-le true c f = rw (f refl) (omega arith)
digit-le false c f = omega arith

-- more pass, more are counted
pub count-more : (n : ℕ) (p q : ℕ → Bool) → ((i : ℕ) → i < n → p i ≡ true → q i ≡ true) → count n p ≤ count n q
unfolding count
count-more zero p q h = omega arith
count-more (suc n) p q h =
    let l = count-more n p q (λ i l. h i (omega arith)) in
    let d = digit-le (p n) (q n) (h n (omega arith)) in
    omega arith

-- and strictly so where one more passes
pub count-strictly : (n : ℕ) (p q : ℕ → Bool) → ((i : ℕ) → i < n → p i ≡ true → q i ≡ true) → {i : ℕ} → i < n → p i ≡ false → q i ≡ true → count n p < count n q
unfolding count
count-strictly zero p q h l f t = absurd (omega arith)
count-strictly (suc n) p q h {i} l f t = go (λ m. count-strictly n p q (λ j k. h j (omega arith)) m f t) (below_suc l)
  where
    go : (i < n → count n p < count n q) → (i ≡ n) ⊎ (i < n) → count (suc n) p < count (suc n) q
    go r (inl e) =
        let l = count-more n p q (λ j k. h j (omega arith)) in
        let x : digit (p n) ≡ 0 = rw (← e) (rw f) in
        let y : digit (q n) ≡ 1 = rw (← e) (rw t) in
        omega arith
    go r (inr k) =
        let s = r k in
        let d = digit-le (p n) (q n) (h n (omega arith)) in
        omega arith

pub count_none : (n : ℕ) (p : ℕ → Bool) → ((i : ℕ) → i < n → p i ≡ false) → count n p ≡ 0
unfolding count
count_none zero p h = refl
count_none (suc n) p h = rw (count_none n p (λ i l. h i (omega arith)), h n (omega arith))

-- exactly one passes
pub count-one : (n : ℕ) (p : ℕ → Bool) {i : ℕ} → i < n → p i ≡ true → ((j : ℕ) → j < n → p j ≡ true → j ≡ i) → count n p ≡ 1
unfolding count
count-one zero p l e only = absurd (omega arith)
count-one (suc n) p {i} l e only = go (λ k. count-one n p k e (λ j m. only j (omega arith))) (below_suc l)
  where
    go : (i < n → count n p ≡ 1) → (i ≡ n) ⊎ (i < n) → count (suc n) p ≡ 1
    go r (inl q) =
        let z = count_none n p (λ j m. fails-if (p j) (λ t. let s = only j (omega arith) t in absurd (omega arith))) in
        let d : digit (p n) ≡ 1 = rw (← q) (rw e) in
        omega arith
    go r (inr k) =
        let s = r k in
        let d : digit (p n) ≡ 0 = rw (fails-if (p n) (λ t. let s = only n (omega arith) t in absurd (omega arith))) in
        omega arith

-- a number counted has a member
pub count-member : (n : ℕ) (p : ℕ → Bool) → 0 < count n p → (i : ℕ) × (i < n) × (p i ≡ true)
count-member n p h = go (decided (any n p))
  where
    go : (any n p ≡ true) ⊎ (any n p ≡ false) → (i : ℕ) × (i < n) × (p i ≡ true)
    go (inl e) = any-member n p e
    go (inr e) = let z = count_none n p (λ i l. any_none n p e l) in absurd (omega arith)

pub count-le : (n : ℕ) (p : ℕ → Bool) → count n p ≤ n
unfolding count
count-le zero p = omega arith
count-le (suc n) p = let l = count-le n p in let d = digit-le (p n) true (λ e. refl) in omega arith

-- a member is counted
pub count-pos : (n : ℕ) (p : ℕ → Bool) {i : ℕ} → i < n → p i ≡ true → 0 < count n p
count-pos n p l e =
    let c = count-strictly n (λ j. false) p (λ j m f. absurd (false≢true f)) l refl e in
    omega arith

-- what passes is what passes with q and what passes without
pub count-split : (n : ℕ) (p q : ℕ → Bool) → count n (λ i. p i && q i) + count n (λ i. p i && not (q i)) ≡ count n p
unfolding count
count-split zero p q = refl
count-split (suc n) p q = let r = count-split n p q in let d = split (p n) (q n) in omega arith
  where
    split : (a c : Bool) → digit (a && c) + digit (a && not c) ≡ digit a
    split true true = refl
    split true false = refl
    split false c = refl

-- one more number, which is a member or not (a), with room left or not (c)
one_more : (x y k : ℕ) (a c : Bool) → ltb x k ≡ c → y ≡ min x k → y + digit (a && c) ≡ min (x + digit a) k
one_more x y k true true e h = omega (arith, ltb-true x k e)
one_more x y k true false e h = omega (arith, ltb-false x k e)
one_more x y k false c e h = omega arith

-- the k lowest members number k, or all where there are fewer
pub count-among : (n k : ℕ) (f : ℕ → Bool) → count n (among k f) ≡ min (count n f) k
unfolding count among
count-among zero k f = omega arith
count-among (suc n) k f = one_more (count n f) _ k (f n) _ refl (count-among n k f)

-- the k lowest members are all, where k is no less than their number
pub among-all : (n k : ℕ) (f : ℕ → Bool) → count n f ≤ k → {m : ℕ} → m < n → among k f m ≡ f m
unfolding among
among-all n k f h {m} l =
    same_test (among k f m) (f m) (left (f m) _) (λ e. passes-if (among k f m) (λ z. let c = count-strictly n (among k f) f (λ i _. left (f i) _) l z e in omega (arith, count-among n k f)))

-- the lowest stay among more
pub among-more : (f : ℕ → Bool) {j k : ℕ} → j ≤ k → (m : ℕ) → among j f m ≡ true → among k f m ≡ true
unfolding among
among-more f {j} {k} h m e = both (left (f m) _ e) (lt-ltb (count m f) k (omega (arith, ltb-true (count m f) j (right (f m) e))))

-- none are among the 0 lowest
pub among_none : (f : ℕ → Bool) (m : ℕ) → among 0 f m ≡ false
unfolding among
among_none f m = fails-if (among 0 f m) (λ e. omega (arith, ltb-true (count m f) 0 (right (f m) e)))

-- two tests that never pass together, and pass only where a third does, pass together no more often than it
pub count-apart : (n : ℕ) (p q r : ℕ → Bool) → ((i : ℕ) → i < n → digit (p i) + digit (q i) ≤ digit (r i)) → count n p + count n q ≤ count n r
unfolding count
count-apart zero p q r h = omega arith
count-apart (suc n) p q r h = omega (arith, count-apart n p q r (λ i l. h i (omega arith)), h n (omega arith))
