-- Laws of tests on the numbers below n: some, each, the largest, the lowest, and a search that goes up.
use Prim.Native.Nat.{ℕ, zero, suc, ◌<◌, ◌≤◌, max, ◌+◌, ◌-◌}
use mathlib.Core.Path.{◌≡◌, refl, sym, ◌∙◌, ap, ap₂}
use mathlib.Core.Logic.{⊎_elim, ◌⊎◌, inl, inr}
use mathlib.Core.Bool.{Bool, true, false≢true, false, ◌&&◌, true≢false, cond, not, ◌||◌}
use native.Mathlib.Nat.{le-max_left, le-max_right, eq-or-lt_of_le, add-zero, sub-zero}
use native.Mathlib.Numerals.{add-one}
use native.Mathlib.Omega.{arith}
use Rattle.base.specs.Tests.{any, all, largest, seek, least}
use Rattle.base.proofs.BoolLaws.{or_left, or_right, below_suc, or_cases, fails-if, clashes, left, right, both, decided, order}

-- some: by a member, to a member, and none
pub any_at : (n : ℕ) (p : ℕ → Bool) {i : ℕ} → i < n → p i ≡ true → any n p ≡ true
unfolding any
any_at zero p h e = absurd (omega arith)
any_at (suc n) p {i} h e =
    ⊎_elim (λ (q : i ≡ n). or_left {a = p n} (any n p) (rw (← q) e)) (λ (q : i < n). or_right (p n) (any_at n p q e)) (below_suc h)

pub any-member : (n : ℕ) (p : ℕ → Bool) → any n p ≡ true → (i : ℕ) × (i < n) × (p i ≡ true)
unfolding any
any-member zero p h = absurd (false≢true h)
any-member (suc n) p h = go (any-member n p) (or_cases (p n) h)
  where
    go : (any n p ≡ true → (i : ℕ) × (i < n) × (p i ≡ true)) → (p n ≡ true) ⊎ (any n p ≡ true) → (i : ℕ) × (i < suc n) × (p i ≡ true)
    go f (inl e) = (n, omega arith, e)
    go f (inr e) = let m = f e in (m.0, omega arith, m.2)

pub any_none : (n : ℕ) (p : ℕ → Bool) → any n p ≡ false → {i : ℕ} → i < n → p i ≡ false
any_none n p h {i} l = fails-if (p i) (λ e. clashes (any_at n p l e) h)

pub none_any : (n : ℕ) (p : ℕ → Bool) → ((i : ℕ) → i < n → p i ≡ false) → any n p ≡ false
none_any n p h = fails-if (any n p) (λ e. let m = any-member n p e in clashes m.2 (h m.0 m.1))

-- each: from all, to all
pub all-at : (n : ℕ) (p : ℕ → Bool) → all n p ≡ true → {i : ℕ} → i < n → p i ≡ true
unfolding all
all-at zero p h l = absurd (omega arith)
all-at (suc n) p h {i} l =
    ⊎_elim (λ (q : i ≡ n). rw q (left (p n) (all n p) h)) (λ (q : i < n). all-at n p (right (p n) h) q) (below_suc l)

pub all_from : (n : ℕ) (p : ℕ → Bool) → ((i : ℕ) → i < n → p i ≡ true) → all n p ≡ true
unfolding all
all_from zero p h = refl
all_from (suc n) p h = both (h n (omega arith)) (all_from n p (λ i l. h i (omega arith)))

-- where not each passes, one fails
pub all-fails : (n : ℕ) (p : ℕ → Bool) → all n p ≡ false → (i : ℕ) × (i < n) × (p i ≡ false)
unfolding all
all-fails zero p h = absurd (true≢false h)
all-fails (suc n) p h = go (all-fails n p) (decided (p n))
  where
    go : (all n p ≡ false → (i : ℕ) × (i < n) × (p i ≡ false)) → (p n ≡ true) ⊎ (p n ≡ false) → (i : ℕ) × (i < suc n) × (p i ≡ false)
    go f (inl e) = let m = f (sym (ap (λ (x : Bool). x && all n p) e) ∙ h) in (m.0, omega arith, m.2)
    go f (inr e) = (n, omega arith, e)

-- a member's number is at most the largest
pub largest-at : (n : ℕ) (f : ℕ → ℕ) {i : ℕ} → i < n → f i ≤ largest n f
unfolding largest
largest-at zero f h = absurd (omega arith)
largest-at (suc n) f {i} h = go (λ k. largest-at n f k) (below_suc h)
  where
    go : (i < n → f i ≤ largest n f) → (i ≡ n) ⊎ (i < n) → f i ≤ max (largest n f) (f n)
    go r (inl e) = rw e (le-max_right (largest n f) (f n))
    go r (inr k) = let s = r k in let m = le-max_left (largest n f) (f n) in omega arith

-- the lowest: what a search from i on finds
pub record Lowest (p : ℕ → Bool) (from to at : ℕ) : Type 0 where
  pub above : from ≤ at
  pub under : at ≤ to
  pub passes : at < to → p at ≡ true
  pub lower : (j : ℕ) → from ≤ j → j < at → p j ≡ false

-- none passes
pub lowest-none : (p : ℕ → Bool) {from to : ℕ} → from ≤ to → ((j : ℕ) → from ≤ j → j < to → p j ≡ false) → Lowest p from to to
lowest-none p h none = record { above = h; under = omega arith; passes = λ l. absurd (omega arith); lower = none }

-- where none passes before i, the lowest from i on is the lowest
pub lowest-on : {p : ℕ → Bool} {from i to at : ℕ} → Lowest p from i i → Lowest p i to at → Lowest p from to at
lowest-on {i = i} a b =
    record {
      above = omega arith;
      under = b.under;
      passes = b.passes;
      lower = λ j l h. ⊎_elim (λ (q : j < i). a.lower j l q) (λ (q : i ≤ j). b.lower j q h) (order j i);
    }

seek-left : (p : ℕ → Bool) (left i : ℕ) → Lowest p i (i + left) (seek p left i)
unfolding seek
seek-left p zero i = rw add-zero (lowest-none p (omega arith) (λ j l h. absurd (omega arith)))
seek-left p (suc left) i = go (p i) refl (seek-left p left (suc i))
  where
    go : (a : Bool) → p i ≡ a → Lowest p (suc i) (suc i + left) (seek p left (suc i)) → Lowest p i (i + suc left) (cond a i (seek p left (suc i)))
    go true e r =
        record { above = omega arith; under = omega arith; passes = λ h. e; lower = λ j l h. absurd (omega arith) }
    go false e r =
        record {
          above = let a = r.above in omega arith;
          under = let a = r.under in omega arith;
          passes = λ h. r.passes (omega arith);
          lower = λ j l h. ⊎_elim (λ (q : i ≡ j). rw (← q) e) (λ (q : i < j). r.lower j q h) (eq-or-lt_of_le l);
        }

pub seek-lowest : (p : ℕ → Bool) {from to : ℕ} → from ≤ to → Lowest p from to (seek p (to - from) from)
seek-lowest p {from} {to} h =
    let e : from + (to - from) ≡ to = omega arith in
    rw e at (seek-left p (to - from) from)

pub least-lowest : (n : ℕ) (p : ℕ → Bool) → Lowest p 0 n (least n p)
unfolding least
least-lowest n p = rw sub-zero at (seek-lowest p {from = 0} {to = n} (omega arith))

-- the lowest place is the only one that is lowest
pub seek-at : (p : ℕ → Bool) {from to at : ℕ} → Lowest p from to at → seek p (to - from) from ≡ at
seek-at p {from} {to} {at} s = go (seek p (to - from) from) (seek-lowest p (omega arith))
  where
    go : (k : ℕ) → Lowest p from to k → k ≡ at
    go k r =
        ⊎_elim
        (λ (h : k < at). absurd (clashes (r.passes (omega arith)) (s.lower k r.above h)))
        (λ (h : at ≤ k). ⊎_elim (λ (q : at < k). absurd (clashes (s.passes (omega arith)) (r.lower at s.above q))) (λ (q : k ≤ at). omega arith) (order at k))
        (order k at)

least-only : (n : ℕ) (p : ℕ → Bool) {at : ℕ} → Lowest p 0 n at → least n p ≡ at
unfolding least
least-only n p s = rw sub-zero at (seek-at p s)

pub least_at : (n : ℕ) (p : ℕ → Bool) {i : ℕ} → i < n → p i ≡ true → ((j : ℕ) → j < i → p j ≡ false) → least n p ≡ i
least_at n p l e none-lower =
    least-only n p (record { above = omega arith; under = omega arith; passes = λ h. e; lower = λ j h q. none-lower j q })

pub least-none : (n : ℕ) (p : ℕ → Bool) → ((j : ℕ) → j < n → p j ≡ false) → least n p ≡ n
least-none n p none =
    least-only n p (lowest-none p (omega arith) (λ j h q. none j q))

-- some pass where not each fails
pub any-all-not : (n : ℕ) (p : ℕ → Bool) → not (all n (λ i. not (p i))) ≡ any n p
unfolding any all
any-all-not zero p = refl
any-all-not (suc n) p = flip (p n) (all n (λ i. not (p i))) ∙ ap (λ (a : Bool). p n || a) (any-all-not n p)
  where
    flip : (a c : Bool) → not (not a && c) ≡ (a || not c)
    flip true c = refl
    flip false c = refl

-- tests that agree below n pass together
pub any_same : (n : ℕ) (p q : ℕ → Bool) → ((i : ℕ) → i < n → p i ≡ q i) → any n p ≡ any n q
unfolding any
any_same zero p q h = refl
any_same (suc n) p q h = ap₂ ◌||◌ (h n (omega arith)) (any_same n p q (λ i l. h i (omega arith)))

-- one number more: it fails, or the answer takes it in
pub any-kept : (c : ℕ) (p : ℕ → Bool) (old : Bool) → old ≡ any c p → p c ≡ false → old ≡ any (c + 1) p
unfolding any
any-kept c p old h e = rw (add-one c, e) h

pub any-grown : (c : ℕ) (p : ℕ → Bool) (a old new : Bool) → old ≡ any c p → p c ≡ a → new ≡ (a || old) → new ≡ any (c + 1) p
unfolding any
any-grown c p a old new h e g = rw (add-one c, e, ← h) g

-- a search has come to i: each lower place passed
pub record Searched (places : ℕ) (fails : ℕ → Bool) (i : ℕ) : Type 0 where
  pub inside : i ≤ places
  pub lower : (j : ℕ) → j < i → fails j ≡ false

pub search-start : (places : ℕ) (fails : ℕ → Bool) → Searched places fails 0
search-start places fails = record { inside = omega arith; lower = λ j l. absurd (omega arith) }

-- one more place passes
pub search-next : {places : ℕ} {fails : ℕ → Bool} {i : ℕ} → Searched places fails i → i < places → fails i ≡ false → Searched places fails (i + 1)
search-next {i = i} s l e =
    record { inside = omega arith; lower = λ j k. ⊎_elim (λ (q : j ≡ i). rw q e) (λ (q : j < i). s.lower j q) (below_suc {i = j} {n = i} (omega arith)) }
