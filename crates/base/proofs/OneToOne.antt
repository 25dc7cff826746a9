-- Counting by a one-to-one map: two tests that it carries onto each other pass equally often. The idea: take one member away on either side.
use Prim.Native.Nat.{ℕ, zero, suc, ◌+◌, ◌<◌}
use mathlib.Core.Path.{◌≡◌, sym, ◌∙◌, ap}
use mathlib.Core.Logic.{⊎_elim}
use mathlib.Core.Bool.{Bool, not, ◌&&◌, true, false, and-true, and-false}
use native.Mathlib.Omega.{arith}
use borrow.Author.Tests.{eq-eqb, ne_eqb}
use lib.Dec.{eqb}
use Rattle.base.specs.Tests.{digit}
use Rattle.base.specs.Counting.{count}
use Rattle.base.proofs.BoolLaws.{below_suc, decided, left, right, both, not-fails, fails-not, clashes, fails-if}
use Rattle.base.proofs.CountingLaws.{count_same, count_none}

-- all but k
abbrev pub without : (ℕ → Bool) → ℕ → ℕ → Bool
without q k i = q i && not (eqb i k)

pub count-without : (n : ℕ) (q : ℕ → Bool) {k : ℕ} → k < n → q k ≡ true → count n (without q k) + 1 ≡ count n q
unfolding count
count-without zero q l h = absurd (omega arith)
count-without (suc n) q {k} l h =
    ⊎_elim
    (λ (e : k ≡ n). top e)
    (λ (m : k < n).
    let r = count-without n q m h in
    let d : digit (without q k n) ≡ digit (q n) = rw (ne_eqb n k (λ e. omega arith)) (ap digit (and-true (q n))) in
    omega arith)
    (below_suc l)
  where
    top : k ≡ n → count n (without q k) + digit (without q k n) + 1 ≡ count n q + digit (q n)
    top e =
        let a = count_same n (without q k) q (λ i m. rw (ne_eqb i k (λ z. omega arith)) (and-true (q i))) in
        let x : digit (without q k n) ≡ 0 = rw (eq-eqb n k (sym e)) (ap digit (and-false (q n))) in
        let y : digit (q n) ≡ 1 = rw (← e) (rw h) in
        omega arith

-- f carries what passes p below m one to one onto what passes q below n
pub record Onto (m n : ℕ) (p q : ℕ → Bool) (f : ℕ → ℕ) : Type 0 where
  pub into : (c : ℕ) → c < m → p c ≡ true → (f c < n) × (q (f c) ≡ true)
  pub once : (c d : ℕ) → c < m → d < m → p c ≡ true → p d ≡ true → f c ≡ f d → c ≡ d
  pub hit : (k : ℕ) → k < n → q k ≡ true → (c : ℕ) × (c < m) × (p c ≡ true) × (f c ≡ k)

pub count-onto : (m n : ℕ) (p q : ℕ → Bool) (f : ℕ → ℕ) → Onto m n p q f → count m p ≡ count n q
unfolding count
count-onto zero n p q f o =
    sym (count_none n q (λ k l. fails-if (q k) (λ t. let c = o.hit k l t in omega arith)))
count-onto (suc m) n p q f o =
    ⊎_elim
    (λ (t : p m ≡ true).
    let i = o.into m (omega arith) t in
    let r = count-onto m n p (without q (f m)) f (taken t) in
    let w = count-without n q i.0 i.1 in
    let d : digit (p m) ≡ 1 = rw t in
    omega arith)
    (λ (t : p m ≡ false).
    let r = count-onto m n p q f (skipped t) in
    let d : digit (p m) ≡ 0 = rw t in
    omega arith)
    (decided (p m))
  where
    lower : (c : ℕ) → c < suc m → (c ≡ m → ⊥) → c < m
    lower c l e = ⊎_elim (λ q. absurd (e q)) (λ q. q) (below_suc l)

    skipped : p m ≡ false → Onto m n p q f
    skipped t =
        record {
          into = λ c l. o.into c (omega arith);
          once = λ c d l k. o.once c d (omega arith) (omega arith);
          hit = λ k l h. let c = o.hit k l h in (c.0, lower c.0 c.1 (λ e. clashes c.2 (rw e t)), c.2, c.3);
        }

    taken : p m ≡ true → Onto m n p (without q (f m)) f
    taken t =
        record {
          into = λ c l h. let i = o.into c (omega arith) h in (i.0, both i.1 (not-fails (apart c l h)));
          once = λ c d l k. o.once c d (omega arith) (omega arith);
          hit = λ k l h. let c = o.hit k l (left (q k) _ h) in
              let other = fails-not _ (right (q k) h) in
              (c.0, lower c.0 c.1 (λ e. clashes (eq-eqb k (f m) (sym c.3 ∙ ap f e)) other), c.2, c.3);
        }
      where
        apart : (c : ℕ) → c < m → p c ≡ true → eqb (f c) (f m) ≡ false
        apart c l h = ne_eqb (f c) (f m) (λ e. let z = o.once c m (omega arith) (omega arith) h t e in omega arith)
