-- The theorem about codes. The idea: a code below 2 ^ p is the word of its p digits, so one that is not a given word has a digit of its own.
use Prim.Native.Nat.{ℕ, ◌+◌, ◌-◌, ◌^◌, ◌≤◌, ◌<◌}
use mathlib.Core.Path.{◌≡◌, sym, ◌∙◌}
use mathlib.Core.Logic.{inl, inr, ⊎_elim}
use mathlib.Core.Bool.{Bool, true, false, beq}
use native.Mathlib.Nat.{eq-or-lt_of_le}
use native.Mathlib.Omega.{arith}
use borrow.Author.Tests.{leb-true, leb-false}
use lib.Dec.{leb}
use Rattle.base.specs.Tests.{all}
use Rattle.base.specs.Digits.{bit, word}
use Rattle.base.proofs.BoolLaws.{Decided, decided, passes-if, fails-if, order, beq-true, beq-false}
use Rattle.base.proofs.TestLaws.{all-at, all-fails, Lowest, least-lowest}
use Rattle.base.proofs.DigitLaws.{word_same, word-bits, word_none, word-full, below-pow}
use Rattle.rules.specs.Vectors.{code_width, code_bit}

-- The width p is the least number with 2 ^ p at least N + 2.
pub width-least : (nets : ℕ) → (nets + 2 ≤ 2 ^ code_width nets) × ((q : ℕ) → q < code_width nets → 2 ^ q < nets + 2)
unfolding code_width
width-least nets = (enough, λ q k. leb-false (nets + 2) (2 ^ q) (found.lower q (omega arith) k))
  where
    found : Lowest (λ q. leb (nets + 2) (2 ^ q)) 0 (nets + 2) (code_width nets)
    found = least-lowest (nets + 2) (λ q. leb (nets + 2) (2 ^ q))

    enough : nets + 2 ≤ 2 ^ code_width nets
    enough =
        ⊎_elim
        (λ (e : code_width nets ≡ nets + 2). rw e (omega (arith, below-pow (nets + 2))))
        (λ (k : code_width nets < nets + 2). leb-true (nets + 2) (2 ^ code_width nets) (found.passes k))
        (eq-or-lt_of_le found.under)

-- and so at most k where 2 ^ k holds every code
pub width-bounded : (k nets : ℕ) → nets + 2 ≤ 2 ^ k → code_width nets ≤ k
width-bounded k nets h =
    ⊎_elim (λ (l : k < code_width nets). absurd (omega (arith, (width-least nets).1 k l))) (λ (l : code_width nets ≤ k). l) (order k (code_width nets))

-- a code that is not the word of f has a pattern whose bit is not f's
code-not : (p i : ℕ) (f : ℕ → Bool) → i + 2 ≤ 2 ^ p → (i + 1 ≡ word p f → ⊥) → (k : ℕ) × (k < p) × (code_bit p k i ≡ f (p - (k + 1)) → ⊥)
unfolding code_bit
code-not p i f h n = go (decided (all p same))
  where
    same : ℕ → Bool
    same k = beq (code_bit p k i) (f (p - (k + 1)))

    at : all p same ≡ true → (q : ℕ) → q < p → bit (i + 1) q ≡ f q
    at e q l =
        let back : p - (p - (q + 1) + 1) ≡ q = omega arith in
        rw back at (beq-true (code_bit p (p - (q + 1)) i) (f (p - (p - (q + 1) + 1))) (all-at p same e {i = p - (q + 1)} (omega arith)))

    go : Decided (all p same) → (k : ℕ) × (k < p) × (code_bit p k i ≡ f (p - (k + 1)) → ⊥)
    go (inl e) = absurd (n (sym (word-bits p (i + 1) (omega arith)) ∙ word_same p (bit (i + 1)) f (at e)))
    go (inr e) =
        let m = all-fails p same e in
        (m.0, m.1, beq-false (code_bit p m.0 i) (f (p - (m.0 + 1))) m.2)

-- The codes of two different nets differ in some pattern.
pub codes-differ : (p i j : ℕ) → i + 2 ≤ 2 ^ p → j + 2 ≤ 2 ^ p → (i ≡ j → ⊥) → (k : ℕ) × (k < p) × (code_bit p k i ≡ code_bit p k j → ⊥)
unfolding code_bit
codes-differ p i j hi hj n =
    code-not p i (bit (j + 1)) hi (λ e. n (omega (arith, word-bits p (j + 1) (omega arith))))

-- Each net's code has a one in some pattern.
pub code-holds-one : (p i : ℕ) → i + 2 ≤ 2 ^ p → (k : ℕ) × (k < p) × (code_bit p k i ≡ true)
code-holds-one p i h =
    let m = code-not p i (λ k. false) h (λ e. omega (arith, word_none p)) in
    (m.0, m.1, passes-if (code_bit p m.0 i) m.2)

-- Each net's code has a zero in some pattern, where it is not the last number of p digits.
pub code-holds-zero : (p i : ℕ) → i + 3 ≤ 2 ^ p → (k : ℕ) × (k < p) × (code_bit p k i ≡ false)
code-holds-zero p i h =
    let m = code-not p i (λ k. true) (omega arith) (λ e. omega (arith, word-full p)) in
    (m.0, m.1, fails-if (code_bit p m.0 i) m.2)

-- what the code of a board's nets promises, at the width of that many nets
pub record NetCodes (nets : ℕ) : Type 0 where
  pub wide : nets + 2 ≤ 2 ^ code_width nets
  pub narrow : (q : ℕ) → q < code_width nets → 2 ^ q < nets + 2
  pub differ : (i j : ℕ) → i < nets → j < nets → (i ≡ j → ⊥) → (k : ℕ) × (k < code_width nets) × (code_bit (code_width nets) k i ≡ code_bit (code_width nets) k j → ⊥)
  pub holds-one : (i : ℕ) → i < nets → (k : ℕ) × (k < code_width nets) × (code_bit (code_width nets) k i ≡ true)
  pub holds-zero : (i : ℕ) → i < nets → (k : ℕ) × (k < code_width nets) × (code_bit (code_width nets) k i ≡ false)

-- The width is the least that will do; at it any two nets' codes differ in some pattern, and each code has a one and a zero.
pub net-codes : (nets : ℕ) → NetCodes nets
net-codes nets =
    let w = width-least nets in
    record {
      wide = w.0;
      narrow = w.1;
      differ = λ i j hi hj. codes-differ (code_width nets) i j (omega arith) (omega arith);
      holds-one = λ i h. code-holds-one (code_width nets) i (omega arith);
      holds-zero = λ i h. code-holds-zero (code_width nets) i (omega arith);
    }
