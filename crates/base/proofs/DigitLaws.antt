-- Laws of binary digits, of words made of digits, and of division rounded up.
use Prim.Native.Nat.{ℕ, zero, suc, ◌+◌, ◌*◌, ◌^◌, ◌<◌, ◌-◌, ◌%◌, ◌≤◌, ◌/◌}
use mathlib.Core.Path.{◌≡◌, refl, ap₂, ◌∙◌, sym}
use mathlib.Core.Logic.{⊎_elim}
use mathlib.Core.Bool.{Bool, true, false}
use native.Mathlib.Nat.{two-pow-succ, pow-suc, pow-succ', zero-mul, mul-one, suc-mul, mul_assoc, mul-le-mul_left, eq-zero-or-pos}
use native.Mathlib.Nat.{div-eq_of_lt, div-mul-le_self, lt-div-mul-add, add-mul-div_right, add-mul-mod_self_right, mod-one, mod-eq_of_lt}
use native.Mathlib.Numerals.{sub-one}
use native.Mathlib.Omega.{arith}
use lib.Pow.{pow_pos, pow-add, pow_mono}
use lib.Dec.{eqb}
use lib.Arith.{mod-mul}
use Rattle.base.specs.Tests.{digit}
use Rattle.base.specs.Digits.{word, bit, ceil}
use Rattle.base.proofs.BoolLaws.{below_suc}

-- words: below 2 ^ n, and the same for tests that agree below n
pub word_lt : (n : ℕ) (f : ℕ → Bool) → word n f < 2 ^ n
unfolding word
word_lt zero f = omega arith
word_lt (suc n) f = grown (f n) (word_lt n f)
  where
    grown : (b : Bool) → word n f < 2 ^ n → word n f + digit b * 2 ^ n < 2 ^ suc n
    grown true h = omega (arith, two-pow-succ n)
    grown false h = omega (arith, two-pow-succ n)

pub word_same : (n : ℕ) (f g : ℕ → Bool) → ((i : ℕ) → i < n → f i ≡ g i) → word n f ≡ word n g
unfolding word
word_same zero f g h = refl
word_same (suc n) f g h =
    ap₂ (λ (x : ℕ) (y : Bool). x + digit y * 2 ^ n) (word_same n f g (λ i l. h i (omega arith))) (h n (omega arith))

-- the words of no digit and of every digit
pub word_none : (n : ℕ) → word n (λ k. false) ≡ 0
unfolding word
word_none zero = refl
word_none (suc n) = rw (word_none n, zero-mul)

pub word-full : (n : ℕ) → word n (λ k. true) + 1 ≡ 2 ^ n
unfolding word
word-full zero = refl
word-full (suc n) = omega (arith, word-full n, two-pow-succ n)

-- digits: none from k on where w is below 2 ^ k
pub bit-lt : (w k : ℕ) → w < 2 ^ k → bit w k ≡ false
unfolding bit
bit-lt w k h = rw (div-eq_of_lt h)

-- a multiple of 2 ^ n leaves the digits below n as they are, and to a number below 2 ^ n it gives digit n
bit-under : (w a k n : ℕ) → k < n → bit (w + a * 2 ^ n) k ≡ bit w k
unfolding bit
bit-under w a k n h =
    let e : n ≡ suc (n - suc k) + k = omega arith in
    rw (e, pow-add, ← mul_assoc, add-mul-div_right, pow_pos k, pow-suc, ← mul_assoc, add-mul-mod_self_right)

bit-top : (b : Bool) (w n : ℕ) → w < 2 ^ n → bit (w + digit b * 2 ^ n) n ≡ b
unfolding bit
bit-top b w n h = rw (add-mul-div_right w (digit b) (pow_pos n), div-eq_of_lt h) (at b)
  where
    at : (b : Bool) → eqb ((0 + digit b) % 2) 1 ≡ b
    at true = refl
    at false = refl

-- a word's digits are what it is made of, and none above
pub bit_word : (n : ℕ) (f : ℕ → Bool) (k : ℕ) → k < n → bit (word n f) k ≡ f k
unfolding word
bit_word zero f k h = absurd (omega arith)
bit_word (suc n) f k h =
    ⊎_elim
    (λ (q : k ≡ n). rw q (bit-top (f n) (word n f) n (word_lt n f)))
    (λ (q : k < n). bit-under (word n f) (digit (f n)) k n q ∙ bit_word n f k q)
    (below_suc h)

pub bit-word-out : (n : ℕ) (f : ℕ → Bool) (k : ℕ) → n ≤ k → bit (word n f) k ≡ false
bit-word-out n f k h = bit-lt (word n f) k (let a = word_lt n f in let b = pow_mono h in omega arith)

-- a digit is at most 1
pub digit-bounded : (b : Bool) (n : ℕ) → n ≡ digit b → n ≤ 1
digit-bounded true n e = omega arith
digit-bounded false n e = omega arith

pub digit-of : (x : ℕ) → x < 2 → digit (eqb x 1) ≡ x
digit-of zero h = refl
digit-of (suc zero) h = refl
digit-of (suc (suc x)) h = absurd (omega arith)

-- the word of a number's n digits is the number, cut to n digits
pub word_cut : (n w : ℕ) → word n (bit w) ≡ w % 2 ^ n
unfolding word bit
word_cut zero w = sym (mod-one w)
word_cut (suc n) w =
    rw (word_cut n w, pow-succ', mod-mul w {m = 2} {c = 2 ^ n} (omega arith) (pow_pos n), digit-of (w / 2 ^ n % 2) (omega arith)) (omega arith)

pub word-bits : (n w : ℕ) → w < 2 ^ n → word n (bit w) ≡ w
word-bits n w h = word_cut n w ∙ mod-eq_of_lt h

-- so two numbers below 2 ^ n with the same n digits are equal
pub bits-equal : (n v w : ℕ) → v < 2 ^ n → w < 2 ^ n → ((k : ℕ) → k < n → bit v k ≡ bit w k) → v ≡ w
bits-equal n v w a b h = sym (word-bits n v a) ∙ word_same n (bit v) (bit w) h ∙ word-bits n w b

-- rounded up: ceil h s parts of s cover h, and one fewer do not
pub ceil-covers : (h s : ℕ) → 0 < s → h ≤ ceil h s * s
unfolding ceil
ceil-covers h s p = omega (arith, lt-div-mul-add {a = h + (s - 1)} p)

pub ceil-tight : (h s : ℕ) → 0 < s → 0 < h → (ceil h s - 1) * s < h
unfolding ceil
ceil-tight h s p q = go ((h + (s - 1)) / s) (div-mul-le_self (h + (s - 1)) s)
  where
    go : (k : ℕ) → k * s ≤ h + (s - 1) → (k - 1) * s < h
    go zero l = rw zero-mul q
    go (suc k) l = rw sub-one (omega (arith, suc-mul k s))

pub ceil-zero : (s : ℕ) → 0 < s → ceil 0 s ≡ 0
unfolding ceil
ceil-zero s p = div-eq_of_lt (omega arith)

-- n is below 2 ^ n
pub below-pow : (n : ℕ) → n < 2 ^ n
below-pow zero = omega arith
below-pow (suc n) = omega (arith, below-pow n, two-pow-succ n)

-- one fewer than h / s rounded up is no more than h
pub ceil-bounded : (h s : ℕ) → 1 ≤ s → ceil h s - 1 ≤ h
ceil-bounded h s p = ⊎_elim none positive (eq-zero-or-pos h)
  where
    none : h ≡ 0 → ceil h s - 1 ≤ h
    none e = rw (e, ceil-zero s p) (omega arith)

    positive : 0 < h → ceil h s - 1 ≤ h
    positive q = let a = ceil-tight h s p q in let b = mul-le-mul_left (ceil h s - 1) p in omega (arith, mul-one (ceil h s - 1))
