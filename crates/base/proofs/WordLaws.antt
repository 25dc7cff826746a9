-- Laws of one word, digit by digit: the operations on words, a power of two, the word that is zero, and the counts of ones and zeros.
use Prim.Native.Nat.{ℕ, zero, suc, ◌+◌, ◌*◌, ◌/◌, ◌%◌, ◌^◌, ◌≤◌, ◌<◌, ◌-◌}
use mathlib.Core.Path.{◌≡◌, refl, sym, ◌∙◌, ap, ap₂, fun_ext}
use mathlib.Core.Logic.{⊎_elim}
use mathlib.Core.Bool.{Bool, true, false, xor, ◌&&◌, ◌||◌}
use native.Mathlib.Nat.{one-mul, zero-add, add_comm, div-one, eq-or-lt_of_le}
use native.Mathlib.Numerals.{one-add}
use native.Mathlib.Omega.{arith}
use borrow.Author.Tests.{eq-eqb, ne_eqb, ltb-true, lt-ltb, le-ltb}
use lib.Dec.{eqb, ltb, lit<}
use lib.Bits.{bit_and, bit_or, bit_xor, and_mask, and_shr, or_shr, xor_shr, and_mod, or_mod, xor_mod, or_shifted}
use lib.Count.{ones, count_trailing_zeros, under, ones_cat}
use lib.Pow.{pow_pos, pow_mono, shl_exact, shr-shr}
use Rattle.base.specs.Tests.{digit}
use Rattle.base.specs.Counting.{count, among}
use Rattle.base.specs.Digits.{bit, word}
use Rattle.base.proofs.TestLaws.{Lowest, lowest-none}
use Rattle.base.proofs.BoolLaws.{fails-if, right, order}
use Rattle.base.proofs.CountingLaws.{count_same, among-all}
use Rattle.base.proofs.DigitLaws.{digit-of, bit-lt, bit_word, bit-word-out, word_same, word_none, word_lt, word-bits, bits-equal}
use Rattle.base.proofs.BoundLaws.{count-grows}

-- digit k of two words combined is their digits k combined, by the operation's table for two digits
module _
    (op : ℕ → ℕ → ℕ)
    (on : Bool → Bool → Bool)
    (shr : (a b k : ℕ) → op a b / 2 ^ k ≡ op (a / 2 ^ k) (b / 2 ^ k))
    (rem : (a b k : ℕ) → op a b % 2 ^ k ≡ op (a % 2 ^ k) (b % 2 ^ k))
    (table : (x y : Bool) → eqb (op (digit x) (digit y)) 1 ≡ on x y) where
  by-table : (x y : ℕ) → x < 2 → y < 2 → eqb (op x y) 1 ≡ on (eqb x 1) (eqb y 1)
  by-table x y h l =
      ap₂ (λ (v w : ℕ). eqb (op v w) 1) (sym (digit-of x h)) (sym (digit-of y l)) ∙ table (eqb x 1) (eqb y 1)

  bit-op : (a b k : ℕ) → bit (op a b) k ≡ on (bit a k) (bit b k)
  unfolding bit
  bit-op a b k =
      rw (shr, rem (a / 2 ^ k) (b / 2 ^ k) 1) (by-table (a / 2 ^ k % 2) (b / 2 ^ k % 2) (omega arith) (omega arith))

and-table : (x y : Bool) → eqb (bit_and (digit x) (digit y)) 1 ≡ (x && y)
and-table false y = refl
and-table true false = refl
and-table true true = refl

or-table : (x y : Bool) → eqb (bit_or (digit x) (digit y)) 1 ≡ (x || y)
or-table false false = refl
or-table false true = refl
or-table true false = refl
or-table true true = refl

xor-table : (x y : Bool) → eqb (bit_xor (digit x) (digit y)) 1 ≡ xor x y
unfolding xor
xor-table false false = refl
xor-table false true = refl
xor-table true false = refl
xor-table true true = refl

pub bit-and : (a b k : ℕ) → bit (bit_and a b) k ≡ (bit a k && bit b k)
bit-and = bit-op bit_and ◌&&◌ and_shr and_mod and-table

pub bit-or : (a b k : ℕ) → bit (bit_or a b) k ≡ (bit a k || bit b k)
bit-or = bit-op bit_or ◌||◌ or_shr or_mod or-table

pub bit-xor : (a b k : ℕ) → bit (bit_xor a b) k ≡ xor (bit a k) (bit b k)
bit-xor = bit-op bit_xor xor xor_shr xor_mod xor-table

-- zero has no digit, and a word with none below n is zero
pub bit-zero : (k : ℕ) → bit 0 k ≡ false
bit-zero k = bit-lt 0 k (pow_pos k)

pub none-zero : (n w : ℕ) → w < 2 ^ n → ((k : ℕ) → k < n → bit w k ≡ false) → w ≡ 0
none-zero n w h none = bits-equal n w 0 h (pow_pos n) (λ k l. none k l ∙ sym (bit-zero k))

-- a power of two has one digit
pow-word : (j : ℕ) → word (suc j) (λ k. eqb k j) ≡ 2 ^ j
unfolding word
pow-word j =
    rw (word_same j (λ k. eqb k j) (λ k. false) (λ i l. ne_eqb i j (λ e. omega arith)), word_none j, eq-eqb j j refl, one-mul, zero-add)

pub bit-pow : (j k : ℕ) → bit (2 ^ j) k ≡ eqb k j
bit-pow j k =
    ap (λ (w : ℕ). bit w k) (sym (pow-word j))
    ∙ ⊎_elim
    (λ (l : k < suc j). bit_word (suc j) (λ i. eqb i j) k l)
    (λ (l : suc j ≤ k). bit-word-out (suc j) (λ i. eqb i j) k l ∙ sym (ne_eqb k j (λ q. omega arith)))
    (order k (suc j))

-- 1 shifted up within the width loses nothing
pub one_shifted : (n k : ℕ) → k < n → 1 * 2 ^ k % 2 ^ n ≡ 2 ^ k
one_shifted n k h = shl_exact 1 k n (lit< tt) (omega arith) ∙ one-mul (2 ^ k)

-- on top of a word below 2 ^ j, 2 ^ j is one digit more
pub bit-top : (j w : ℕ) → w < 2 ^ j → (k : ℕ) → bit (2 ^ j + w) k ≡ (eqb k j || bit w k)
bit-top j w h k =
    ap (λ (v : ℕ). bit v k) (sym (or_shifted 1 j w h ∙ ap (λ (v : ℕ). v + w) (one-mul (2 ^ j))))
    ∙ bit-or (1 * 2 ^ j) w k
    ∙ ap (λ (b : Bool). b || bit w k) (ap (λ (v : ℕ). bit v k) (one-mul (2 ^ j)) ∙ bit-pow j k)

-- the ones of a word are its digits, counted
ones-digit : (b : Bool) → ones (digit b) ≡ digit b
unfolding ones
ones-digit true = refl
ones-digit false = refl

ones-word : (n : ℕ) (f : ℕ → Bool) → ones (word n f) ≡ count n f
unfolding word count ones
ones-word zero f = refl
ones-word (suc n) f =
    ap ones (add_comm (word n f) (digit (f n) * 2 ^ n))
    ∙ ones_cat n (digit (f n)) (word n f) (word_lt n f)
    ∙ ap₂ (λ (x y : ℕ). x + y) (ones-digit (f n)) (ones-word n f)
    ∙ add_comm (digit (f n)) (count n f)

pub count_bits : (n w : ℕ) → w < 2 ^ n → count n (bit w) ≡ ones w
count_bits n w h = sym (ones-word n (bit w)) ∙ ap ones (word-bits n w h)

pub ones-top : (j w : ℕ) → w < 2 ^ j → ones (2 ^ j + w) ≡ ones w + 1
unfolding ones
ones-top j w h =
    ap (λ (v : ℕ). ones (v + w)) (sym (one-mul (2 ^ j))) ∙ ones_cat j 1 w h ∙ add_comm 1 (ones w)

-- the k lowest digits of a word are those of the word without its highest, where it has more than k
module _ (k j w : ℕ) (word-bounded : w < 2 ^ j) (more : k ≤ ones w) where
  top-agrees : (i : ℕ) → i < j → bit (2 ^ j + w) i ≡ bit w i
  top-agrees i l = bit-top j w word-bounded i ∙ rw (ne_eqb i j (λ e. omega arith))

  below_top : (i : ℕ) → i < j → among k (bit (2 ^ j + w)) i ≡ among k (bit w) i
  unfolding among
  below_top i l =
      ap₂ (λ (a : Bool) (c : ℕ). a && ltb c k) (top-agrees i l) (count_same i (bit (2 ^ j + w)) (bit w) (λ t q. top-agrees t (omega arith)))

  from-top : (f : ℕ → Bool) → k ≤ count j f → (i : ℕ) → j ≤ i → among k f i ≡ false
  unfolding among
  from-top f h i l =
      fails-if (among k f i) (λ e. omega (arith, ltb-true (count i f) k (right (f i) e), count-grows f l))

  pub among-top : among k (bit (2 ^ j + w)) ≡ among k (bit w)
  among-top =
      let c = count_bits j w word-bounded in
      let d = count_same j (bit (2 ^ j + w)) (bit w) top-agrees in
      fun_ext (λ i. ⊎_elim
      (λ (l : i < j). below_top i l)
      (λ (l : j ≤ i). from-top (bit (2 ^ j + w)) (omega arith) i l ∙ sym (from-top (bit w) (omega arith) i l))
      (order i j))

-- and all of its digits, where it has no more than k
pub among-whole : (n k w : ℕ) → w < 2 ^ n → ones w ≤ k → among k (bit w) ≡ bit w
unfolding among
among-whole n k w h l =
    fun_ext (λ i. ⊎_elim
    (λ (q : i < n). among-all n k (bit w) (omega (arith, count_bits n w h)) q)
    (λ (q : n ≤ i). let z : bit w i ≡ false = bit-lt w i (let m = pow_mono q in omega arith) in rw z)
    (order i n))

-- shifted down by k, digit t is what digit k + t was
pub bit_shifted : (w k t : ℕ) → bit (w / 2 ^ k) t ≡ bit w (k + t)
unfolding bit
bit_shifted w k t = rw shr-shr

-- as many zeros below the lowest one as is that digit's place
bit-first : (w : ℕ) → bit w 0 ≡ eqb (w % 2) 1
unfolding bit
bit-first w = rw div-one

bit-half : (w k : ℕ) → bit w (suc k) ≡ bit (w / 2) k
bit-half w k = rw (bit_shifted w 1 k, one-add)

pub trailing-lowest : (n w : ℕ) → Lowest (bit w) 0 n (count_trailing_zeros n w)
unfolding count_trailing_zeros
trailing-lowest zero w =
    lowest-none _ (omega arith) (λ j l h. absurd (omega arith))
trailing-lowest (suc n) w = go (w % 2) refl (omega arith) (count_trailing_zeros n (w / 2)) (trailing-lowest n (w / 2))
  where
    go : (d : ℕ) → w % 2 ≡ d → d < 2 → (t : ℕ) → Lowest (bit (w / 2)) 0 n t → Lowest (bit w) 0 (suc n) (under d t)
    go zero e h t s =
        record { above = omega arith; under = let u = s.under in omega arith; passes = λ l. bit-half w t ∙ s.passes (omega arith); lower = later }
      where
        later : (j : ℕ) → 0 ≤ j → j < suc t → bit w j ≡ false
        later zero l q = bit-first w ∙ rw e
        later (suc j) l q = bit-half w j ∙ s.lower j (omega arith) (omega arith)
    go (suc zero) e h t s =
        record { above = omega arith; under = omega arith; passes = λ l. bit-first w ∙ rw e; lower = λ j l q. absurd (omega arith) }
    go (suc (suc d)) e h t s = absurd (omega arith)

-- digit k of a word, as the code reads it
pub read-digit : (w k : ℕ) → eqb (bit_and (w / 2 ^ k) 1) 1 ≡ bit w k
unfolding bit
read-digit w k = ap (λ (x : ℕ). eqb x 1) (and_mask (w / 2 ^ k) 1)

-- 2 ^ n - 1 has the n lowest digits
pub bit-ones : (n k : ℕ) → bit (2 ^ n - 1) k ≡ ltb k n
bit-ones zero k = bit-zero k ∙ sym (le-ltb k 0 (omega arith))
bit-ones (suc n) k =
    let z = pow_pos n in
    let e : 2 ^ suc n - 1 ≡ 2 ^ n + (2 ^ n - 1) = omega arith in
    ap (λ (w : ℕ). bit w k) e ∙ bit-top n (2 ^ n - 1) (omega arith) k ∙ ap (λ (a : Bool). eqb k n || a) (bit-ones n k) ∙ more
  where
    more : (eqb k n || ltb k n) ≡ ltb k (suc n)
    more =
        ⊎_elim
        (λ (l : k < n). rw (ne_eqb k n (λ e. omega arith), lt-ltb k n l, lt-ltb k (suc n) (omega arith)))
        (λ (l : n ≤ k).
        ⊎_elim
        (λ (e : n ≡ k). rw (eq-eqb k n (sym e), lt-ltb k (suc n) (omega arith)))
        (λ (q : n < k). rw (ne_eqb k n (λ e. omega arith), le-ltb k n l, le-ltb k (suc n) (omega arith)))
        (eq-or-lt_of_le l))
        (order k n)
