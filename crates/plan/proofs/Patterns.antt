-- A pattern word by word: for 64 nets from a multiple of 64 on, each of the codes' six lowest digits is always the same word, and a higher
-- one changes at most before the last net.
use Prim.Native.Nat.{ℕ, zero, suc, ◌+◌, ◌*◌, ◌-◌, ◌/◌, ◌%◌, ◌^◌, ◌≤◌, ◌<◌}
use mathlib.Core.Path.{◌≡◌, refl, sym, ◌∙◌, ap, fun_ext}
use mathlib.Core.Logic.{⊎_elim}
use mathlib.Core.Bool.{Bool, true, false, cond, not, xor}
use mathlib.Core.List.{List, [], ◌∷◌}
use native.Mathlib.Omega.{arith}
use borrow.Author.Tests.{eq-eqb, ne_eqb, lt-ltb, le-ltb}
use lib.Dec.{ltb, eqb}
use lib.ListN.{get_or}
use Rattle.base.specs.Tests.{all}
use Rattle.base.specs.Digits.{bit}
use Rattle.base.proofs.BoolLaws.{alike, fails-not, order}
use Rattle.base.proofs.TestLaws.{all-at}
use Rattle.base.proofs.WordLaws.{bit-zero, bit-pow, bit_shifted, bit-ones}
use Rattle.words.specs.Sets.{member, nothing}
use Rattle.words.proofs.SetLaws.{Written}

-- digits 0 to 5 of the codes 1 to 64
abbrev low_words : List ℕ
low_words =
    0x5555555555555555 ∷ 0x6666666666666666 ∷ 0x7878787878787878 ∷ 0x7f807f807f807f80 ∷ 0x7fff80007fff8000 ∷ 0x7fffffff80000000 ∷ []

-- these are their words, by a test at each digit
right : ℕ → ℕ → Bool
right s k = not (xor (bit (get_or low_words s 0) k) (bit (k + 1) s))

low-digit-first : (s k : ℕ) → s < 6 → k < 64 → bit (get_or low_words s 0) k ≡ bit (k + 1) s
unfolding right all xor bit
low-digit-first s k l h = alike _ _ (fails-not _ (all-at 64 (right s) (all-at 6 (λ s. all 64 (right s)) refl l) h))

-- and so are those of the next 64 codes, and so on
same-digit : (s x y : ℕ) → x / 2 ^ s % 2 ≡ y / 2 ^ s % 2 → bit x s ≡ bit y s
unfolding bit
same-digit s x y e = ap (λ (d : ℕ). eqb d 1) e

low-digit-repeats : (s w k : ℕ) → s < 6 → bit (64 * w + k + 1) s ≡ bit (k + 1) s
low-digit-repeats zero w k l = same-digit 0 (64 * w + k + 1) (k + 1) (omega arith)
low-digit-repeats (suc zero) w k l = same-digit 1 (64 * w + k + 1) (k + 1) (omega arith)
low-digit-repeats (suc (suc zero)) w k l = same-digit 2 (64 * w + k + 1) (k + 1) (omega arith)
low-digit-repeats (suc (suc (suc zero))) w k l = same-digit 3 (64 * w + k + 1) (k + 1) (omega arith)
low-digit-repeats (suc (suc (suc (suc zero)))) w k l = same-digit 4 (64 * w + k + 1) (k + 1) (omega arith)
low-digit-repeats (suc (suc (suc (suc (suc zero))))) w k l = same-digit 5 (64 * w + k + 1) (k + 1) (omega arith)
low-digit-repeats (suc (suc (suc (suc (suc (suc s)))))) w k l = absurd (omega arith)

pub low-digit-word : (s w k : ℕ) → s < 6 → k < 64 → bit (get_or low_words s 0) k ≡ bit (64 * w + k + 1) s
low-digit-word s w k l h = low-digit-first s k l h ∙ sym (low-digit-repeats s w k l)

-- a higher digit is that of the word's number, but at the last net that of the next word's
pub high_word : (s w v k : ℕ) → v ≡ w + 1 → 6 ≤ s → k < 64 → cond (ltb k 63) (bit w (s - 6)) (bit v (s - 6)) ≡ bit (64 * w + k + 1) s
high_word s w v k e l h = ⊎_elim below last (order k 63)
  where
    up : (x : ℕ) → x ≡ (64 * w + k + 1) / 64 → bit x (s - 6) ≡ bit (64 * w + k + 1) s
    up x q =
        let f : 6 + (s - 6) ≡ s = omega arith in
        ap (λ (y : ℕ). bit y (s - 6)) q ∙ bit_shifted (64 * w + k + 1) 6 (s - 6) ∙ ap (bit (64 * w + k + 1)) f

    below : k < 63 → cond (ltb k 63) (bit w (s - 6)) (bit v (s - 6)) ≡ bit (64 * w + k + 1) s
    below q = rw (lt-ltb k 63 q) (up w (omega arith))

    last : 63 ≤ k → cond (ltb k 63) (bit w (s - 6)) (bit v (s - 6)) ≡ bit (64 * w + k + 1) s
    last q = rw (le-ltb k 63 q) (up v (omega arith))

-- 63 digits of one value, and the highest of another
abbrev spread_of : Bool → Bool → ℕ
spread_of true true = 0xffffffffffffffff
spread_of true false = 0x7fffffffffffffff
spread_of false true = 0x8000000000000000
spread_of false false = 0

either_way : (a b : Bool) → b ≡ cond a b b
either_way true b = refl
either_way false b = refl

by_itself : (a : Bool) → a ≡ cond a true false
by_itself true = refl
by_itself false = refl

pub spread-is : (lower top : Bool) (k : ℕ) → k < 64 → bit (spread_of lower top) k ≡ cond (ltb k 63) lower top
spread-is true true k h = bit-ones 64 k ∙ lt-ltb k 64 h ∙ either_way (ltb k 63) true
spread-is true false k h = bit-ones 63 k ∙ by_itself (ltb k 63)
spread-is false true k h =
    bit-pow 63 k
    ∙ ⊎_elim
    (λ (l : k < 63). rw (ne_eqb k 63 (λ e. omega arith), lt-ltb k 63 l))
    (λ (l : 63 ≤ k). rw (eq-eqb k 63 (omega arith), le-ltb k 63 l))
    (order k 63)
spread-is false false k h = bit-zero k ∙ either_way (ltb k 63) false

-- where a word that starts at 64 * w is cut, so that its numbers are below n
pub below-from : (w n k : ℕ) → ltb k (n - 64 * w) ≡ ltb (64 * w + k) n
below-from w n k =
    ⊎_elim
    (λ (l : 64 * w + k < n). rw (lt-ltb k (n - 64 * w) (omega arith), lt-ltb (64 * w + k) n l))
    (λ (l : n ≤ 64 * w + k). rw (le-ltb k (n - 64 * w) (omega arith), le-ltb (64 * w + k) n l))
    (order (64 * w + k) n)

-- words that were written as far as f goes, in words that held nothing, hold f
pub written-far : {f : ℕ → Bool} {before after : List ℕ} {j : ℕ} → Written f before j after → member before ≡ nothing → ((i : ℕ) → 64 * j ≤ i → f i ≡ false) → member after ≡ f
unfolding member
written-far {f} {before} {after} {j} r none out =
    fun_ext (λ i. ⊎_elim
    (λ (l : i < 64 * j). r.done i l)
    (λ (l : 64 * j ≤ i). ap (λ (w : ℕ). bit w (i % 64)) (r.rest (i / 64) (omega arith)) ∙ ap (λ (g : ℕ → Bool). g i) none ∙ sym (out i l))
    (order i (64 * j)))
