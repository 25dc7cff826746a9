-- Byte by byte: the cells that are left after two rows.
use Prim.Native.Nat.{ℕ, ◌+◌, ◌*◌, ◌/◌, ◌%◌, ◌≤◌, ◌<◌}
use mathlib.Core.Path.{◌≡◌, refl, sym, ◌∙◌, ap}
use mathlib.Core.Logic.{⊎_elim}
use mathlib.Core.Bool.{Bool, false, not, ◌&&◌, ◌||◌, and-true}
use mathlib.Core.List.{List}
use native.Mathlib.Numerals.{add-one}
use native.Mathlib.Omega.{arith}
use lib.Bits.{bit_and, bit_xor}
use lib.ListN.{length, get_or, drop, set, length-set}
use lib.Seq.{get_or-set_same, get_or-set_other, set-get_or, get_or-drop}
use Rattle.base.specs.Digits.{bit, word}
use Rattle.base.specs.Tests.{any}
use Rattle.base.proofs.DigitLaws.{word_same, word-bits, bit_word}
use Rattle.base.proofs.BoolLaws.{order}
use Rattle.base.proofs.WordLaws.{bit-and, bit-xor, bit-zero}
use Rattle.rules.specs.File.{byte_at, byte_values}
use Rattle.rules.specs.Rows.{row_bit}
use Rattle.readings.specs.Readings.{stray, staying, stray_at, Left}

-- where no digit is both left and unlike, all stay
all_stay :
    (left unlike : ℕ) (changing : ℕ → Bool) (entries : List ℕ) →
    left < byte_values →
    bit_and left unlike ≡ 0 →
    left ≡ word 8 (staying left unlike changing entries)
unfolding staying
all_stay left unlike changing entries l e =
    sym (word-bits 8 left l)
    ∙ word_same 8 _ _ (λ i h. same (bit left i) (bit unlike i) (stray changing (get_or entries i 0)) (apart i))
  where
    apart : (i : ℕ) → (bit left i && bit unlike i) ≡ false
    apart i = sym (bit-and left unlike i) ∙ ap (λ (x : ℕ). bit x i) e ∙ bit-zero i

    same : (a b s : Bool) → (a && b) ≡ false → a ≡ (a && not (b && s))
    same a b s h = grind arith

pub byte-stays :
    (left : List ℕ) (j unlike : ℕ) (changing : ℕ → Bool) (entries : List ℕ) →
    get_or left j 0 < byte_values →
    bit_and (get_or left j 0) unlike ≡ 0 →
    left ≡ set left j (word 8 (staying (get_or left j 0) unlike changing entries))
byte-stays left j unlike changing entries l e =
    sym (set-get_or left j 0) ∙ ap (set left j) (all_stay (get_or left j 0) unlike changing entries l e)

-- a byte more
module _
    (lost : ℕ → Bool)
    (before after : List ℕ)
    (j x : ℕ)
    (m : Left lost before (8 * j) after)
    (room : j < length before)
    (byte : (i : ℕ) → i < 8 → bit x i ≡ (bit (get_or after j 0) i && not (lost (8 * j + i)))) where
  -- a cell of byte j, and one of another
  own : (c : ℕ) → 8 * j ≤ c → c < 8 * (j + 1) → row_bit (set after j x) 0 c ≡ (row_bit before 0 c && not (lost c))
  unfolding row_bit byte_at
  own c l h =
      let q : 0 + c / 8 ≡ j = omega arith in
      let s : 8 * j + c % 8 ≡ c = omega arith in
      let old = m.rest c l in
      ap (λ (y : ℕ). bit (get_or (set after j x) y 0) (c % 8)) q
      ∙ ap (λ (y : ℕ). bit y (c % 8)) (get_or-set_same after j x 0 (omega (arith, m.long)))
      ∙ byte (c % 8) (omega arith)
      ∙ ap (λ (y : ℕ). bit (get_or after j 0) (c % 8) && not (lost y)) s
      ∙ ap (λ (a : Bool). a && not (lost c)) (ap (λ (y : ℕ). bit (get_or after y 0) (c % 8)) (sym q) ∙ old)

  other : (c : ℕ) → (c / 8 ≡ j → ⊥) → row_bit (set after j x) 0 c ≡ row_bit after 0 c
  unfolding row_bit byte_at
  other c h = ap (λ (y : ℕ). bit y (c % 8)) (get_or-set_other after j (0 + c / 8) x 0 (λ e. h (omega arith)))

  left-more : Left lost before (8 * (j + 1)) (set after j x)
  left-more =
      record {
        long = length-set after j x ∙ m.long;
        done = λ c h. ⊎_elim
            (λ (l : c < 8 * j). other c (λ e. omega arith) ∙ m.done c l)
            (λ (l : 8 * j ≤ c). own c l h)
            (order c (8 * j));
        rest = λ c h. other c (λ e. omega arith) ∙ m.rest c (omega arith);
      }

-- what is lost in one row and another, and cells that are lost alike
pub left-then :
    {f g : ℕ → Bool} {before between after : List ℕ} {n : ℕ} →
    Left f before n between →
    Left g between n after →
    Left (λ c. g c || f c) before n after
left-then {f} {g} {before} m k =
    record {
      long = k.long ∙ m.long;
      done = λ c l. k.done c l ∙ rw (m.done c l) (both (row_bit before 0 c) (f c) (g c));
      rest = λ c l. k.rest c l ∙ m.rest c l;
    }
  where
    both : (a x y : Bool) → ((a && not x) && not y) ≡ (a && not (y || x))
    both a x y = grind arith

pub left-all : {f : ℕ → Bool} {before : List ℕ} {n : ℕ} → ((c : ℕ) → f c ≡ false) → Left f before n before
left-all h = record { long = refl; done = λ c l. rw (h c) (sym (and-true _)); rest = λ c l. refl }

-- of what a test finds of a cell below i, one more, and none at first
pub left-zero : (f : ℕ → ℕ → Bool) (before : List ℕ) (n : ℕ) → Left (λ c. any 0 (f c)) before n before
unfolding any
left-zero f before n = left-all (λ c. refl)

pub left_one :
    {before between after : List ℕ} {n : ℕ} (f : ℕ → ℕ → Bool) (i : ℕ) →
    Left (λ c. any i (f c)) before n between →
    Left (λ c. f c i) between n after →
    Left (λ c. any (i + 1) (f c)) before n after
unfolding any
left_one f i m r = rw (add-one i) (left-then m r)

pub left-same : {f g : ℕ → Bool} {before after : List ℕ} {n : ℕ} → ((c : ℕ) → f c ≡ g c) → Left f before n after → Left g before n after
left-same {before = before} h m =
    record { long = m.long; done = λ c l. m.done c l ∙ ap (λ (a : Bool). row_bit before 0 c && not a) (h c); rest = m.rest }

-- the digits of the byte that `sift` gives
sifted :
    (capture table after : List ℕ) (at other j x unlike : ℕ) (changing : ℕ → Bool) →
    unlike ≡ bit_xor (get_or capture (at + j) 0) (get_or capture (other + j) 0) →
    x ≡ word 8 (staying (get_or after j 0) unlike changing (drop (8 * j) table)) →
    (i : ℕ) →
    i < 8 →
    bit x i ≡ (bit (get_or after j 0) i && not (stray_at capture at other changing table (8 * j + i)))
unfolding staying stray_at row_bit byte_at
sifted capture table after at other j x unlike changing u e i l =
    let q : (8 * j + i) / 8 ≡ j = omega arith in
    let s : (8 * j + i) % 8 ≡ i = omega arith in
    ap (λ (y : ℕ). bit y i) e
    ∙ bit_word 8 _ i l
    ∙ rw (get_or-drop, q, s, u, bit-xor)

pub left-byte :
    (capture table before between after : List ℕ) (at other j : ℕ) (changing : ℕ → Bool) (unlike : ℕ) →
    Left (stray_at capture at other changing table) before (8 * j) between →
    j < length before →
    unlike ≡ bit_xor (get_or capture (at + j) 0) (get_or capture (other + j) 0) →
    after ≡ set between j (word 8 (staying (get_or between j 0) unlike changing (drop (8 * j) table))) →
    Left (stray_at capture at other changing table) before (8 * (j + 1)) after
left-byte capture table before between after at other j changing unlike m l u e =
    rw e (left-more _ before between j _ m l (sifted capture table between at other j _ unlike changing u refl))
