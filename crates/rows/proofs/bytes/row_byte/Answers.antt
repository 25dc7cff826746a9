-- `rows::bytes::row_byte` meets its contract: word j / 8 shifted down to cell 8 j, cut to 8 digits, is the word of those digits.
use Prim.Native.Nat.{ℕ, ◌+◌, ◌*◌, ◌/◌, ◌%◌, ◌^◌, ◌<◌}
use mathlib.Core.Path.{◌≡◌, sym, ◌∙◌}
use mathlib.Core.List.{List}
use native.Mathlib.Omega.{arith}
use lib.Bits.{bit_and, and_mask}
use lib.ListN.{get_or}
use Rattle.base.specs.Digits.{bit, word}
use Rattle.base.proofs.DigitLaws.{word_same, word_cut}
use Rattle.base.proofs.WordLaws.{bit_shifted}
use Rattle.rules.specs.File.{byte_values}
use Rattle.words.specs.Sets.{member}
use Rattle.rows.proofs.bytes.row_byte.Goals as goal

-- cell 8 j + i is digit i of word j / 8 from digit 8 (j % 8) on
cell-digit : (ws : List ℕ) (j i : ℕ) → i < 8 → bit (get_or ws (j / 8) 0 / 2 ^ (8 * (j % 8))) i ≡ member ws (8 * j + i)
unfolding member
cell-digit ws j i h =
    let q : (8 * j + i) / 64 ≡ j / 8 = omega arith in
    let r : (8 * j + i) % 64 ≡ 8 * (j % 8) + i = omega arith in
    rw (bit_shifted, q, r)

-- the 8 lowest digits of a number
low_byte : (n : ℕ) → bit_and n 255 ≡ n % byte_values
low_byte n = and_mask n 8

-- so the 8 lowest digits from there on are cells 8 j to 8 j + 7
byte-cells : (ws : List ℕ) (j : ℕ) → bit_and (get_or ws (j / 8) 0 / 2 ^ (8 * (j % 8))) 255 ≡ word 8 (λ i. member ws (8 * j + i))
byte-cells ws j =
    let w = get_or ws (j / 8) 0 / 2 ^ (8 * (j % 8)) in
    low_byte w ∙ sym (word_cut 8 w) ∙ word_same 8 (bit w) (λ i. member ws (8 * j + i)) (cell-digit ws j)

pub returns : goal.returns
returns c = byte-cells c.args.words.now c.args.j
