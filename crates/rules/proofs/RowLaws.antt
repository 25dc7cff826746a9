-- Laws of rows: position c is bit c % 8 of byte c / 8, and spare bits are 0.
use Prim.Native.Nat.{ℕ, ◌+◌, ◌*◌, ◌/◌, ◌%◌, ◌<◌, ◌≤◌}
use mathlib.Core.Path.{◌≡◌, ◌∙◌, ap}
use mathlib.Core.Bool.{Bool, ◌&&◌, false}
use native.Mathlib.Nat.{div-add-mod, zero-add}
use native.Mathlib.Omega.{arith}
use borrow.Author.Tests.{lt-ltb, le-ltb}
use lib.ListN.{length, get_or}
use lib.Dec.{ltb}
use Rattle.base.specs.Digits.{bit, ceil}
use Rattle.base.proofs.ListLaws.{length-table, table_at}
use Rattle.base.proofs.DigitLaws.{bit_word}
use Rattle.rules.specs.Rows.{row_bytes, row_byte, row_of, row_bit}
use Rattle.rules.specs.File.{byte_at}

-- rows: position c is bit c % 8 of byte c / 8, and spare bits are 0
pub row-length : (size : ℕ) (f : ℕ → Bool) → length (row_of size f) ≡ row_bytes size
unfolding row_of
row-length size f = length-table (row_bytes size) (row_byte size f)

row_at : (size : ℕ) (f : ℕ → Bool) (c : ℕ) → c < 8 * row_bytes size → row_bit (row_of size f) 0 c ≡ (ltb c size && f c)
unfolding row_of row_byte row_bit byte_at
row_at size f c h =
    ap (λ (i : ℕ). bit (get_or (row_of size f) i 0) (c % 8)) (zero-add (c / 8))
    ∙ ap (λ (w : ℕ). bit w (c % 8)) (table_at (row_bytes size) (row_byte size f) 0 {i = c / 8} (omega arith))
    ∙ bit_word 8 (λ i. ltb (8 * (c / 8) + i) size && f (8 * (c / 8) + i)) (c % 8) (omega arith)
    ∙ ap (λ (x : ℕ). ltb x size && f x) (div-add-mod c 8)

pub row-bit : (size : ℕ) (f : ℕ → Bool) (c : ℕ) → c < size → row_bit (row_of size f) 0 c ≡ f c
unfolding row_bytes ceil
row-bit size f c h = row_at size f c (omega arith) ∙ rw (lt-ltb c size h)

pub row-spare : (size : ℕ) (f : ℕ → Bool) (c : ℕ) → size ≤ c → c < 8 * row_bytes size → row_bit (row_of size f) 0 c ≡ false
row-spare size f c h l = row_at size f c l ∙ rw (le-ltb c size h)
