-- A row of bits in bytes, as groups, vectors and captures have it. Assumes nothing.
use Rattle.std.specs.Prelude.{ℕ, ◌+◌, ◌*◌, ◌/◌, ◌%◌, Bool, ◌&&◌, List, ltb}
use Rattle.base.specs.Digits.{ceil, word, bit}
use Rattle.base.specs.Lists.{table}
use Rattle.rules.specs.File.{byte_at}

-- R = ceil(C / 8), the bytes of a row of C bits
unfoldable pub row_bytes : ℕ → ℕ
row_bytes size = ceil size 8

-- "Position c is bit c mod 8 (from the least) of byte c / 8; spare bits are 0": byte j of the row in which position c has bit f c
unfoldable pub row_byte : ℕ → (ℕ → Bool) → ℕ → ℕ
row_byte size f j = word 8 (λ i. ltb (8 * j + i) size && f (8 * j + i))

unfoldable pub row_of : ℕ → (ℕ → Bool) → List ℕ
row_of size f = table (row_bytes size) (row_byte size f)

-- the bit at position c of the row that begins at byte `at`
unfoldable pub row_bit : List ℕ → ℕ → ℕ → Bool
row_bit bytes at c = bit (byte_at bytes (at + c / 8)) (c % 8)
