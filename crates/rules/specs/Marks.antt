-- "Marks": what a capture says of each net, as the table's tests in their order. Assumes nothing.
use Rattle.std.specs.Prelude.{ℕ, ◌+◌, ◌*◌, Bool, cond, not, ◌&&◌, List, [], ◌∷◌, eqb}
use Rattle.std.specs.Bool.{xor}
use Rattle.base.specs.Tests.{any, all}
use Rattle.base.specs.Lists.{table}
use Rattle.rules.specs.Rows.{row_bytes, row_bit}
use Rattle.rules.specs.File.{Board}
use Rattle.rules.specs.Drivers.{is_input, on_net}
use Rattle.rules.specs.Vectors.{total_of, vector_at}
use Rattle.rules.specs.declared.Mark.{Mark}
use Rattle.rules.specs.declared.Mark.TheVariants.{Pass, Fail, NotSeen, ReadTwice}

-- "The capture has a row per vector in the same bit order": what the cell at c read in vector t
unfoldable pub read_at : Board → List ℕ → ℕ → ℕ → Bool
read_at b capture t c = row_bit capture (t * row_bytes b.size) c

-- "A net's own word is its value in each vector": net n's in vector t
unfoldable pub own_at : Board → ℕ → ℕ → Bool
own_at b n t = (vector_at b t).value n

-- in vector t the cell at c read something else than net n's value
unfoldable pub differs_at : Board → List ℕ → ℕ → ℕ → ℕ → Bool
differs_at b capture n c t = xor (read_at b capture t c) (own_at b n t)

-- c is an input cell of net n
unfoldable pub input_of : Board → ℕ → ℕ → Bool
input_of b n c = is_input b c && on_net b n c

-- "the net has no input cell"
unfoldable pub unseen : Board → ℕ → Bool
unseen b n = not (any b.size (input_of b n))

-- "an input cell of it once differs from its value"
unfoldable pub failed : Board → List ℕ → ℕ → Bool
failed b capture n = any b.size (λ c. input_of b n c && any (total_of b) (differs_at b capture n c))

-- "an input cell of another net reads this net's own word in every vector"
unfoldable pub read_twice : Board → List ℕ → ℕ → Bool
read_twice b capture n =
    any b.size (λ c. is_input b c && not (on_net b n c) && all (total_of b) (λ t. not (differs_at b capture n c t)))

-- a row of the table: a mark, and when it is given unless an earlier row is
pub record Row : Type 0 where
  pub mark : Mark
  pub given : Bool

-- the table, in its order
unfoldable pub rows_of : Board → List ℕ → ℕ → List Row
rows_of b capture n =
    record { mark = NotSeen; given = unseen b n } ∷ record { mark = Fail; given = failed b capture n } ∷ record { mark = ReadTwice; given = read_twice b capture n } ∷ []

-- the first row that is given; "pass otherwise"
unfoldable pub first_given : List Row → Mark
first_given [] = Pass
first_given (row ∷ rows) = cond row.given row.mark (first_given rows)

unfoldable pub mark_of : Board → List ℕ → ℕ → Mark
mark_of b capture n = first_given (rows_of b capture n)

-- the table's byte for each mark
unfoldable pub byte_of : Mark → ℕ
byte_of Pass = 0
byte_of Fail = 1
byte_of NotSeen = 2
byte_of ReadTwice = 3

-- which of the three returned numbers a mark byte counts for: 0 is pass, 1 fail, any other unsure
abbrev pub is_pass : ℕ → Bool
is_pass byte = eqb byte 0

abbrev pub is_fail : ℕ → Bool
is_fail byte = eqb byte 1

abbrev pub is_unsure : ℕ → Bool
is_unsure byte = not (is_pass byte) && not (is_fail byte)

-- "N bytes are written"
unfoldable pub marks_of : Board → List ℕ → List ℕ
marks_of b capture = table b.nets (λ n. byte_of (mark_of b capture n))

-- "the numbers of pass, fail and unsure are .. the numbers of those bytes"
unfoldable pub bytes_that : (ℕ → Bool) → List ℕ → ℕ
bytes_that test [] = 0
bytes_that test (byte ∷ bytes) = cond (test byte) 1 0 + bytes_that test bytes
