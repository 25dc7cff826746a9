-- Bytes in a buffer from a place on, the room that a row takes, and a set of a board's own cells. Assumes nothing.
use Rattle.std.specs.Prelude.{ℕ, ◌+◌, ◌*◌, ◌≤◌, ◌<◌, ◌≡◌, Bool, false, List, ◌++◌, length, take, drop}
use Rattle.rules.specs.Rows.{row_bytes}
use Rattle.rules.specs.File.{board_of, cells_of, most_number}
use Rattle.rules.specs.Vectors.{total_of}
use Rattle.words.specs.Sets.{cell_words}
use Rattle.select.specs.Turns.{Ready}
use Rattle.plan.specs.declared.numbers.Plan.{Plan}
use Rattle.plan.specs.Planning.{PlanOf}

-- the buffer with these bytes from `at` on; "bytes of a buffer past those needed keep their values", and so do those before
unfoldable pub placed : ℕ → List ℕ → List ℕ → List ℕ
placed at bytes buffer = take at buffer ++ bytes ++ drop (at + length bytes) buffer

-- the buffer has a row of bytes from `at` on, and a set has a bit for each of the cells
pub record Room (buffer : List ℕ) (at cells : ℕ) : Type 0 where
  pub long : at + row_bytes cells ≤ length buffer
  pub cells-bounded : cells ≤ 64 * cell_words

-- no number from `cells` on is a member
pub record Cells (cells : ℕ) (f : ℕ → Bool) : Type 0 where
  pub none : (c : ℕ) → cells ≤ c → f c ≡ false

-- an accepted board with its table, and room for its groups' rows
pub record GroupsRoom (file t : List ℕ) (cells groups : ℕ) (buffer : List ℕ) : Type 0 where
  pub ready : Ready file t
  pub cells_are : cells ≡ cells_of file
  pub groups-bounded : groups ≤ most_number
  pub long : groups * row_bytes cells ≤ length buffer

-- an accepted board with its table and its plan, one of its vectors, and room for its row
pub record VectorRoom (file table : List ℕ) (cells : ℕ) (plan : Plan) (t : ℕ) (buffer : List ℕ) : Type 0 where
  pub ready : Ready file table
  pub cells_are : cells ≡ cells_of file
  pub planned : PlanOf (board_of file) plan
  pub below : t < total_of (board_of file)
  pub long : row_bytes cells ≤ length buffer
