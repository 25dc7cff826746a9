-- What the callers of this crate show: that a block is a whole one of the file, and what a later check knows of earlier ones. Assumes nothing.
use Rattle.std.specs.Prelude.{◌≡◌, ℕ, ◌+◌, ◌*◌, ◌<◌, ◌≤◌, Bool, false, List, length}
use Rattle.rules.specs.File.{block_size, blocks_in, cells_of, most_number}
use Rattle.rules.specs.Refusals.{wrong_length}
use Rattle.blocks.specs.Reading.{RightTo, head_right_at}

-- block i is whole in the file, and i is a place
pub record Whole (file : List ℕ) (i : ℕ) : Type 0 where
  pub whole : block_size * (i + 1) ≤ length file
  pub place-bounded : i ≤ most_number

-- refusal 1 has passed, and so many heads are right, from block 0 on
pub record Headed (file : List ℕ) (heads : ℕ) : Type 0 where
  pub right : wrong_length file ≡ false
  pub heads-are : RightTo file (blocks_in file) heads

-- block i is a whole one of the file, which says so many cells; where it is no header, its head is right or is not
pub record AnyBlock (file : List ℕ) (cells i : ℕ) (headed : Bool) : Type 0 where
  pub whole : block_size * (i + 1) ≤ length file
  pub told : cells ≡ cells_of file
  pub head : headed ≡ head_right_at file i

-- and it comes after the header
pub record CellBlock (file : List ℕ) (cells i : ℕ) (headed : Bool) : Type 0 where
  pub later : 1 ≤ i
  pub whole : block_size * (i + 1) ≤ length file
  pub told : cells ≡ cells_of file
  pub head : headed ≡ head_right_at file i

-- refusals 1 to 3 have passed, and the file says so many cells
pub record Layout (file : List ℕ) (cells : ℕ) (heads : ℕ) : Type 0 where
  pub headed : Headed file heads
  pub header : 0 < heads
  pub told : cells ≡ cells_of file
