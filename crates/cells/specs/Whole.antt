-- What a function that reads records may assume of the file.
use Rattle.std.specs.Prelude.{ℕ, ◌<◌, ◌≡◌, List}
use Rattle.rules.specs.File.{cells_of, nets_of}
use Rattle.rules.specs.Refusals.{judge, shape_checks, file_checks, Accepted}

-- checks 1 to 5 accept the file
pub record Shaped (file : List ℕ) : Type 0 where
  pub shape : judge (shape_checks file) ≡ Accepted

-- the file's sizes, as its header has them
pub record Sized (file : List ℕ) (cells nets : ℕ) : Type 0 where
  pub cells_are : cells ≡ cells_of file
  pub nets-are : nets ≡ nets_of file

-- checks 1 to 6 accept the file, and p is one of its positions
pub record Whole (file : List ℕ) (p : ℕ) : Type 0 where
  pub checked : judge (file_checks file) ≡ Accepted
  pub below : p < cells_of file
