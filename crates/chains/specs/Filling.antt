-- What the lent table holds while and after it is filled with a whole file's chains and numbers of drivers.
use Rattle.std.specs.Prelude.{ℕ, ◌≡◌, List, length}
use Rattle.rules.specs.File.{cells_of}
use Rattle.rules.specs.Refusals.{judge, file_checks, Accepted}
use Rattle.chains.specs.Table.{ControlCell, NetOf, table_size, Blank}
use Rattle.chains.specs.Chains.{Grown}
use Rattle.chains.specs.Counts.{Counted}

-- a whole file, its number of cells, and a table that holds nothing yet
pub record Fillable (file : List ℕ) (cells : ℕ) (t : List ℕ) : Type 0 where
  pub checked : judge (file_checks file) ≡ Accepted
  pub cells_are : cells ≡ cells_of file
  pub blank : Blank t

-- the chains of outputs and the numbers of drivers of the first n positions; each part is a field, since a later use of its room gives up
-- that part alone
pub record Entered (file : List ℕ) (n : ℕ) (t : List ℕ) : Type 0 where
  pub long : length t ≡ table_size
  pub by-control : Grown file ControlCell n t
  pub by-net : Grown file NetOf n t
  pub counted : Counted file n t

-- those of all positions
abbrev pub Filled : List ℕ → List ℕ → Type 0
Filled file t = Entered file (cells_of file) t
