-- A row is short.
use Rattle.std.proofs.Common.{◌≡◌, ℕ, ◌≤◌, List, arith}
use Rattle.base.specs.Digits.{ceil}
use Rattle.rules.specs.Rows.{row_bytes}
use Rattle.rules.specs.File.{cells_of}
use Rattle.rules.specs.Refusals.{most_cells, most_bytes}
use Rattle.rules.proofs.Shape.{laid, shaped}
use Rattle.select.specs.Turns.{Ready}

pub cells-within : (file t : List ℕ) (cells : ℕ) → Ready file t → cells ≡ cells_of file → cells ≤ most_cells
cells-within file t cells r e = let f = (laid file (shaped file r.by-control.checked)).cells.at_most in omega arith

pub row-short : (cells : ℕ) → cells ≤ most_cells → row_bytes cells ≤ most_bytes
unfolding row_bytes ceil
row-short cells l = omega arith
