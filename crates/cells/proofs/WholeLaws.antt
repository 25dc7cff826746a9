-- What every reader of records needs: a record of the file lies inside it, positions are few, and only the kinds of the table mean a cell.
use Prim.Native.Nat.{ℕ, ◌+◌, ◌<◌, ◌≤◌}
use mathlib.Core.Path.{◌≡◌}
use mathlib.Core.Bool.{Bool}
use mathlib.Core.List.{List}
use borrow.Author.Tests.{ne_eqb}
use native.Mathlib.Omega.{arith}
use lib.ListN.{length}
use Rattle.std.specs.Prelude.{None}
use Rattle.rules.specs.File.{cells_of, record_at, record_size, table_of}
use Rattle.rules.specs.Refusals.{most_cells}
use Rattle.rules.proofs.Shape.{laid, shaped, record-inside}
use Rattle.cells.specs.Whole.{Sized, Shaped, Whole}

pub inside : (file : List ℕ) (p at : ℕ) → Shaped file → p < cells_of file → at ≡ record_at p → at + record_size ≤ length file
inside file p at s l e = let r = record-inside file (laid file s.shape) p l in omega arith

pub cells-bounded : (file : List ℕ) (cells nets : ℕ) → Shaped file → Sized file cells nets → cells ≤ most_cells
cells-bounded file cells nets s z = let c = (laid file s.shape).cells.at_most in let e = z.cells_are in omega arith

pub position-bounded : (file : List ℕ) (p : ℕ) → Shaped file → p < cells_of file → p < most_cells
position-bounded file p s l = let c = (laid file s.shape).cells.at_most in omega arith

-- a whole file is shaped
pub whole-shaped : (file : List ℕ) (p : ℕ) → Whole file p → Shaped file
whole-shaped file p w = record { shape = shaped file w.checked }

pub whole-bounded : (file : List ℕ) (p : ℕ) → Whole file p → p < most_cells
whole-bounded file p w = position-bounded file p (whole-shaped file p w) w.below

pub in-record : (file : List ℕ) (p at : ℕ) → Whole file p → at ≡ record_at p → at + record_size ≤ length file
in-record file p at w e = inside file p at (whole-shaped file p w) w.below e

-- no row of the table has this kind
pub no_row :
    (kind on control net : ℕ) (switched connected : Bool) →
    (kind ≡ 0 → ⊥) →
    (kind ≡ 1 → ⊥) →
    (kind ≡ 2 → ⊥) →
    (kind ≡ 3 → ⊥) →
    (kind ≡ 4 → ⊥) →
    (kind ≡ 5 → ⊥) →
    None ≡ table_of kind on control net switched connected
unfolding table_of
no_row kind on control net switched connected n0 n1 n2 n3 n4 n5 =
    rw (ne_eqb kind 0 n0, ne_eqb kind 1 n1, ne_eqb kind 2 n2, ne_eqb kind 3 n3, ne_eqb kind 4 n4, ne_eqb kind 5 n5)
