-- The four columns are read where the definition reads them, inside the file.
use Prim.Native.Nat.{ℕ, ◌+◌, ◌<◌, ◌≤◌}
use mathlib.Core.Path.{◌≡◌}
use mathlib.Core.List.{List}
use native.Mathlib.Omega.{arith}
use lib.Dec.{ltb}
use lib.ListN.{length, get_or}
use Rattle.rules.specs.File.{cells_of, nets_of, number_at, byte_at, record_at, record_size, kind_at, on_at, control_at, net_at, of_kind2, table_of, record_of}
use Rattle.cells.proofs.WholeLaws.{inside, position-bounded}
use Rattle.cells.proofs.record_of.Goals as goal
use Rattle.cells.proofs.record_of.Goals.{After-record_start-at, Start}

as_read :
    (file : List ℕ) (p at control net : ℕ) →
    at ≡ record_at p →
    control ≡ number_at file (at + 2) →
    net ≡ number_at file (at + 4) →
    table_of (get_or file at 0) (get_or file (at + 1) 0) control net (of_kind2 file control) (ltb net (nets_of file)) ≡ record_of file p
unfolding record_of kind_at on_at control_at net_at byte_at
as_read file p at control net a k m = rw (k, m, a)

-- p is one of the file's positions
one : (s : Start) → s.args.p.0 < cells_of s.args.file.now
one s =
    let e = s.requires.sized.cells_are in
    let l = s.requires.p_lt_cells in
    omega arith

one-After-record_start-at : (s : After-record_start-at) → s.args.p.0 < cells_of s.args.file.now
one-After-record_start-at s =
    let e = s.requires.sized.cells_are in
    let l = s.requires.p_lt_cells in
    omega arith

-- the record lies in the file
room : (d : After-record_start-at) → d.record_start-at.result + record_size ≤ length d.args.file.now
room d = inside _ _ _ d.requires.shaped (one-After-record_start-at d) d.record_start-at.ensures

pub returns : goal.returns
returns c =
    rw c.table.ensures (as_read _ _ _ _ _ c.record_start-at.ensures c.pair.ensures c.pair-2.ensures)

pub record_start-at-requires : goal.record_start-at-requires
record_start-at-requires c = position-bounded _ _ c.requires.shaped (one (goal.at.record_start-at-requires c).Start)

pub bounds-file-at : goal.bounds-file-at
bounds-file-at c = let h = room (goal.at.bounds-file-at c).After-record_start-at in omega arith

pub overflow_add-on : goal.overflow_add-on
overflow_add-on c = let h = room (goal.at.overflow_add-on c).After-record_start-at in omega arith

pub bounds-file-at-2 : goal.bounds-file-at-2
bounds-file-at-2 c = let h = room (goal.at.bounds-file-at-2 c).After-record_start-at in omega arith

pub overflow_add-at : goal.overflow_add-at
overflow_add-at c = let h = room (goal.at.overflow_add-at c).After-record_start-at in omega arith

pub pair-requires : goal.pair-requires
pair-requires c = let h = room (goal.at.pair-requires c).After-record_start-at in omega arith

pub overflow_add-at-2 : goal.overflow_add-at-2
overflow_add-at-2 c = let h = room (goal.at.overflow_add-at-2 c).After-record_start-at in omega arith

pub pair-requires-2 : goal.pair-requires-2
pair-requires-2 c = let h = room (goal.at.pair-requires-2 c).After-record_start-at in omega arith

pub table-requires : goal.table-requires
table-requires c = record { shaped = c.requires.shaped; sized = c.requires.sized }
