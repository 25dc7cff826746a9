-- Below C the record's kind byte decides; past it nothing does.
use Prim.Native.Nat.{ℕ, ◌<◌, ◌≤◌}
use mathlib.Core.Path.{◌≡◌}
use mathlib.Core.Bool.{false}
use mathlib.Core.List.{List}
use borrow.Author.Tests.{lt-ltb, le-ltb}
use native.Mathlib.Omega.{arith}
use lib.Dec.{eqb}
use lib.ListN.{get_or}
use Rattle.rules.specs.File.{cells_of, record_at, of_kind2, kind_at, byte_at}
use Rattle.cells.proofs.WholeLaws.{inside, position-bounded}
use Rattle.cells.proofs.of_kind_2.Goals as goal

below : (file : List ℕ) (cells k at : ℕ) → cells ≡ cells_of file → k < cells → at ≡ record_at k → eqb (get_or file at 0) 2 ≡ of_kind2 file k
unfolding of_kind2 kind_at byte_at
below file cells k at e l a = rw (a, ← e, lt-ltb k cells l)

past : (file : List ℕ) (cells k : ℕ) → cells ≡ cells_of file → cells ≤ k → false ≡ of_kind2 file k
unfolding of_kind2
past file cells k e l = rw (← e, le-ltb k cells l)

pub record_start-at-requires : goal.record_start-at-requires
record_start-at-requires c =
    let e = c.requires.cells_value in
    let l = c.if-k-cells.true in
    let f = position-bounded _ c.args.k.0 c.requires.shaped (omega arith) in
    omega arith

pub bounds-file-at : goal.bounds-file-at
bounds-file-at c =
    let e = c.requires.cells_value in
    let l = c.if-k-cells.true in
    let h = inside _ _ _ c.requires.shaped (omega arith) c.record_start-at.ensures in
    omega arith

pub returns-then-k-cells : goal.returns-then-k-cells
returns-then-k-cells c =
    below _ _ _ _ c.requires.cells_value c.if-k-cells.true c.record_start-at.ensures

pub returns : goal.returns
returns c = past _ _ _ c.requires.cells_value c.if-k-cells.false
