-- Row by row, with the cells of the groups so far.
use Prim.Native.Nat.{ℕ, zero, suc, ◌+◌, ◌*◌, ◌-◌, ◌<◌}
use mathlib.Core.Path.{◌≡◌, refl, sym, ◌∙◌, ap}
use native.Mathlib.Nat.{add-sub_cancel, zero-mul, suc-mul}
use native.Mathlib.Numerals.{sub-one}
use native.Mathlib.Omega.{arith}
use Rattle.rules.specs.Answers.{over}
use Rattle.rules.specs.File.{board_of}
use Rattle.rules.specs.Groups.{group_rows}
use Rattle.chains.proofs.Walks.{cells_fit}
use Rattle.select.proofs.Passing.{earlier-none, earlier_more, board-size, group-is}
use Rattle.rows.proofs.GroupRows.{written_next, on-own, row_fits}
use Rattle.rows.proofs.groups.write_rows.Goals as goal
use Rattle.rows.proofs.groups.write_rows.Goals.{After-write_row}

-- the place behind the row of group g
next-place : (at g bytes : ℕ) → 0 < g → at ≡ (g - 1) * bytes → at + bytes ≡ g * bytes
next-place at zero bytes p e = absurd (omega arith)
next-place at (suc g) bytes p e = omega (arith, (rw sub-one at e), suc-mul g bytes)

pub row_bytes-bytes-requires : goal.row_bytes-bytes-requires
row_bytes-bytes-requires c =
    let p = c.requires.groups_room in
    let e = p.cells_are in
    let f = cells_fit _ p.ready.by-control.checked in
    omega arith

pub loop-g-init : goal.loop-g-init
unfolding group_rows
loop-g-init c = record { reached = omega arith; placed = sym (zero-mul _); earlier = earlier-none _ _ c.empty-earlier.ensures; written = refl }

pub write_row-requires-clause-room : goal.write_row-requires-clause-room
write_row-requires-clause-room c =
    let p = c.requires.groups_room in
    let e = p.cells_are in
    let f = cells_fit _ p.ready.by-control.checked in
    let r = row_fits _ _ _ _ _ _ (omega arith) c.row_bytes-bytes.ensures p.long c.loop-g.invariant.placed in
    record { long = omega arith; cells-bounded = omega arith }

pub write_row-requires-clause-cells : goal.write_row-requires-clause-cells
write_row-requires-clause-cells c =
    let p = c.requires.groups_room in
    on-own _ _ _ _ p.ready.accepted p.cells_are (group-is _ _ _ (omega arith) (c.selected-on.ensures _ c.loop-g.invariant.earlier))

-- the rows of groups 1 to g
written : (c : After-write_row) → c.write_row.new.out ≡ over (group_rows (board_of c.args.file.now) c.loop-g.g) c.args.out.now
written c =
    let p = c.requires.groups_room in
    let inv = c.loop-g.invariant in
    let on = group-is _ _ _ (omega arith) (c.selected-on.ensures _ inv.earlier) in
    written_next _ _ _ _ _ _ _ _ _ _ (omega arith) (omega arith) inv.written inv.placed c.row_bytes-bytes.ensures p.long (board-size _ _ p.cells_are) on c.write_row.ensures

pub loop-g-preserved : goal.loop-g-preserved
loop-g-preserved c =
    let inv = c.loop-g.invariant in
    let at : c.loop-g.at + c.row_bytes-bytes.result ≡ c.loop-g.g * c.row_bytes-bytes.result = next-place _ _ _ (omega arith) inv.placed in
    rw (add-sub_cancel c.loop-g.g 1)
    (record {
      reached = omega arith;
      placed = at;
      earlier = earlier_more _ _ _ _ _ (omega arith) (c.selected-on.ensures _ inv.earlier) inv.earlier c.union-earlier.ensures;
      written = written (goal.at.loop-g-preserved c).After-write_row;
    })

pub returns-2 : goal.returns-2
returns-2 c =
    let e : c.loop-g.g ≡ c.args.groups = omega arith in
    written (goal.at.returns-2 c).After-write_row ∙ ap (λ (g : ℕ). over (group_rows (board_of c.args.file.now) g) c.args.out.now) e

pub returns : goal.returns
returns c =
    let e : c.loop-g.g - 1 ≡ c.args.groups = omega arith in
    c.loop-g.invariant.written ∙ ap (λ (g : ℕ). over (group_rows (board_of c.args.file.now) g) c.args.out.now) e
