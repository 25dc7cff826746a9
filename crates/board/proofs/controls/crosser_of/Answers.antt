-- A search over the partners of i above it: the net sets are compared pair by pair. A control cell that switches nothing has none.
use Prim.Native.Nat.{◌*◌, ◌<◌, ◌≤◌}
use mathlib.Core.Path.{◌≡◌, sym, ◌∙◌}
use native.Mathlib.Omega.{arith}
use Rattle.rules.specs.File.{board_of, cells_of}
use Rattle.rules.specs.Drivers.{crosses}
use Rattle.words.specs.Sets.{cell_words}
use Rattle.chains.proofs.Walks.{cell-fits, cells_fit}
use Rattle.board.proofs.ControlChecks.{Uncrossed, crosses-is, search-from, search-on, search-found, search-ended, idle-uncrossed}
use Rattle.board.proofs.controls.crosser_of.Goals as goal
use Rattle.board.proofs.controls.crosser_of.Goals.{After-next-j-in-loop-j, After-sets_cross, In-loop-j, Start}

own : (s : Start) → s.args.i.0 < cells_of s.args.board.now.file.now
own s = let e = s.args.board.now.sized.cells_are in let l = s.requires in omega arith

-- the file's cells fit a set of cells
fit : (s : Start) → cells_of s.args.board.now.file.now ≤ 64 * cell_words
fit s = cells_fit _ (s.args.board.now.filled.by-control.checked)

fit-After-next-j-in-loop-j : (s : After-next-j-in-loop-j) → cells_of s.args.board.now.file.now ≤ 64 * cell_words
fit-After-next-j-in-loop-j s = cells_fit _ (s.args.board.now.filled.by-control.checked)

-- inside the loop j is one of the file's cells
here : (c : In-loop-j) → c.loop-j.j < cells_of (c.args.board.now.file.now)
here c = let e = c.args.board.now.sized.cells_are in let t = c.loop-j-test.true in omega arith

here-After-next-j-in-loop-j : (c : After-next-j-in-loop-j) → c.loop-j.j < cells_of (c.args.board.now.file.now)
here-After-next-j-in-loop-j c = let e = c.args.board.now.sized.cells_are in let t = c.loop-j-test.true in omega arith

-- what the comparison with j tells
compared : (c : After-sets_cross) → c.sets_cross.result ≡ crosses (board_of (c.args.board.now.file.now)) (c.args.i.0) c.loop-j.j
compared c =
    c.sets_cross.ensures ∙ crosses-is _ (c.args.board.now.filled.by-control.checked) _ _ _ _ c.nets_of-mine.ensures c.nets_of-theirs.ensures

compared-After-next-j-in-loop-j : (c : After-next-j-in-loop-j) → c.sets_cross.result ≡ crosses (board_of (c.args.board.now.file.now)) (c.args.i.0) c.loop-j.j
compared-After-next-j-in-loop-j c =
    c.sets_cross.ensures ∙ crosses-is _ (c.args.board.now.filled.by-control.checked) _ _ _ _ c.nets_of-mine.ensures c.nets_of-theirs.ensures

pub returns-then-sets_cross : goal.returns-then-sets_cross
returns-then-sets_cross c =
    search-found _ (c.args.board.now.filled.by-control.checked) _ _ c.loop-j.invariant (here (goal.at.returns-then-sets_cross c).In-loop-j)
    (sym (compared (goal.at.returns-then-sets_cross c).After-sets_cross) ∙ c.if-sets_cross.true)

again : (c : After-next-j-in-loop-j)
    → (c.loop-j.j < c.next-j-in-loop-j.result) × Uncrossed (board_of (c.args.board.now.file.now)) (c.args.i.0) c.next-j-in-loop-j.result
again c =
    let f = fit-After-next-j-in-loop-j c in
    let h = here-After-next-j-in-loop-j c in
    search-on _ (c.args.board.now.filled.by-control.checked) _ _ _ c.partners-met.ensures _ c.loop-j.invariant (omega arith)
    (sym (compared-After-next-j-in-loop-j c) ∙ c.if-sets_cross.false) c.next-j-in-loop-j.ensures

pub next-j-requires-in-loop-j : goal.next-j-requires-in-loop-j
next-j-requires-in-loop-j c =
    let f = fit (goal.at.next-j-requires-in-loop-j c).Start in
    let h = here (goal.at.next-j-requires-in-loop-j c).In-loop-j in
    omega arith

pub loop-j-smaller : goal.loop-j-smaller
loop-j-smaller c =
    let up = (again c).0 in
    let t = c.loop-j-test.true in
    omega arith

pub loop-j-preserved : goal.loop-j-preserved
loop-j-preserved c = (again c).1

pub returns : goal.returns
returns c =
    let e = c.args.board.now.sized.cells_are in
    let t = c.loop-j-test.false in
    search-ended _ (c.args.board.now.filled.by-control.checked) _ _ c.loop-j.invariant (omega arith)

pub head-requires : goal.head-requires
head-requires c = cell-fits _ (c.args.board.now.filled.by-control.checked) _ (own (goal.at.head-requires c).Start)

pub nets_of-mine-requires : goal.nets_of-mine-requires
nets_of-mine-requires c = record { chains = c.args.board.now.filled.by-control; k_bound = own (goal.at.nets_of-mine-requires c).Start }

pub partners-met-requires : goal.partners-met-requires
partners-met-requires c = record { chains = c.args.board.now.filled.by-control; chains_2 = c.args.board.now.filled.by-net; k_bound = own (goal.at.partners-met-requires c).Start }

pub next-j-requires : goal.next-j-requires
next-j-requires c = let f = fit (goal.at.next-j-requires c).Start in let l = own (goal.at.next-j-requires c).Start in omega arith

pub loop-j-init : goal.loop-j-init
loop-j-init c =
    search-from _ (c.args.board.now.filled.by-control.checked) _ _ _ c.partners-met.ensures
    (let f = fit (goal.at.loop-j-init c).Start in let l = own (goal.at.loop-j-init c).Start in omega arith) c.next-j.ensures

pub overflow_cast-higher : goal.overflow_cast-higher
overflow_cast-higher c = let f = fit (goal.at.overflow_cast-higher c).Start in let h = here c in omega arith

pub nets_of-theirs-requires : goal.nets_of-theirs-requires
nets_of-theirs-requires c = record { chains = c.args.board.now.filled.by-control; k_bound = here c }

pub overflow_add-j : goal.overflow_add-j
overflow_add-j c = let f = fit (goal.at.overflow_add-j c).Start in let h = here (goal.at.overflow_add-j c).In-loop-j in omega arith

pub returns-in_default : goal.returns-in_default
returns-in_default c =
    idle-uncrossed _ _ c.args.board.now.filled.by-control _ (own (goal.at.returns-in_default c).Start) (sym c.in_default.ensures)
