-- The kind says what the record's cell drives (read-three, read-five, read-other); each byte lies inside the record.
use Prim.Native.Nat.{ℕ, ◌+◌, ◌≤◌}
use mathlib.Core.Path.{◌≡◌, ◌∙◌, ap, ap₂}
use mathlib.Core.List.{List}
use native.Mathlib.Omega.{arith}
use lib.ListN.{length, get_or}
use Rattle.std.specs.Prelude.{None}
use Rattle.rules.specs.File.{record_at, record_size, byte_at, kind_at, control_at, net_at, number_at, board_of}
use Rattle.rules.specs.Drivers.{driver_at, Of}
use Rattle.rules.proofs.DriverLaws.{read-three, read-five, read-other}
use Rattle.cells.specs.Whole.{Whole}
use Rattle.cells.proofs.WholeLaws.{whole-bounded, in-record}
use Rattle.cells.proofs.driver_at.Goals as goal
use Rattle.cells.proofs.driver_at.Goals.{After-record_start-at}

-- the three answers, by what was read from `at` on
module _ (file : List ℕ) (p at : ℕ) (w : Whole file p) (e : at ≡ record_at p) where
  kind-read : get_or file at 0 ≡ kind_at file p
  unfolding kind_at byte_at
  kind-read = rw e

  three : get_or file at 0 ≡ 3 → Of (record { 0 = number_at file (at + 2) }) (record { 0 = number_at file (at + 4) }) ≡ driver_at (board_of file) p
  unfolding control_at net_at kind_at byte_at
  three k = rw e (read-three file w.checked p w.below (rw e at k))

  five : get_or file at 0 ≡ 5 → Of (record { 0 = p }) (record { 0 = number_at file (at + 4) }) ≡ driver_at (board_of file) p
  unfolding net_at kind_at byte_at
  five k = rw e (read-five file w.checked p w.below (rw e at k))

  other : (get_or file at 0 ≡ 3 → ⊥) → (get_or file at 0 ≡ 5 → ⊥) → None ≡ driver_at (board_of file) p
  other x y = read-other file w.checked p w.below (λ k. x (kind-read ∙ k)) (λ k. y (kind-read ∙ k))

room : (d : After-record_start-at) → d.record_start-at.result + record_size ≤ length d.args.file.now
room d = in-record _ _ _ d.requires d.record_start-at.ensures

pub returns-then-kind-lt-FIRST_OUTPUT : goal.returns-then-kind-lt-FIRST_OUTPUT
returns-then-kind-lt-FIRST_OUTPUT c =
    let no_output = c.if-kind-lt-FIRST_OUTPUT.true in
    other _ _ _ c.requires c.record_start-at.ensures (λ k. omega arith) (λ k. omega arith)

pub returns-in-3 : goal.returns-in-3
returns-in-3 c =
    ap₂ (λ (k n : ℕ). Of (record { 0 = k }) (record { 0 = n })) c.pair.ensures c.pair-2.ensures
    ∙ three _ _ _ c.requires c.record_start-at.ensures c.in-3.is

pub returns-in-5 : goal.returns-in-5
returns-in-5 c =
    ap (λ (n : ℕ). Of c.args.p (record { 0 = n })) c.pair-2.ensures
    ∙ five _ _ _ c.requires c.record_start-at.ensures c.in-5.is

pub returns-in_default : goal.returns-in_default
returns-in_default c =
    other _ _ _ c.requires c.record_start-at.ensures (λ k. omega arith) (λ k. omega arith)

pub record_start-at-requires : goal.record_start-at-requires
record_start-at-requires c = whole-bounded _ _ c.requires

pub bounds-file-at : goal.bounds-file-at
bounds-file-at c = let h = room (goal.at.bounds-file-at c).After-record_start-at in omega arith

pub overflow_add-at : goal.overflow_add-at
overflow_add-at c = let h = room (goal.at.overflow_add-at c).After-record_start-at in omega arith

pub pair-requires : goal.pair-requires
pair-requires c = let h = room (goal.at.pair-requires c).After-record_start-at in omega arith

pub overflow_add-at-2 : goal.overflow_add-at-2
overflow_add-at-2 c = let h = room (goal.at.overflow_add-at-2 c).After-record_start-at in omega arith

pub pair-requires-2 : goal.pair-requires-2
pair-requires-2 c = let h = room (goal.at.pair-requires-2 c).After-record_start-at in omega arith
