-- The kind picks which columns are read; a record that is not broken means just those (plain-record). Each byte lies inside the record.
use Prim.Native.Nat.{ℕ, ◌+◌, ◌≤◌}
use mathlib.Core.Path.{◌≡◌, sym, ◌∙◌, ap, ap₂}
use mathlib.Core.List.{List}
use native.Mathlib.Omega.{arith}
use lib.ListN.{length, get_or}
use Rattle.std.specs.Prelude.{Some}
use Rattle.rules.specs.File.{record_at, record_size, number_at, byte_at, kind_at, on_at, control_at, net_at, record_of, broken_at}
use Rattle.rules.specs.declared.Cell.TheVariants.{Input, ThreeState, TwoState, OpenDrain}
use Rattle.rules.proofs.RecordLaws.{plain_record, plain-record}
use Rattle.rules.proofs.Shape.{whole-records}
use Rattle.cells.specs.Whole.{Whole}
use Rattle.cells.proofs.WholeLaws.{whole-bounded, in-record, no_row}
use Rattle.cells.proofs.plain_record.Goals as goal
use Rattle.cells.proofs.plain_record.Goals.{After-record_start-at}

as_read :
    (file : List ℕ) (p at kind : ℕ) →
    Whole file p →
    at ≡ record_at p →
    get_or file at 0 ≡ kind →
    plain_record kind (get_or file (at + 1) 0) (number_at file (at + 2)) (number_at file (at + 4)) ≡ record_of file p
unfolding broken_at kind_at on_at control_at net_at byte_at
as_read file p at kind w e k =
    let r = plain-record file p (whole-records file w.checked p w.below) in
    rw (← k, e) (sym r)

room : (d : After-record_start-at) → d.record_start-at.result + record_size ≤ length d.args.file.now
room d = in-record _ _ _ d.requires d.record_start-at.ensures

pub returns-in-1 : goal.returns-in-1
returns-in-1 c =
    ap (λ (n : ℕ). Some (Input (record { 0 = n }))) c.pair.ensures ∙ as_read _ _ _ 1 c.requires c.record_start-at.ensures c.in-1.is

pub returns-in-2 : goal.returns-in-2
returns-in-2 c =
    as_read _ _ _ 2 c.requires c.record_start-at.ensures c.in-2.is

pub returns-in-3 : goal.returns-in-3
returns-in-3 c =
    ap₂ (λ (k n : ℕ). Some (ThreeState (record { 0 = k }) (record { 0 = n }))) c.pair-in-3.ensures c.pair-in-3-2.ensures
    ∙ as_read _ _ _ 3 c.requires c.record_start-at.ensures c.in-3.is

pub returns-in-4 : goal.returns-in-4
returns-in-4 c =
    ap (λ (n : ℕ). Some (TwoState (record { 0 = n }))) c.pair-in-4.ensures ∙ as_read _ _ _ 4 c.requires c.record_start-at.ensures c.in-4.is

pub returns-in-5 : goal.returns-in-5
returns-in-5 c =
    ap (λ (n : ℕ). Some (OpenDrain (record { 0 = n }))) c.pair-in-5.ensures ∙ as_read _ _ _ 5 c.requires c.record_start-at.ensures c.in-5.is

pub returns-in_default : goal.returns-in_default
unfolding record_of kind_at byte_at
returns-in_default c =
    let no = c.in_default.in_default-own.rest in
    rw (← c.record_start-at.ensures)
    (no_row _ _ _ _ _ _ no.0.0.0.0.0.1 no.0.0.0.0.1 no.0.0.0.1 no.0.0.1 no.0.1 no.1)

pub record_start-at-requires : goal.record_start-at-requires
record_start-at-requires c = whole-bounded _ _ c.requires

pub bounds-file-at : goal.bounds-file-at
bounds-file-at c = let h = room (goal.at.bounds-file-at c).After-record_start-at in omega arith

pub overflow_add-at : goal.overflow_add-at
overflow_add-at c = let h = room (goal.at.overflow_add-at c).After-record_start-at in omega arith

pub pair-requires : goal.pair-requires
pair-requires c = let h = room (goal.at.pair-requires c).After-record_start-at in omega arith

pub overflow_add-result : goal.overflow_add-result
overflow_add-result c = let h = room (goal.at.overflow_add-result c).After-record_start-at in omega arith

pub bounds-file-at-in-2 : goal.bounds-file-at-in-2
bounds-file-at-in-2 c = let h = room (goal.at.bounds-file-at-in-2 c).After-record_start-at in omega arith

pub overflow_add-at-in-3 : goal.overflow_add-at-in-3
overflow_add-at-in-3 c = let h = room (goal.at.overflow_add-at-in-3 c).After-record_start-at in omega arith

pub pair-requires-in-3 : goal.pair-requires-in-3
pair-requires-in-3 c = let h = room (goal.at.pair-requires-in-3 c).After-record_start-at in omega arith

pub overflow_add-at-in-3-2 : goal.overflow_add-at-in-3-2
overflow_add-at-in-3-2 c = let h = room (goal.at.overflow_add-at-in-3-2 c).After-record_start-at in omega arith

pub pair-requires-in-3-2 : goal.pair-requires-in-3-2
pair-requires-in-3-2 c = let h = room (goal.at.pair-requires-in-3-2 c).After-record_start-at in omega arith

pub overflow_add-at-in-4 : goal.overflow_add-at-in-4
overflow_add-at-in-4 c = let h = room (goal.at.overflow_add-at-in-4 c).After-record_start-at in omega arith

pub pair-requires-in-4 : goal.pair-requires-in-4
pair-requires-in-4 c = let h = room (goal.at.pair-requires-in-4 c).After-record_start-at in omega arith

pub overflow_add-at-in-5 : goal.overflow_add-at-in-5
overflow_add-at-in-5 c = let h = room (goal.at.overflow_add-at-in-5 c).After-record_start-at in omega arith

pub pair-requires-in-5 : goal.pair-requires-in-5
pair-requires-in-5 c = let h = room (goal.at.pair-requires-in-5 c).After-record_start-at in omega arith

pub returns-in-0 : goal.returns-in-0
returns-in-0 c = as_read _ _ _ 0 c.requires c.record_start-at.ensures c.in-0.is
