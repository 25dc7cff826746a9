-- The table of cell kinds: a record that is not broken means the cell that holds its very bytes, and its columns are as the table has
-- them. The idea: the table's seven rows are seven cases of one choice, over plain numbers.
use Prim.Native.Nat.{ℕ, ◌<◌, ◌≤◌}
use mathlib.Core.Path.{◌≡◌, refl, sym, subst}
use mathlib.Core.Logic.{⊎_elim}
use mathlib.Core.Bool.{Bool, true, false, cond, ◌&&◌, false≢true}
use mathlib.Core.List.{List}
use native.Mathlib.Omega.{arith}
use borrow.Author.Tests.{eqb-true, eqb-false, ltb-true}
use lib.Dec.{eqb, ltb}
use Rattle.base.proofs.BoolLaws.{left, right, clashes, order}
use Rattle.rules.specs.File.{by_kind, means, none, kind_of, on_value_of, control_of, net_of, kind_at, on_at, control_at, net_at, nets_of, of_kind2, table_of, record_of, cell_of}
use Rattle.rules.specs.declared.Cell.{Cell}
use Rattle.rules.specs.declared.Cell.TheVariants.{Internal, Input, Control, ThreeState, TwoState, OpenDrain}
use Rattle.std.specs.Bool.{then_some}
use Rattle.std.specs.Prelude.{Option, Some, None, is_none}

-- the kinds whose record is to have a control, and those whose record is to have a net
abbrev pub switches : ℕ → Bool
switches kind = by_kind kind false false false true false false false

abbrev pub connects : ℕ → Bool
connects kind = by_kind kind false true false true true true false

-- the cell has the record's four columns, and they are as the table allows: where a control is due it is one, and so is a net
pub record Says (kind on control net : ℕ) (switched connected : Bool) (cell : Cell) : Type 0 where
  pub kind-is : kind_of cell ≡ kind
  pub on-is : on_value_of cell ≡ on
  pub control-is : control_of cell ≡ control
  pub net-is : net_of cell ≡ net
  pub has-control : switches kind ≡ true → switched ≡ true
  pub has-net : connects kind ≡ true → connected ≡ true

-- what the library's `then_some` gives
pub some-means : (fits : Bool) (cell : Cell) → then_some fits cell ≡ means fits cell
some-means true cell = refl
some-means false cell = refl

-- the cell that a row of the table means, if any
means-cell : (fits : Bool) (x cell : Cell) → means fits x ≡ Some cell → (fits ≡ true) × (x ≡ cell)
means-cell true x cell e = (refl, cc)
means-cell false x cell e = let z : ◌≡◌ {A = ℕ} 0 1 = cc in absurd (omega arith)

on_value : (on : ℕ) → on < 2 → cond (eqb on 1) 1 0 ≡ on
on_value on h = go (eqb on 1) refl
  where
    go : (a : Bool) → eqb on 1 ≡ a → cond a 1 0 ≡ on
    go true e = sym (eqb-true on 1 e)
    go false e = let z = eqb-false on 1 e in ⊎_elim (λ (l : on < 1). omega arith) (λ (l : 1 ≤ on). absurd (z (omega arith))) (order on 1)

-- what holds in each row of the table holds of the row that a kind picks
choice : (P : Option Cell → Type 0) (a : Bool) (x y : Option Cell) → (a ≡ true → P x) → P y → P (cond a x y)
choice P true x y f g = f refl
choice P false x y f g = g

by-kind :
    (P : Option Cell → Type 0) (kind : ℕ) (r0 r1 r2 r3 r4 r5 other : Option Cell) →
    (kind ≡ 0 → P r0) →
    (kind ≡ 1 → P r1) →
    (kind ≡ 2 → P r2) →
    (kind ≡ 3 → P r3) →
    (kind ≡ 4 → P r4) →
    (kind ≡ 5 → P r5) →
    P other →
    P (by_kind kind r0 r1 r2 r3 r4 r5 other)
by-kind P kind r0 r1 r2 r3 r4 r5 other f0 f1 f2 f3 f4 f5 g =
    choice P (eqb kind 0) _ _ (λ e. f0 (eqb-true kind 0 e))
    (choice P (eqb kind 1) _ _ (λ e. f1 (eqb-true kind 1 e))
    (choice P (eqb kind 2) _ _ (λ e. f2 (eqb-true kind 2 e))
    (choice P (eqb kind 3) _ _ (λ e. f3 (eqb-true kind 3 e))
    (choice P (eqb kind 4) _ _ (λ e. f4 (eqb-true kind 4 e))
    (choice P (eqb kind 5) _ _ (λ e. f5 (eqb-true kind 5 e)) g)))))

module _ (kind on control net : ℕ) (switched connected : Bool) (cell : Cell) where
  -- one row: the record says the row's cell where the row's three tests pass, so what the row means is said
  row :
      (a c n : Bool) (x : Cell) →
      (a ≡ true → c ≡ true → n ≡ true → Says kind on control net switched connected x) →
      means (a && c && n) x ≡ Some cell →
      Says kind on control net switched connected cell
  row a c n x says e =
      let m = means-cell (a && c && n) x cell e in
      let ac = left (a && c) n m.0 in
      subst (Says kind on control net switched connected) m.1 (says (left a c ac) (right a ac) (right (a && c) m.0))

  -- a column that is as the table has it, and one that is not due
  is : (x y : ℕ) → eqb x y ≡ true → y ≡ x
  is x y h = sym (eqb-true x y h)

  undue : (due : ℕ → Bool) {k : ℕ} {given : Bool} → kind ≡ k → due k ≡ false → due kind ≡ true → given ≡ true
  undue due e f h = absurd (clashes h (rw e f))

  -- the six columns of a row, in the table's order
  columns :
      (x : Cell) → kind_of x ≡ kind → on_value_of x ≡ on → control_of x ≡ control → net_of x ≡ net →
      (switches kind ≡ true → switched ≡ true) → (connects kind ≡ true → connected ≡ true) → Says kind on control net switched connected x
  columns x k o c n has-control has-net =
      record { kind-is = k; on-is = o; control-is = c; net-is = n; has-control = has-control; has-net = has-net }

  -- "one is never used as the other": a record that is not broken means the cell that has its very columns
  pub table-says : table_of kind on control net switched connected ≡ Some cell → Says kind on control net switched connected cell
  unfolding table_of kind_of on_value_of control_of net_of
  table-says =
      by-kind (λ (r : Option Cell). r ≡ Some cell → Says kind on control net switched connected cell) kind _ _ _ _ _ _ _
      (λ k. row (eqb on 0) (eqb control none) (eqb net none) Internal
      (λ o c n. columns _ (sym k) (is on 0 o) (is control none c) (is net none n) (undue switches k refl) (undue connects k refl)))
      (λ k. row (eqb on 0) (eqb control none) connected (Input (record { 0 = net }))
      (λ o c n. columns _ (sym k) (is on 0 o) (is control none c) refl (undue switches k refl) (λ h. n)))
      (λ k. row (ltb on 2) (eqb control none) (eqb net none) (Control (eqb on 1))
      (λ o c n. columns _ (sym k) (on_value on (ltb-true on 2 o)) (is control none c) (is net none n) (undue switches k refl) (undue connects k refl)))
      (λ k. row (eqb on 0) switched connected (ThreeState (record { 0 = control }) (record { 0 = net }))
      (λ o c n. columns _ (sym k) (is on 0 o) refl refl (λ h. c) (λ h. n)))
      (λ k. row (eqb on 0) (eqb control none) connected (TwoState (record { 0 = net }))
      (λ o c n. columns _ (sym k) (is on 0 o) (is control none c) refl (undue switches k refl) (λ h. n)))
      (λ k. row (eqb on 0) (eqb control none) connected (OpenDrain (record { 0 = net }))
      (λ o c n. columns _ (sym k) (is on 0 o) (is control none c) refl (undue switches k refl) (λ h. n)))
      (λ e. let z : ◌≡◌ {A = ℕ} 0 1 = cc in absurd (omega arith))

-- the record at a position
abbrev pub SaysAt : List ℕ → ℕ → Cell → Type 0
SaysAt file p cell =
    Says (kind_at file p) (on_at file p) (control_at file p) (net_at file p) (of_kind2 file (control_at file p)) (ltb (net_at file p) (nets_of file)) cell

-- where check 6 passes, the cell at a position says its record's bytes
pub record-says : (file : List ℕ) (p : ℕ) → is_none (record_of file p) ≡ false → SaysAt file p (cell_of (record_of file p))
unfolding record_of
record-says file p e = go (record_of file p) refl e
  where
    go : (r : Option Cell) → record_of file p ≡ r → is_none r ≡ false → SaysAt file p (cell_of r)
    go (Some cell) q h = table-says _ _ _ _ _ _ cell q
    go None q h = absurd (false≢true (sym h))

-- a record that is not broken needs no second look at its columns: its kind says which of them its cell holds
abbrev pub plain_record : ℕ → ℕ → ℕ → ℕ → Option Cell
plain_record kind on control net =
    by_kind kind
    (Some Internal)
    (Some (Input (record { 0 = net })))
    (Some (Control (eqb on 1)))
    (Some (ThreeState (record { 0 = control }) (record { 0 = net })))
    (Some (TwoState (record { 0 = net })))
    (Some (OpenDrain (record { 0 = net })))
    None

kept : (fits : Bool) (cell : Cell) → is_none (means fits cell) ≡ false → means fits cell ≡ Some cell
kept true cell h = refl
kept false cell h = absurd (false≢true (sym h))

-- one choice for both sides
choose :
    (a : Bool) (x y u v : Option Cell) →
    (is_none x ≡ false → x ≡ u) →
    (is_none y ≡ false → y ≡ v) →
    is_none (cond a x y) ≡ false →
    cond a x y ≡ cond a u v
choose true x y u v f g h = f h
choose false x y u v f g h = g h

plain-table :
    (kind on control net : ℕ) (switched connected : Bool) →
    is_none (table_of kind on control net switched connected) ≡ false →
    table_of kind on control net switched connected ≡ plain_record kind on control net
unfolding table_of
plain-table kind on control net switched connected =
    choose (eqb kind 0) _ _ _ _ (kept (eqb on 0 && eqb control none && eqb net none) _)
    (choose (eqb kind 1) _ _ _ _ (kept (eqb on 0 && eqb control none && connected) _)
    (choose (eqb kind 2) _ _ _ _ (kept (ltb on 2 && eqb control none && eqb net none) _)
    (choose (eqb kind 3) _ _ _ _ (kept (eqb on 0 && switched && connected) _)
    (choose (eqb kind 4) _ _ _ _ (kept (eqb on 0 && eqb control none && connected) _)
    (choose (eqb kind 5) _ _ _ _ (kept (eqb on 0 && eqb control none && connected) _) (λ h. absurd (false≢true (sym h))))))))

pub plain-record :
    (file : List ℕ) (p : ℕ) →
    is_none (record_of file p) ≡ false →
    record_of file p ≡ plain_record (kind_at file p) (on_at file p) (control_at file p) (net_at file p)
unfolding record_of
plain-record file p = plain-table _ _ _ _ _ _
