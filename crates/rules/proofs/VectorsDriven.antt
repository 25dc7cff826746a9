-- Theorem 5, demand 3 on vectors, read off the rows' bits: a control cell of kind 2 is on where its bit is its on value, an open-drain output
-- where the row of the vector's group has its bit. The idea: that is the case exactly where the vector's group turns it on, and every vector,
-- inserted ones too, belongs to one of groups 1 to G.
use Prim.Native.Nat.{ℕ, zero, suc, ◌+◌, ◌*◌, ◌/◌, ◌^◌, ◌<◌, ◌≤◌}
use mathlib.Core.Path.{◌≡◌, refl, ◌∙◌, ap}
use mathlib.Core.Logic.{⊎_elim}
use mathlib.Core.Bool.{Bool, true, false, cond, not, ◌&&◌, ◌||◌}
use mathlib.Core.List.{List}
use native.Mathlib.Nat.{mul-zero, div-lt_iff_lt-mul, mul-div_cancel, mul-lt-mul_of_pos_right}
use native.Mathlib.Omega.{arith}
use lib.Dec.{eqb}
use lib.ListN.{length}
use Rattle.base.specs.Tests.{digit}
use Rattle.base.specs.Counting.{count}
use Rattle.base.specs.Weave.{weave}
use Rattle.base.proofs.BoolLaws.{clashes}
use Rattle.base.proofs.CountingLaws.{count_same}
use Rattle.base.proofs.ListLaws.{length-table, table_at}
use Rattle.base.proofs.WeaveLaws.{weave-each, weave-at-base, weave-fits}
use Rattle.rules.specs.File.{Board, board_of, kind_of, on_value_of}
use Rattle.rules.specs.Drivers.{controlled, control_for, open_drain, always_on, on_net, output_of, drives, groups_of}
use Rattle.rules.specs.Groups.{on_in, group_row}
use Rattle.rules.specs.Vectors.{Vector, bases_of, width_of, between, inserted_after, steps_of, vector_of, plan_of, total_of, vector_at, cell_bit, vector_row}
use Rattle.rules.specs.Lines.{loaded, switched_on}
use Rattle.rules.specs.Refusals.{Accepted, judge, board_checks}
use Rattle.rules.specs.declared.Cell.{Cell}
use Rattle.rules.specs.declared.Cell.TheVariants.{Internal, Input, Control, ThreeState, TwoState, OpenDrain}
use Rattle.rules.specs.declared.Step.TheVariants.{Base, Inserted}
use Rattle.rules.specs.Rows.{row_bit}
use Rattle.rules.proofs.RowLaws.{row-bit}
use Rattle.rules.proofs.Codes.{width-least}
use Rattle.rules.proofs.DriverLaws.{control-kind}
use Rattle.rules.proofs.Requirement.{ControlCell}
use Rattle.rules.proofs.Selection.{Sound, sound}
use Rattle.rules.proofs.GroupsDriven.{live, group-drives-once, idle-off}

-- what a vector's cells are loaded with: the bits of its row
pub loaded-is : (b : Board) (v : Vector) (c : ℕ) → c < b.size → loaded (vector_row b v) c ≡ cell_bit b v c (b.cell c)
unfolding vector_row
loaded-is b v c l = row-bit b.size (λ c. cell_bit b v c (b.cell c)) c l

-- a cell of kind 2 is a control cell with its on value
control-bit : (b : Board) (v : Vector) (k : ℕ) (cell : Cell) → kind_of cell ≡ 2 → eqb (digit (cell_bit b v k cell)) (on_value_of cell) ≡ on_in b v.group k
unfolding kind_of on_value_of cell_bit
control-bit b v k Internal e = absurd (omega arith)
control-bit b v k (Input n) e = absurd (omega arith)
control-bit b v k (Control on) e = go on (on_in b v.group k)
  where
    go : (on a : Bool) → eqb (digit (cond a on (not on))) (cond on 1 0) ≡ a
    go true true = refl
    go true false = refl
    go false true = refl
    go false false = refl
control-bit b v k (ThreeState c n) e = absurd (omega arith)
control-bit b v k (TwoState n) e = absurd (omega arith)
control-bit b v k (OpenDrain n) e = absurd (omega arith)

-- that is the case exactly where the vector's group turns it on
pub row_on : (b : Board) (v : Vector) (k : ℕ) → k < b.size → kind_of (b.cell k) ≡ 2 → switched_on b (vector_row b v) k ≡ on_in b v.group k
unfolding switched_on
row_on b v k l e =
    ap (λ (a : Bool). eqb (digit a) (on_value_of (b.cell k))) (loaded-is b v k l) ∙ control-bit b v k (b.cell k) e

-- the control cell k has the turn in a vector: a kind 2 cell is loaded with its on value, an open-drain output has its bit in the group's row (of
-- its own bit nothing can be told where its net's value is 1)
abbrev pub has_turn : Board → Vector → ℕ → Bool
has_turn b v k = cond (open_drain b k) (row_bit (group_row b v.group) 0 k) (switched_on b (vector_row b v) k)

pub turn_is : (b : Board) (v : Vector) (k : ℕ) → ControlCell b k → has_turn b v k ≡ on_in b v.group k
unfolding group_row
turn_is b v k x = go (open_drain b k) refl
  where
    go : (a : Bool) → open_drain b k ≡ a → cond a (row_bit (group_row b v.group) 0 k) (switched_on b (vector_row b v) k) ≡ on_in b v.group k
    go true e = row-bit b.size (on_in b v.group) k x.on-board
    go false e =
        row_on b v k x.on-board
        (⊎_elim (λ q. q) (λ q. absurd (clashes q e)) (control-kind b k x.controlling))

-- a vector's outputs have the turn by its rows as by its group
live_same : (b : Board) → Sound b → (v : Vector) (n c : ℕ) → c < b.size → live b (has_turn b v) n c ≡ live b (on_in b v.group) n c
unfolding output_of
live_same b s v n c l =
    go (controlled b c) refl
  where
    go : (a : Bool) → controlled b c ≡ a → live b (has_turn b v) n c ≡ live b (on_in b v.group) n c
    go true e =
        let own = s.checked.own-control c l e in
        ap (λ (a : Bool). output_of b n c && (always_on b c || a)) (turn_is b v (control_for b c) (record { on-board = own.0; controlling = own.1 }))
    go false e = rw e (uncontrolled (on_net b n c) (always_on b c) (has_turn b v (control_for b c)) (on_in b v.group (control_for b c)))
      where
        uncontrolled : (x y p q : Bool) → (x && y && (y || p)) ≡ (x && y && (y || q))
        uncontrolled true true p q = refl
        uncontrolled true false p q = refl
        uncontrolled false y p q = refl

-- every vector's group is one of 1 to G
step-group : (b : Board) (i : ℕ) → i < groups_of b * width_of b → suc (i / width_of b) ≤ groups_of b
step-group b i l = (div-lt_iff_lt-mul {k = width_of b} {x = i} {y = groups_of b} (pos (width_of b) l)).1 l
  where
    pos : (w : ℕ) → i < groups_of b * w → 0 < w
    pos zero h = let z = rw mul-zero at h in absurd (omega arith)
    pos (suc w) h = omega arith

pub vector-group : (b : Board) (t : ℕ) → t < total_of b → (0 < (vector_at b t).group) × ((vector_at b t).group ≤ groups_of b)
unfolding total_of vector_at plan_of steps_of bases_of vector_of between
vector-group b =
    weave-each Base (between (bases_of b)) (groups_of b * width_of b) (Base 0) (λ step. (0 < (vector_of (bases_of b) step).group) × ((vector_of (bases_of b) step).group ≤ groups_of b))
    (λ i l. (omega arith, step-group b i l))
    (λ i l k m. let inside = rw (length-table (inserted_after (bases_of b) i) (λ t. Inserted i (t + 1))) at m in
    rw (table_at (inserted_after (bases_of b) i) (λ t. Inserted i (t + 1)) (Base 0) {i = k} inside) (omega arith, step-group b i l))

-- and each of groups 1 to G has a vector
pub group-vector : (b : Board) (j : ℕ) → j < groups_of b → (t : ℕ) × (t < total_of b) × ((vector_at b t).group ≡ suc j)
unfolding total_of vector_at plan_of steps_of bases_of vector_of width_of
group-vector b j l =
    let w = width-least b.nets in
    let base = j * width_of b in
    let p : 0 < width_of b = pos (width_of b) w.0 in
    let m = mul-lt-mul_of_pos_right l p in
    let f = weave-fits Base (between (bases_of b)) (groups_of b * width_of b) m in
    (length (weave Base (between (bases_of b)) base), omega arith, rw (weave-at-base Base (between (bases_of b)) (groups_of b * width_of b) (Base 0) m) (ap suc (mul-div_cancel j p)))
  where
    pos : (w : ℕ) → b.nets + 2 ≤ 2 ^ w → 0 < w
    pos zero h = absurd (omega arith)
    pos (suc w) h = omega arith

-- The theorem, from acceptance alone
module _ (file : List ℕ) (ok : judge (board_checks file) ≡ Accepted) where
  -- in each vector, inserted ones included, exactly one output has the turn at every net, read off the vector's row and its group's
  pub vector-drives-once :
      (t n : ℕ) → t < total_of (board_of file) → n < (board_of file).nets →
      count (board_of file).size (live (board_of file) (has_turn (board_of file) (vector_at (board_of file) t)) n) ≡ 1
  vector-drives-once t n l m =
      let b = board_of file in
      let s = sound file ok in
      count_same b.size _ _ (live_same b s (vector_at b t) n) ∙ group-drives-once file ok (vector_at b t).group (vector-group b t l).0 n m

  -- a control cell has the turn exactly in the vectors of the groups that turn it on; so its turn is the group's (turn-in-time)
  pub vector-turn :
      (k t : ℕ) → ControlCell (board_of file) k →
      has_turn (board_of file) (vector_at (board_of file) t) k ≡ on_in (board_of file) (vector_at (board_of file) t).group k
  vector-turn k t x = turn_is (board_of file) (vector_at (board_of file) t) k x

  -- a control cell that switches nothing has the turn in no vector: a kind 2 cell then has the other value
  pub vector-idle-off :
      (k t : ℕ) → ControlCell (board_of file) k → ((n : ℕ) → n < (board_of file).nets → drives (board_of file) k n ≡ false) →
      has_turn (board_of file) (vector_at (board_of file) t) k ≡ false
  vector-idle-off k t x none = vector-turn k t x ∙ idle-off file ok k none (vector_at (board_of file) t).group
