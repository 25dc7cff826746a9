-- Theorem 16, demand 3 of the bytes that `groups` and `vector` wrote, from the verdict of the question's own answer: theorems 3, 5 and 10, read
-- off the buffers. The idea: what is written stands first in the buffer, each row after those before it, so the buffer's bits are the rows'.
use Prim.Native.Nat.{ℕ, zero, suc, ◌+◌, ◌*◌, ◌-◌, ◌/◌, ◌%◌, ◌<◌, ◌≤◌}
use mathlib.Core.Path.{◌≡◌, refl, sym, ◌∙◌, ap, ap₂}
use mathlib.Core.Logic.{◌⊎◌, ⊎_elim, ⊎_map}
use mathlib.Core.Bool.{Bool, true, false, cond, not, ◌&&◌, ◌||◌, and-true, and-false}
use mathlib.Core.List.{List, ◌++◌}
use native.Mathlib.Nat.{zero-add, zero-mul, suc-mul, mul-le-mul_right}
use native.Mathlib.Numerals.{add-one}
use native.Mathlib.Omega.{arith}
use borrow.Author.Tests.{leb-false, eqb-true}
use lib.Dec.{eqb}
use lib.ListN.{length, length-append, get_or, get_or-append}
use lib.Seq.{drop-append_seam, get_or-drop}
use Rattle.base.specs.Digits.{bit, ceil}
use Rattle.base.specs.Counting.{count}
use Rattle.base.specs.Tests.{digit, any}
use Rattle.base.proofs.BoolLaws.{below_suc, left, right, both, clashes, fails-if, same_test}
use Rattle.base.proofs.TestLaws.{any_at, all-at, all_from, any_same}
use Rattle.base.proofs.CountingLaws.{count_same}
use Rattle.base.proofs.OneToOne.{without}
use Rattle.rules.specs.Rows.{row_bytes, row_bit}
use Rattle.rules.specs.File.{Board, board_of, byte_at, kind_of, on_value_of, control_of}
use Rattle.rules.specs.Drivers.{control_for, is_control, open_drain, on_net, driver_of, drives, drivers, controls, degree, groups_of}
use Rattle.rules.specs.Groups.{on_in, group_row, group_rows}
use Rattle.rules.specs.Vectors.{Vector, total_of, vector_at, cell_bit, vector_row}
use Rattle.rules.specs.Lines.{loaded, switched_on, acts_as, acts, has_resistor, level}
use Rattle.rules.specs.Refusals.{Accepted, Verdict, judge, board_checks, count_checks, groups_checks, vector_checks}
use Rattle.rules.specs.Answers.{unless, over, groups_answer, vector_answer}
use Rattle.rules.specs.declared.Cell.{Cell}
use Rattle.rules.specs.declared.Cell.TheVariants.{Internal, Input, Control, ThreeState, TwoState, OpenDrain}
use Rattle.rules.proofs.Verdicts.{AllPass, all_pass, accepted, append-pass}
use Rattle.rules.proofs.RowLaws.{row-length, row-bit}
use Rattle.rules.proofs.DriverLaws.{control-kind, driver-kind, drain-control, three-driver, three-control}
use Rattle.rules.proofs.NetSetLaws.{Affects}
use Rattle.rules.proofs.Requirement.{ControlCell}
use Rattle.rules.proofs.Selection.{Sound, sound}
use Rattle.rules.proofs.GroupsDriven.{live, live-count, own-cell, group-drives-once, turn-in-time, idle-off}
use Rattle.rules.proofs.VectorsDriven.{row_on, turn_is, vector-group}
use Rattle.rules.proofs.LinesDriven.{vector-level, vector-agrees, vector-held, vector-lets-go}

-- the bit of cell k in row g, counted from 0, of the rows that stand one after the other in a buffer
abbrev pub bit_in : Board → List ℕ → ℕ → ℕ → Bool
bit_in b bytes g k = row_bit bytes (g * row_bytes b.size) k

-- the control cell k has the turn by a vector's bytes, or, where it is an open-drain output, by row g of the groups' (has_turn of VectorsDriven)
abbrev pub turn_in : Board → List ℕ → List ℕ → ℕ → ℕ → Bool
turn_in b vector groups g k = cond (open_drain b k) (bit_in b groups g k) (switched_on b vector k)

-- a row that lies in the first of two runs of bytes, and one that begins the second
row-front : (xs ys : List ℕ) (at c : ℕ) → at + c / 8 < length xs → row_bit (xs ++ ys) at c ≡ row_bit xs at c
unfolding row_bit byte_at
row-front xs ys at c l = ap (λ (w : ℕ). bit w (c % 8)) (get_or-append xs ys 0 (at + c / 8) l)

row-behind : (xs ys : List ℕ) (at c : ℕ) → at ≡ length xs → row_bit (xs ++ ys) at c ≡ row_bit ys 0 c
unfolding row_bit byte_at
row-behind xs ys at c e =
    ap (λ (w : ℕ). bit w (c % 8))
    (ap (λ (x : ℕ). get_or (xs ++ ys) (x + c / 8) 0) e
    ∙ sym (get_or-drop (length xs) (xs ++ ys) (c / 8) 0)
    ∙ ap₂ (λ (l : List ℕ) (i : ℕ). get_or l i 0) (drop-append_seam xs ys) (sym (zero-add (c / 8))))

-- the byte of a cell lies in its row
byte-within : (size c : ℕ) → c < size → c / 8 < row_bytes size
unfolding row_bytes ceil
byte-within size c l = omega arith

-- the groups' rows
module _ (b : Board) where
  -- how long they are
  length-rows : (g : ℕ) → length (group_rows b g) ≡ g * row_bytes b.size
  unfolding group_rows group_row
  length-rows zero = sym (zero-mul (row_bytes b.size))
  length-rows (suc g) =
      rw length-append (omega (arith, length-rows g, row-length b.size (on_in b (suc g)), suc-mul g (row_bytes b.size)))

  -- row g lies in the rows of more groups than g
  row_within : (groups g k : ℕ) → g < groups → k < b.size → g * row_bytes b.size + k / 8 < length (group_rows b groups)
  row_within groups g k l m =
      let all = mul-le-mul_right {m = suc g} {n = groups} (row_bytes b.size) l in
      omega (arith, all, suc-mul g (row_bytes b.size), byte-within b.size k m, length-rows groups)

  -- the bits of row g are those of group g + 1
  rows-bit : (groups g k : ℕ) → g < groups → k < b.size → bit_in b (group_rows b groups) g k ≡ on_in b (suc g) k
  unfolding group_rows group_row
  rows-bit zero g k l m = absurd (omega arith)
  rows-bit (suc j) g k l m =
      ⊎_elim
      (λ (e : g ≡ j).
      row-behind (group_rows b j) _ (g * row_bytes b.size) k (ap (λ (x : ℕ). x * row_bytes b.size) e ∙ sym (length-rows j))
      ∙ row-bit b.size (on_in b (suc j)) k m
      ∙ ap (λ (x : ℕ). on_in b (suc x) k) (sym e))
      (λ (e : g < j). row-front (group_rows b j) _ (g * row_bytes b.size) k (row_within j g k e m) ∙ rows-bit j g k e m)
      (below_suc l)

  -- written over a buffer they have the same bits, and so has a vector's row
  groups-bit : (buffer : List ℕ) (groups g k : ℕ) → g < groups → k < b.size → bit_in b (over (group_rows b groups) buffer) g k ≡ on_in b (suc g) k
  groups-bit buffer groups g k l m =
      row-front (group_rows b groups) _ (g * row_bytes b.size) k (row_within groups g k l m) ∙ rows-bit groups g k l m

  vector-bit : (v : Vector) (buffer : List ℕ) (c : ℕ) → c < b.size → loaded (over (vector_row b v) buffer) c ≡ loaded (vector_row b v) c
  unfolding vector_row
  vector-bit v buffer c l =
      row-front (vector_row b v) _ 0 c (omega (arith, byte-within b.size c l, row-length b.size (λ c. cell_bit b v c (b.cell c))))

-- a control cell is on, an output acts on its line, and a line has a level by what the cells are loaded with
switched-same : (b : Board) (row row' : List ℕ) (k : ℕ) → loaded row k ≡ loaded row' k → switched_on b row k ≡ switched_on b row' k
unfolding switched_on
switched-same b row row' k e = ap (λ (a : Bool). eqb (digit a) (on_value_of (b.cell k))) e

module _ (b : Board) (s : Sound b) (row row' : List ℕ) (same : (c : ℕ) → c < b.size → loaded row c ≡ loaded row' c) where
  acts-as-same : (c : ℕ) → c < b.size → (cell : Cell) → (kind_of cell ≡ 3 → control_of cell < b.size) → acts_as b row c cell ≡ acts_as b row' c cell
  unfolding acts_as kind_of control_of
  acts-as-same c l Internal h = refl
  acts-as-same c l (Input n) h = refl
  acts-as-same c l (Control on) h = refl
  acts-as-same c l (ThreeState k n) h = switched-same b row row' k.0 (same k.0 (h refl))
  acts-as-same c l (TwoState n) h = refl
  acts-as-same c l (OpenDrain n) h = ap not (same c l)

  acts-same : (n c : ℕ) → c < b.size → acts b row n c ≡ acts b row' n c
  unfolding acts
  acts-same n c l = ap (λ (a : Bool). on_net b n c && a) (acts-as-same c l (b.cell c) named)
    where
      named : kind_of (b.cell c) ≡ 3 → control_of (b.cell c) < b.size
      named e = rw (← three-control b c e) (s.checked.own-control c l (three-driver b c e)).0

  level-same : (n : ℕ) → level b row n ≡ level b row' n
  unfolding level
  level-same n =
      same_test _ _
      (λ h. all_from _ _ (λ c l. sym (at c l) ∙ all-at _ _ h l))
      (λ h. all_from _ _ (λ c l. at c l ∙ all-at _ _ h l))
    where
      at : (c : ℕ) → c < b.size → (not (acts b row n c) || loaded row c) ≡ (not (acts b row' n c) || loaded row' c)
      at c l = ap₂ (λ (a x : Bool). not a || x) (acts-same n c l) (same c l)

-- a control cell that switches nothing: none of the board's nets is in its net set
abbrev pub Idle : Board → ℕ → Type 0
Idle b k = (n : ℕ) → n < b.nets → drives b k n ≡ false

-- it is in no net's number of control cells: each is the same without it
pub idle-uncounted :
    (b : Board) (k : ℕ) → Idle b k → (n : ℕ) → n < b.nets →
    (controls b n k ≡ false) × (degree b n ≡ count b.size (without (controls b n) k))
unfolding degree controls
idle-uncounted b k idle n l = (off, count_same _ _ _ (λ i m. go i (eqb i k) refl))
  where
    off : controls b n k ≡ false
    off = fails-if _ (λ h. clashes (right (is_control b k) h) (idle n l))

    go : (i : ℕ) (a : Bool) → eqb i k ≡ a → controls b n i ≡ (controls b n i && not a)
    go i true e = rw (eqb-true i k e) (off ∙ sym (and-false (controls b n k)))
    go i false e = sym (and-true (controls b n i))

-- the board of an accepted question passes checks 1 to 11
count-board : (file : List ℕ) → AllPass (count_checks file) → judge (board_checks file) ≡ Accepted
unfolding count_checks
count-board file h = accepted (board_checks file) (append-pass (board_checks file) _ h).0

-- Theorem 16, of `groups`: rows 1 to G of what it wrote are rows 0 to G - 1 here
module _ (file buffer : List ℕ) (ok : (groups_answer file buffer).verdict ≡ Accepted) where
  -- its board is accepted, G is returned, and the bits of row g are those of group g + 1
  groups-board : judge (board_checks file) ≡ Accepted
  unfolding groups_answer groups_checks
  groups-board = count-board file (append-pass (count_checks file) _ (all_pass (groups_checks file buffer) ok)).0

  groups-returned : (groups_answer file buffer).groups ≡ groups_of (board_of file)
  unfolding groups_answer
  groups-returned = ap (λ (v : Verdict). unless v (groups_of (board_of file)) 0) ok

  written-bit : (g k : ℕ) → g < (groups_answer file buffer).groups → k < (board_of file).size → bit_in (board_of file) (groups_answer file buffer).buffer g k ≡ on_in (board_of file) (suc g) k
  unfolding groups_answer
  written-bit g k l m =
      let b = board_of file in
      ap (λ (v : Verdict). bit_in b (unless v (over (group_rows b (groups_of b)) buffer) buffer) g k) ok
      ∙ groups-bit b buffer (groups_of b) g k (omega (arith, groups-returned)) m

  -- in each row exactly one output is on at every net, kind 4 included
  pub groups-bytes-drive-once :
      (g n : ℕ) → g < (groups_answer file buffer).groups → n < (board_of file).nets →
      count (board_of file).size (live (board_of file) (bit_in (board_of file) (groups_answer file buffer).buffer g) n) ≡ 1
  groups-bytes-drive-once g n l m =
      let b = board_of file in
      live-count b (bit_in b (groups_answer file buffer).buffer g) (on_in b (suc g)) n
      (λ c k d. written-bit g (control_for b c) l (own-cell b (sound file groups-board) n c k d).on-board)
      ∙ group-drives-once file groups-board (suc g) (omega arith) n m

  -- a control cell whose nets have d controlled drivers has its turn in exactly one of the first d rows, and so many were written at least
  pub groups-bytes-turn :
      (k n : ℕ) → ControlCell (board_of file) k → n < (board_of file).nets → Affects (board_of file) k n →
      (count (drivers (board_of file) n) (λ g. bit_in (board_of file) (groups_answer file buffer).buffer g k) ≡ 1)
      × (drivers (board_of file) n ≤ (groups_answer file buffer).groups)
  groups-bytes-turn k n x l a =
      let b = board_of file in
      let turn = turn-in-time file groups-board k n x l a in
      let within : drivers b n ≤ (groups_answer file buffer).groups = omega (arith, turn.1, groups-returned) in
      (count_same (drivers b n) _ _ (λ g m. written-bit g k (omega arith) x.on-board ∙ ap (λ (i : ℕ). on_in b i k) (sym (add-one g))) ∙ turn.0, within)

  -- one that switches nothing is off in every row; and it is counted for no net (idle-uncounted)
  pub groups-bytes-idle :
      (k : ℕ) → k < (board_of file).size → Idle (board_of file) k →
      (g : ℕ) → g < (groups_answer file buffer).groups → bit_in (board_of file) (groups_answer file buffer).buffer g k ≡ false
  groups-bytes-idle k m idle g l = written-bit g k l m ∙ idle-off file groups-board k idle (suc g)

-- Theorem 16, of `vector`, alone and with what `groups` wrote into a buffer of its own
module _ (file : List ℕ) (number : ℕ) (buffer : List ℕ) (ok : (vector_answer file number buffer).verdict ≡ Accepted) where
  -- its board is accepted, its number is one of the plan's, and that vector's group is returned
  vector-board : judge (board_checks file) ≡ Accepted
  unfolding vector_answer vector_checks
  vector-board = count-board file (append-pass (count_checks file) _ (all_pass (vector_checks file number buffer) ok)).0

  in-plan : number < total_of (board_of file)
  unfolding vector_answer vector_checks
  in-plan = leb-false _ _ ((append-pass (count_checks file) _ (all_pass (vector_checks file number buffer) ok)).1.0 0 (omega arith))

  vector-returned : (vector_answer file number buffer).group ≡ (vector_at (board_of file) number).group
  unfolding vector_answer
  vector-returned = ap (λ (v : Verdict). unless v (vector_at (board_of file) number).group 0) ok

  -- the cells are loaded with the vector's row, so that a control cell of kind 2 is on where the group turns it on
  written-load :
      (c : ℕ) → c < (board_of file).size →
      loaded (vector_answer file number buffer).buffer c ≡ loaded (vector_row (board_of file) (vector_at (board_of file) number)) c
  unfolding vector_answer
  written-load c l =
      let b = board_of file in
      ap (λ (v : Verdict). loaded (unless v (over (vector_row b (vector_at b number)) buffer) buffer) c) ok ∙ vector-bit b (vector_at b number) buffer c l

  written_on :
      (k : ℕ) → k < (board_of file).size → kind_of ((board_of file).cell k) ≡ 2 →
      switched_on (board_of file) (vector_answer file number buffer).buffer k ≡ on_in (board_of file) (vector_at (board_of file) number).group k
  written_on k l e = switched-same (board_of file) _ _ k (written-load k l) ∙ row_on (board_of file) (vector_at (board_of file) number) k l e

  -- a control cell of kind 2 that switches nothing is loaded with the other value
  pub vector-bytes-idle :
      (k : ℕ) → k < (board_of file).size → kind_of ((board_of file).cell k) ≡ 2 → Idle (board_of file) k →
      switched_on (board_of file) (vector_answer file number buffer).buffer k ≡ false
  vector-bytes-idle k l e idle = written_on k l e ∙ idle-off file vector-board k idle (vector_at (board_of file) number).group

  -- at a net without open-drain outputs exactly one output is on, by the vector's bytes alone
  pub vector-bytes-alone :
      (n : ℕ) → n < (board_of file).nets → has_resistor (board_of file) n ≡ false →
      count (board_of file).size (live (board_of file) (switched_on (board_of file) (vector_answer file number buffer).buffer) n) ≡ 1
  unfolding has_resistor driver_of
  vector-bytes-alone n m none =
      let b = board_of file in
      let s = sound file vector-board in
      live-count b (switched_on b (vector_answer file number buffer).buffer) (on_in b (vector_at b number).group) n
      (λ c l d. written_on (control_for b c) (own-cell b s n c l d).on-board (s.checked.named-control c l (three c l d)))
      ∙ group-drives-once file vector-board (vector_at b number).group (vector-group b number in-plan).0 n m
    where
      three : (c : ℕ) → c < (board_of file).size → driver_of (board_of file) n c ≡ true → kind_of ((board_of file).cell c) ≡ 3
      three c l d =
          ⊎_elim
          (λ e. e)
          (λ e. absurd (clashes (any_at _ _ l (both (left (on_net (board_of file) n c) _ d) e)) none))
          (driver-kind (board_of file) c (right (on_net (board_of file) n c) d))

  -- the level of every net, as the loaded outputs make it, is the net's value
  pub vector-bytes-level :
      (n : ℕ) → n < (board_of file).nets →
      level (board_of file) (vector_answer file number buffer).buffer n ≡ (vector_at (board_of file) number).value n
  vector-bytes-level n m =
      level-same (board_of file) (sound file vector-board) _ _ written-load n ∙ vector-level file vector-board number n in-plan m

  -- whatever acts on a net is loaded with the net's value: no two outputs fight
  pub vector-bytes-agree :
      (n c : ℕ) → c < (board_of file).size → acts (board_of file) (vector_answer file number buffer).buffer n c ≡ true →
      loaded (vector_answer file number buffer).buffer c ≡ (vector_at (board_of file) number).value n
  vector-bytes-agree n c l h =
      written-load c l
      ∙ vector-agrees file vector-board number n c l (sym (acts-same (board_of file) (sound file vector-board) _ _ written-load n c l) ∙ h)

  -- every line is held: some output acts on it, or its value is 1 and it has a resistor
  pub vector-bytes-held :
      (n : ℕ) → n < (board_of file).nets →
      (any (board_of file).size (acts (board_of file) (vector_answer file number buffer).buffer n) ≡ true)
      ⊎ ((has_resistor (board_of file) n ≡ true) × ((vector_at (board_of file) number).value n ≡ true))
  vector-bytes-held n m =
      ⊎_map
      (λ h. any_same _ _ _ (acts-same (board_of file) (sound file vector-board) _ _ written-load n) ∙ h)
      (λ h. h)
      (vector-held file vector-board number n in-plan m)

  module _ (rows : List ℕ) (rows_ok : (groups_answer file rows).verdict ≡ Accepted) where
    -- the group that is returned has a row among those that `groups` wrote, the one after g others
    pub vector-bytes-group : (g : ℕ) × ((vector_answer file number buffer).group ≡ g + 1) × (g < (groups_answer file rows).groups)
    vector-bytes-group =
        let at = vector-group (board_of file) number in-plan in
        ((vector_at (board_of file) number).group - 1, omega (arith, vector-returned, at.0), omega (arith, at.0, at.1, groups-returned file rows rows_ok))

    module _ (g : ℕ) (is : (vector_answer file number buffer).group ≡ g + 1) where
      -- the bits of that row are the group's
      group-is : (vector_at (board_of file) number).group ≡ suc g
      group-is = sym vector-returned ∙ is ∙ add-one g

      row-bit-is : (k : ℕ) → k < (board_of file).size → bit_in (board_of file) (groups_answer file rows).buffer g k ≡ on_in (board_of file) (vector_at (board_of file) number).group k
      row-bit-is k l =
          let at = vector-group (board_of file) number in-plan in
          written-bit file rows rows_ok g k (omega (arith, at.1, group-is, groups-returned file rows rows_ok)) l
          ∙ ap (λ (i : ℕ). on_in (board_of file) i k) (sym group-is)

      -- a control cell of kind 2 is on in the vector's bytes exactly where it is on in its group's row
      pub vector-bytes-turn :
          (k : ℕ) → k < (board_of file).size → kind_of ((board_of file).cell k) ≡ 2 →
          switched_on (board_of file) (vector_answer file number buffer).buffer k ≡ bit_in (board_of file) (groups_answer file rows).buffer g k
      vector-bytes-turn k l e = written_on k l e ∙ sym (row-bit-is k l)

      -- exactly one output has the turn at every net
      pub vector-bytes-drive-once :
          (n : ℕ) → n < (board_of file).nets →
          count (board_of file).size (live (board_of file) (turn_in (board_of file) (vector_answer file number buffer).buffer (groups_answer file rows).buffer g) n) ≡ 1
      vector-bytes-drive-once n m =
          let b = board_of file in
          live-count b (turn_in b (vector_answer file number buffer).buffer (groups_answer file rows).buffer g) (on_in b (vector_at b number).group) n
          (λ c l d. turn-written (control_for b c) (own-cell b (sound file vector-board) n c l d))
          ∙ group-drives-once file vector-board (vector_at b number).group (vector-group b number in-plan).0 n m
        where
          turn-written :
              (k : ℕ) → ControlCell (board_of file) k →
              turn_in (board_of file) (vector_answer file number buffer).buffer (groups_answer file rows).buffer g k ≡ on_in (board_of file) (vector_at (board_of file) number).group k
          turn-written k x = go (open_drain (board_of file) k) refl
            where
              go :
                  (a : Bool) → open_drain (board_of file) k ≡ a →
                  cond a (bit_in (board_of file) (groups_answer file rows).buffer g k) (switched_on (board_of file) (vector_answer file number buffer).buffer k)
                  ≡ on_in (board_of file) (vector_at (board_of file) number).group k
              go true e = row-bit-is k x.on-board
              go false e =
                  written_on k x.on-board (⊎_elim (λ q. q) (λ q. absurd (clashes q e)) (control-kind (board_of file) k x.controlling))

      -- an open-drain output whose bit in the group's row is 0 is loaded with 1, so that it pulls no line
      pub vector-bytes-let-go :
          (c : ℕ) → c < (board_of file).size → open_drain (board_of file) c ≡ true → bit_in (board_of file) (groups_answer file rows).buffer g c ≡ false →
          loaded (vector_answer file number buffer).buffer c ≡ true
      vector-bytes-let-go c l d off =
          let b = board_of file in
          let x : ControlCell b c = record { on-board = l; controlling = (drain-control b c d).2 } in
          written-load c l ∙ vector-lets-go file vector-board number c l d (turn_is b (vector_at b number) c x ∙ sym (row-bit-is c l) ∙ off)
