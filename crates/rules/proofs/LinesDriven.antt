-- Theorem 10: what a bench sees, read off a vector's row alone (`Lines`). The level of every net in every vector, as its outputs make it, is the
-- net's value; no two outputs fight; every line is held; and no line is pulled by an open-drain output out of its turn. The idea: whatever acts
-- is loaded with the net's value, since an open-drain output that acts is loaded with 0 and so has the turn; and the one output that has the
-- turn acts, or is an open-drain output that lets go of a line whose value is 1.
use Prim.Native.Nat.{ℕ, ◌<◌}
use mathlib.Core.Path.{◌≡◌, refl, sym, ◌∙◌, ap}
use mathlib.Core.Logic.{◌⊎◌, inl, inr, ⊎_elim, ⊎_map}
use mathlib.Core.Bool.{Bool, true, false, cond, not, ◌||◌, false≢true}
use mathlib.Core.List.{List}
use native.Mathlib.Omega.{arith}
use borrow.Author.Tests.{eqb-true}
use Rattle.base.specs.Tests.{any, all}
use Rattle.base.proofs.BoolLaws.{left, right, both, or_cases, or-neither, not-fails, fails-not, passes-not, clashes, fails-if, passes-if}
use Rattle.base.proofs.TestLaws.{any_at, all-at, all_from}
use Rattle.base.proofs.CountingLaws.{count-member}
use Rattle.rules.specs.File.{Board, board_of, kind_of, control_of, net_of}
use Rattle.rules.specs.Drivers.{controlled, control_for, open_drain, always_on, on_net, output_of}
use Rattle.rules.specs.Groups.{on_in}
use Rattle.rules.specs.Vectors.{Vector, total_of, vector_at, cell_bit, vector_row}
use Rattle.rules.specs.Lines.{loaded, switched_on, acts_as, acts, has_resistor, level}
use Rattle.rules.specs.Refusals.{Accepted, judge, board_checks}
use Rattle.rules.specs.declared.Cell.{Cell}
use Rattle.rules.specs.declared.Cell.TheVariants.{Internal, Input, Control, ThreeState, TwoState, OpenDrain}
use Rattle.rules.proofs.DriverLaws.{driver-kind, four, five, three-control, drain-control}
use Rattle.rules.proofs.Requirement.{ControlCell}
use Rattle.rules.proofs.Selection.{Sound, sound}
use Rattle.rules.proofs.GroupsDriven.{live, group-drives-once}
use Rattle.rules.proofs.VectorsDriven.{loaded-is, row_on, has_turn, turn_is, vector-group}

-- each kind of output, over the cell itself: when it acts, and what an open-drain output is loaded with
module _ (b : Board) (c : ℕ) where
  three-acts : (row : List ℕ) (cell : Cell) → kind_of cell ≡ 3 → acts_as b row c cell ≡ switched_on b row (control_of cell)
  unfolding kind_of acts_as control_of
  three-acts row Internal e = absurd (omega arith)
  three-acts row (Input n) e = absurd (omega arith)
  three-acts row (Control on) e = absurd (omega arith)
  three-acts row (ThreeState k n) e = refl
  three-acts row (TwoState n) e = absurd (omega arith)
  three-acts row (OpenDrain n) e = absurd (omega arith)

  four-acts : (row : List ℕ) (cell : Cell) → kind_of cell ≡ 4 → acts_as b row c cell ≡ true
  unfolding kind_of acts_as
  four-acts row Internal e = absurd (omega arith)
  four-acts row (Input n) e = absurd (omega arith)
  four-acts row (Control on) e = absurd (omega arith)
  four-acts row (ThreeState k n) e = absurd (omega arith)
  four-acts row (TwoState n) e = refl
  four-acts row (OpenDrain n) e = absurd (omega arith)

  drain-acts : (row : List ℕ) (cell : Cell) → kind_of cell ≡ 5 → acts_as b row c cell ≡ not (loaded row c)
  unfolding kind_of acts_as
  drain-acts row Internal e = absurd (omega arith)
  drain-acts row (Input n) e = absurd (omega arith)
  drain-acts row (Control on) e = absurd (omega arith)
  drain-acts row (ThreeState k n) e = absurd (omega arith)
  drain-acts row (TwoState n) e = absurd (omega arith)
  drain-acts row (OpenDrain n) e = refl

  drain-bit : (v : Vector) (cell : Cell) → kind_of cell ≡ 5 → cell_bit b v c cell ≡ cond (on_in b v.group c) (v.value (net_of cell)) true
  unfolding kind_of cell_bit net_of
  drain-bit v Internal e = absurd (omega arith)
  drain-bit v (Input n) e = absurd (omega arith)
  drain-bit v (Control on) e = absurd (omega arith)
  drain-bit v (ThreeState k n) e = absurd (omega arith)
  drain-bit v (TwoState n) e = absurd (omega arith)
  drain-bit v (OpenDrain n) e = refl

  -- an output that acts is loaded with its net's value: one of open-drain kind is loaded with 0, as only in its turn
  gives : (v : Vector) (row : List ℕ) (cell : Cell) → loaded row c ≡ cell_bit b v c cell → acts_as b row c cell ≡ true → cell_bit b v c cell ≡ v.value (net_of cell)
  unfolding acts_as cell_bit net_of
  gives v row Internal e a = absurd (false≢true a)
  gives v row (Input n) e a = absurd (false≢true a)
  gives v row (Control on) e a = absurd (false≢true a)
  gives v row (ThreeState k n) e a = refl
  gives v row (TwoState n) e a = refl
  gives v row (OpenDrain n) e a = go (on_in b v.group c) e
    where
      go : (turn : Bool) → loaded row c ≡ cond turn (v.value n.0) true → cond turn (v.value n.0) true ≡ v.value n.0
      go true q = refl
      go false q = absurd (clashes q (fails-not _ a))

-- the cell at c works at net n in a vector: it acts on the line, or is an open-drain output that has let go of a line whose value is 1
abbrev AtWork : Board → Vector → ℕ → ℕ → Type 0
AtWork b v n c = (acts b (vector_row b v) n c ≡ true) ⊎ ((on_net b n c ≡ true) × (open_drain b c ≡ true) × (v.value n ≡ true))

-- the outputs of a net in a vector
module _ (b : Board) (v : Vector) (c : ℕ) (l : c < b.size) where
  drain-loaded : open_drain b c ≡ true → (turn : Bool) → on_in b v.group c ≡ turn → loaded (vector_row b v) c ≡ cond turn (v.value (net_of (b.cell c))) true
  drain-loaded h turn e =
      loaded-is b v c l ∙ drain-bit b c v (b.cell c) (five b c h) ∙ ap (λ (a : Bool). cond a (v.value (net_of (b.cell c))) true) e

  -- whatever acts on a net is loaded with the net's value
  agrees : (n : ℕ) → acts b (vector_row b v) n c ≡ true → loaded (vector_row b v) c ≡ v.value n
  unfolding acts on_net
  agrees n h =
      loaded-is b v c l
      ∙ gives b c v (vector_row b v) (b.cell c) (loaded-is b v c l) (right (on_net b n c) h)
      ∙ ap v.value (eqb-true _ _ (left (on_net b n c) _ h))

  -- an open-drain output in its turn: it pulls where the net's value is 0
  drained : (n : ℕ) → on_net b n c ≡ true → open_drain b c ≡ true → on_in b v.group c ≡ true → AtWork b v n c
  unfolding acts on_net
  drained n on-net d on =
      go (v.value n) (drain-loaded d true on ∙ ap v.value (eqb-true _ _ on-net))
    where
      go : (a : Bool) → loaded (vector_row b v) c ≡ a → (acts b (vector_row b v) n c ≡ true) ⊎ ((on_net b n c ≡ true) × (open_drain b c ≡ true) × (a ≡ true))
      go true q = inr (on-net, d, refl)
      go false q = inl (both on-net (drain-acts b c (vector_row b v) (b.cell c) (five b c d) ∙ not-fails q))

  -- what has the turn at a net works at it
  at-work : Sound b → (n : ℕ) → live b (on_in b v.group) n c ≡ true → AtWork b v n c
  unfolding acts output_of
  at-work s n h =
      let o = left (output_of b n c) _ h in
      ⊎_elim
      always
      (λ (on : on_in b v.group (control_for b c) ≡ true). ⊎_elim (by-control on) always (or_cases (controlled b c) (right (on_net b n c) o)))
      (or_cases (always_on b c) (right (output_of b n c) h))
    where
      on-net : on_net b n c ≡ true
      on-net = left (on_net b n c) _ (left (output_of b n c) _ h)

      always : always_on b c ≡ true → AtWork b v n c
      always a = inl (both on-net (four-acts b c (vector_row b v) (b.cell c) (four b c a)))

      by-control : on_in b v.group (control_for b c) ≡ true → controlled b c ≡ true → AtWork b v n c
      by-control on k = ⊎_elim switched (λ d. drained n on-net d (rw (drain-control b c d).1 at on)) (driver-kind b c k)
        where
          switched : kind_of (b.cell c) ≡ 3 → AtWork b v n c
          switched e =
              let acting = three-acts b c (vector_row b v) (b.cell c) e ∙ ap (switched_on b (vector_row b v)) (sym (three-control b c e)) in
              let control = row_on b v (control_for b c) (s.checked.own-control c l k).0 (s.checked.named-control c l e) in
              inl (both on-net (acting ∙ control ∙ on))

-- The theorem, from acceptance alone
module _ (file : List ℕ) (ok : judge (board_checks file) ≡ Accepted) where
  -- the row of vector t
  abbrev row_at : ℕ → List ℕ
  row_at t = vector_row (board_of file) (vector_at (board_of file) t)

  -- at every net in every vector some output works
  working :
      (t n : ℕ) → t < total_of (board_of file) → n < (board_of file).nets →
      (c : ℕ) × (c < (board_of file).size) × AtWork (board_of file) (vector_at (board_of file) t) n c
  working t n l m =
      let b = board_of file in
      let one = group-drives-once file ok (vector_at b t).group (vector-group b t l).0 n m in
      let c = count-member b.size (live b (on_in b (vector_at b t).group) n) (omega arith) in
      (c.0, c.1, at-work b (vector_at b t) c.0 c.1 (sound file ok) n c.2)

  -- the level of every net in every vector, as its outputs make it, is the net's value
  pub vector-level : (t n : ℕ) → t < total_of (board_of file) → n < (board_of file).nets → level (board_of file) (row_at t) n ≡ (vector_at (board_of file) t).value n
  unfolding level
  vector-level t n l m = go ((vector_at (board_of file) t).value n) refl
    where
      b : Board
      b = board_of file

      go : (a : Bool) → (vector_at b t).value n ≡ a → all b.size (λ c. not (acts b (row_at t) n c) || loaded (row_at t) c) ≡ a
      go true e =
          all_from _ _ (λ c k. passes-if _ (λ z. let q = or-neither (not (acts b (row_at t) n c)) z in
          clashes (agrees b (vector_at b t) c k n (passes-not _ q.0) ∙ e) q.1))
      go false e = let w = working t n l m in fails-if _ (λ h. ⊎_elim (pulled w h) (λ x. clashes x.2 e) w.2)
        where
          pulled :
              (w : (c : ℕ) × (c < b.size) × AtWork b (vector_at b t) n c) →
              all b.size (λ c. not (acts b (row_at t) n c) || loaded (row_at t) c) ≡ true →
              acts b (row_at t) n w.0 ≡ true → ⊥
          pulled w h a =
              ⊎_elim
              (λ q. clashes a (fails-not _ q))
              (λ q. clashes q (agrees b (vector_at b t) w.0 w.1 n a ∙ e))
              (or_cases (not (acts b (row_at t) n w.0)) (all-at _ _ h w.1))

  -- whatever acts on a net is loaded with the net's value: no two outputs fight
  pub vector-agrees :
      (t n c : ℕ) → c < (board_of file).size → acts (board_of file) (row_at t) n c ≡ true →
      loaded (row_at t) c ≡ (vector_at (board_of file) t).value n
  vector-agrees t n c l h = agrees (board_of file) (vector_at (board_of file) t) c l n h

  -- every line is held: some output acts on it, or its value is 1 and it has a resistor
  pub vector-held :
      (t n : ℕ) → t < total_of (board_of file) → n < (board_of file).nets →
      (any (board_of file).size (acts (board_of file) (row_at t) n) ≡ true) ⊎ ((has_resistor (board_of file) n ≡ true) × ((vector_at (board_of file) t).value n ≡ true))
  unfolding has_resistor
  vector-held t n l m =
      let w = working t n l m in
      ⊎_map (λ a. any_at _ _ w.1 a) (λ x. (any_at _ _ w.1 (both x.0 x.1), x.2)) w.2

  -- an open-drain output without the turn is loaded with 1, so that it pulls no line
  pub vector-lets-go :
      (t c : ℕ) → c < (board_of file).size → open_drain (board_of file) c ≡ true → has_turn (board_of file) (vector_at (board_of file) t) c ≡ false →
      loaded (row_at t) c ≡ true
  vector-lets-go t c l d off =
      let x : ControlCell (board_of file) c = record { on-board = l; controlling = (drain-control (board_of file) c d).2 } in
      drain-loaded (board_of file) (vector_at (board_of file) t) c l d false (sym (turn_is (board_of file) (vector_at (board_of file) t) c x) ∙ off)
