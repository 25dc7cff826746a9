-- Laws of the sets that walks gather: what one driver brings, and which numbers fit a set.
use Prim.Native.Nat.{ℕ, ◌<◌, ◌≤◌, ◌*◌}
use mathlib.Core.Path.{◌≡◌, sym, ◌∙◌, ap, fun_ext}
use mathlib.Core.Bool.{Bool, ◌&&◌, ◌||◌, false}
use mathlib.Core.List.{List}
use native.Mathlib.Omega.{arith}
use borrow.Author.Tests.{eqb-true, lt-ltb, ltb-true}
use lib.Dec.{eqb, ltb}
use Rattle.base.proofs.BoolLaws.{left, right, both, fails-if, same_test, eqb-back}
use Rattle.std.specs.Prelude.{None}
use Rattle.rules.specs.File.{Board, board_of}
use Rattle.rules.specs.Drivers.{driver_at, Of}
use Rattle.rules.specs.declared.Position.{Position}
use Rattle.rules.specs.declared.Net.{Net}
use Rattle.rules.proofs.Shape.{laid, shaped}
use Rattle.rules.proofs.DriverLaws.{is-driver, no-driver, net-below, control-below}
use Rattle.words.specs.Sets.{net_words, cell_words, plus}
use Rattle.cells.specs.Whole.{Whole}
use Rattle.chains.specs.Sharing.{with_control, with_sharers, with_controls}

module _ (b : Board) (c : ℕ) (f : ℕ → Bool) where
  -- a cell that drives nothing brings nothing
  module _ (e : driver_at b c ≡ None) where
    pub no-control : (floor : ℕ) → f ≡ with_control b floor c f
    unfolding with_control
    no-control floor = fun_ext (λ j. rw (no-driver b c e))

    pub no-sharers : (floor : ℕ) → f ≡ with_sharers b floor c f
    unfolding with_sharers
    no-sharers floor = fun_ext (λ j. rw (no-driver b c e))

  -- a driver brings its net, its control cell, and its net's control cells
  module _ (k : Position) (n : Net) (e : driver_at b c ≡ Of k n) where
    -- its control cell, where that is above floor
    control-at : (floor j : ℕ) → with_control b floor c f j ≡ (eqb k.0 j && ltb floor j || f j)
    unfolding with_control
    control-at floor j = rw ((is-driver b c k n e).0, (is-driver b c k n e).1)

    pub one-control : (floor : ℕ) → floor < k.0 → plus f k.0 ≡ with_control b floor c f
    one-control floor l = fun_ext (λ j. ap (λ (x : Bool). x || f j) (eqb-back j k.0 ∙ above j) ∙ sym (control-at floor j))
      where
        above : (j : ℕ) → eqb k.0 j ≡ (eqb k.0 j && ltb floor j)
        above j = same_test _ _ (λ t. both t (ap (ltb floor) (sym (eqb-true k.0 j t)) ∙ lt-ltb floor k.0 l)) (λ t. left (eqb k.0 j) _ t)

    pub control-not-above : (floor : ℕ) → k.0 ≤ floor → f ≡ with_control b floor c f
    control-not-above floor l = fun_ext (λ j. ap (λ (x : Bool). x || f j) (sym (below j)) ∙ sym (control-at floor j))
      where
        below : (j : ℕ) → (eqb k.0 j && ltb floor j) ≡ false
        below j =
            fails-if _ (λ t. let s = eqb-true k.0 j (left (eqb k.0 j) _ t) in let m = ltb-true floor j (right (eqb k.0 j) t) in omega arith)

    pub its-sharers : (floor : ℕ) → with_controls b floor n.0 f ≡ with_sharers b floor c f
    unfolding with_sharers with_controls
    its-sharers floor = fun_ext (λ j. rw ((is-driver b c k n e).0, (is-driver b c k n e).2))

-- on a whole file they fit
module _ (file : List ℕ) (c : ℕ) (w : Whole file c) (k : Position) (n : Net) (e : driver_at (board_of file) c ≡ Of k n) where
  pub net-fits : n.0 < 64 * net_words
  net-fits =
      let b = net-below file w.checked c w.below k n e in
      let f = (laid file (shaped file w.checked)).nets.at_most in
      omega arith

  pub control-fits : k.0 < 64 * cell_words
  control-fits =
      let b = control-below file w.checked c w.below k n e in
      let f = (laid file (shaped file w.checked)).cells.at_most in
      omega arith
