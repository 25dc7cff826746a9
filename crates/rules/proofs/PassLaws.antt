-- Laws of one pass over the cells: whom it turns on, that these share no net, that what was on stays on, and that at its end each control
-- cell that it could have turned on is marked. The idea: each holds of one position's turn, so of the pass.
use Prim.Native.Nat.{ℕ, zero, suc, ◌<◌}
use mathlib.Core.Path.{◌≡◌, refl, sym, ◌∙◌}
use mathlib.Core.Logic.{◌⊎◌, inl, inr, ⊎_elim}
use mathlib.Core.Bool.{Bool, true, false, cond, not, ◌&&◌, ◌||◌, false≢true}
use mathlib.Core.List.{List, [], ◌∷◌}
use native.Mathlib.Omega.{arith}
use borrow.Author.Tests.{eqb-true, eq-eqb}
use lib.Dec.{eqb}
use Rattle.base.specs.Lists.{has}
use Rattle.base.proofs.BoolLaws.{left, right, or_left, or_right, or_cases, fails-not, clashes, below_suc}
use Rattle.base.proofs.ListLaws.{has_here, has_there, has-cases}
use Rattle.rules.specs.File.{Board, net_of}
use Rattle.rules.specs.Drivers.{controlled, control_for, meets}
use Rattle.rules.specs.Groups.{marked, turn, pass}
use Rattle.rules.proofs.NetSetLaws.{meets-net, meets_at}

module _ (b : Board) where
  -- sharing a net goes both ways
  pub meets-back : (i j : ℕ) → meets b i j ≡ true → meets b j i ≡ true
  meets-back i j h = let m = meets-net b i j h in meets_at b j i m.0 m.1 m.3 m.2

  -- a cell is marked by one that is on and is it or shares a net with it
  pub marked_by : (on : List ℕ) (k : ℕ) → marked b on k ≡ true → (t : ℕ) × (has t on ≡ true) × ((t ≡ k) ⊎ (meets b t k ≡ true))
  unfolding marked
  marked_by [] k h = absurd (false≢true h)
  marked_by (t ∷ on) k h =
      ⊎_elim
      (λ (e : (eqb t k || meets b t k) ≡ true). (t, has_here t on, ⊎_elim (λ q. inl (eqb-true t k q)) inr (or_cases (eqb t k) e)))
      (λ (e : marked b on k ≡ true). let m = marked_by on k e in (m.0, has_there m.0 t on m.1, m.2))
      (or_cases (eqb t k || meets b t k) h)

  pub marks : (on : List ℕ) (t k : ℕ) → has t on ≡ true → (t ≡ k) ⊎ (meets b t k ≡ true) → marked b on k ≡ true
  unfolding marked has
  marks [] t k h m = h
  marks (x ∷ on) t k h m =
      ⊎_elim
      (λ (e : t ≡ x). or_left _ (⊎_elim (λ (q : t ≡ k). or_left _ (eq-eqb x k (sym e ∙ q))) (λ (q : meets b t k ≡ true). or_right (eqb x k) (rw e at q)) m))
      (λ (e : has t on ≡ true). or_right (eqb x k || meets b x k) (marks on t k e m))
      (has-cases t x on h)

  -- the cells that are on share no net
  abbrev pub Apart : List ℕ → Type 0
  Apart on = (t u : ℕ) → has t on ≡ true → has u on ≡ true → meets b t u ≡ true → t ≡ u

  module _ (wanted allowed : ℕ → Bool) where
    -- where the pass may turn a control cell on: at a controlled driver whose net is wanted and whose control cell is allowed
    abbrev pub open_at : ℕ → Bool
    open_at c = controlled b c && wanted (net_of (b.cell c)) && allowed (control_for b c)

    -- what one position does, by its test
    turn_is : (c : ℕ) (on : List ℕ) (P : List ℕ → Type 0) → (open_at c ≡ true → marked b on (control_for b c) ≡ false → P (control_for b c ∷ on)) → P on → P (turn b wanted allowed c on)
    unfolding turn
    turn_is c on P f g = go (open_at c && not (marked b on (control_for b c))) refl
      where
        go : (a : Bool) → (open_at c && not (marked b on (control_for b c))) ≡ a → P (cond a (control_for b c ∷ on) on)
        go true e = f (left (open_at c) _ e) (fails-not _ (right (open_at c) e))
        go false e = g

    pub turn-keeps : (c : ℕ) (on : List ℕ) (k : ℕ) → has k on ≡ true → has k (turn b wanted allowed c on) ≡ true
    turn-keeps c on k h = turn_is c on (λ r. has k r ≡ true) (λ o m. has_there k (control_for b c) on h) h

    turn-apart : (c : ℕ) (on : List ℕ) → Apart on → Apart (turn b wanted allowed c on)
    turn-apart c on apart = turn_is c on Apart new apart
      where
        new : open_at c ≡ true → marked b on (control_for b c) ≡ false → Apart (control_for b c ∷ on)
        new o m t u x y z =
            ⊎_elim
            (λ (p : t ≡ control_for b c).
            ⊎_elim
            (λ (q : u ≡ control_for b c). p ∙ sym q)
            (λ (q : has u on ≡ true). absurd (clashes (marks on u (control_for b c) q (inr (meets-back (control_for b c) u (rw p at z)))) m))
            (has-cases u (control_for b c) on y))
            (λ (p : has t on ≡ true).
            ⊎_elim
            (λ (q : u ≡ control_for b c). absurd (clashes (marks on t (control_for b c) p (inr (rw q at z))) m))
            (λ (q : has u on ≡ true). apart t u p q z)
            (has-cases u (control_for b c) on y))
            (has-cases t (control_for b c) on x)

    turn-marks : (c : ℕ) (on : List ℕ) → open_at c ≡ true → marked b (turn b wanted allowed c on) (control_for b c) ≡ true
    unfolding turn
    turn-marks c on o = go (marked b on (control_for b c)) refl
      where
        go : (a : Bool) → marked b on (control_for b c) ≡ a → marked b (turn b wanted allowed c on) (control_for b c) ≡ true
        go true e = rw (e, o) e
        go false e = rw (e, o) (marks (control_for b c ∷ on) (control_for b c) (control_for b c) (has_here (control_for b c) on) (inl refl))

    -- what is on stays on
    pub pass-keeps : (n : ℕ) (on : List ℕ) (k : ℕ) → has k on ≡ true → has k (pass b wanted allowed n on) ≡ true
    unfolding pass
    pass-keeps zero on k h = h
    pass-keeps (suc n) on k h = pass-keeps n _ k (turn-keeps n on k h)

    -- whom it turns on
    pub pass-members : (n : ℕ) (on : List ℕ) (k : ℕ) → has k (pass b wanted allowed n on) ≡ true → (has k on ≡ true) ⊎ ((c : ℕ) × (c < n) × (open_at c ≡ true) × (control_for b c ≡ k))
    unfolding pass
    pass-members zero on k h = inl h
    pass-members (suc n) on k h =
        ⊎_elim
        (λ (e : has k (turn b wanted allowed n on) ≡ true). turned e)
        (λ r. inr (r.0, omega arith, r.2, r.3))
        (pass-members n (turn b wanted allowed n on) k h)
      where
        turned : has k (turn b wanted allowed n on) ≡ true → (has k on ≡ true) ⊎ ((c : ℕ) × (c < suc n) × (open_at c ≡ true) × (control_for b c ≡ k))
        turned =
            turn_is n on (λ r. has k r ≡ true → (has k on ≡ true) ⊎ ((c : ℕ) × (c < suc n) × (open_at c ≡ true) × (control_for b c ≡ k)))
            (λ o m e. ⊎_elim (λ (q : k ≡ control_for b n). inr (n, omega arith, o, sym q)) inl (has-cases k (control_for b n) on e))
            inl

    -- they share no net
    pub pass-apart : (n : ℕ) (on : List ℕ) → Apart on → Apart (pass b wanted allowed n on)
    unfolding pass
    pass-apart zero on h = h
    pass-apart (suc n) on h = pass-apart n _ (turn-apart n on h)

    -- at its end each control cell that it could have turned on is marked
    pub pass-marks : (n : ℕ) (on : List ℕ) (c : ℕ) → c < n → open_at c ≡ true → marked b (pass b wanted allowed n on) (control_for b c) ≡ true
    unfolding pass
    pass-marks zero on c l o = absurd (omega arith)
    pass-marks (suc n) on c l o =
        ⊎_elim
        (λ (e : c ≡ n). let m = marked_by (turn b wanted allowed n on) (control_for b n) (turn-marks n on (rw e at o)) in rw e (marks _ m.0 (control_for b n) (pass-keeps n _ m.0 m.1) m.2))
        (λ (e : c < n). pass-marks n _ c e o)
        (below_suc l)
