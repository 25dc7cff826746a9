-- Marks as nets: a control cell with a driver is marked exactly where one of its nets is a net of a cell that is on.
use Prim.Native.Nat.{ℕ, ◌<◌, ◌≤◌, ◌*◌}
use mathlib.Core.Path.{◌≡◌}
use mathlib.Core.Logic.{inr, ⊎_elim}
use mathlib.Core.Bool.{true, false≢true}
use mathlib.Core.List.{List, [], ◌∷◌}
use native.Mathlib.Omega.{arith}
use borrow.Author.Tests.{eqb-true}
use Rattle.base.specs.Lists.{has}
use Rattle.base.proofs.BoolLaws.{left, right, both, or_left, or_right, or_cases, same_test}
use Rattle.base.proofs.TestLaws.{any_at, any-member}
use Rattle.base.proofs.ListLaws.{has_here, has_there, has-cases}
use Rattle.rules.specs.File.{Board, net_of}
use Rattle.rules.specs.Drivers.{controlled, control_for, on_net, driver_of, drives, meets}
use Rattle.rules.specs.Groups.{marked}
use Rattle.rules.proofs.NetSetLaws.{meets-net, meets_at, drives-driver, driver-own}
use Rattle.rules.proofs.PassLaws.{marked_by, marks}
use Rattle.words.specs.Sets.{net_words, meets_in}
use Rattle.select.specs.Turns.{covered_by, reached}

-- a covered net is the net of a cell that is on
pub covered-by : (b : Board) (on : List ℕ) (n : ℕ) → covered_by b on n ≡ true → (t : ℕ) × (has t on ≡ true) × (drives b t n ≡ true)
unfolding covered_by
covered-by b [] n h = absurd (false≢true h)
covered-by b (t ∷ on) n h =
    ⊎_elim
    (λ (e : drives b t n ≡ true). (t, has_here t on, e))
    (λ (e : covered_by b on n ≡ true). let m = covered-by b on n e in (m.0, has_there m.0 t on m.1, m.2))
    (or_cases (drives b t n) h)

pub covers : (b : Board) (on : List ℕ) (t n : ℕ) → has t on ≡ true → drives b t n ≡ true → covered_by b on n ≡ true
unfolding covered_by has
covers b [] t n h d = h
covers b (x ∷ on) t n h d =
    ⊎_elim
    (λ (e : t ≡ x). or_left _ (rw e at d))
    (λ (e : has t on ≡ true). or_right (drives b x n) (covers b on t n e d))
    (has-cases t x on h)

module _ (b : Board) (nets-bounded : b.nets ≤ 64 * net_words) (known : (c : ℕ) → c < b.size → controlled b c ≡ true → net_of (b.cell c) < b.nets) where
  -- a control cell's nets are nets of the board
  driven-below : (k n : ℕ) → drives b k n ≡ true → n < b.nets
  unfolding driver_of on_net
  driven-below k n d =
      let c = drives-driver b k n d in
      let e = eqb-true (net_of (b.cell c.0)) n (left (on_net b n c.0) _ c.2) in
      let l = known c.0 c.1 (right (on_net b n c.0) c.2) in
      omega arith

  -- a covered net marks its control cells
  net-marks : (on : List ℕ) (k n : ℕ) → drives b k n ≡ true → covered_by b on n ≡ true → marked b on k ≡ true
  net-marks on k n d h =
      let t = covered-by b on n h in
      marks b on t.0 k t.1 (inr (meets_at b t.0 k n (driven-below k n d) t.2 d))

  -- so a driver on a covered net has a marked control cell
  pub covered-marked : (on : List ℕ) (c : ℕ) → c < b.size → controlled b c ≡ true → covered_by b on (net_of (b.cell c)) ≡ true → marked b on (control_for b c) ≡ true
  covered-marked on c l x h = net-marks on (control_for b c) (net_of (b.cell c)) (driver-own b c l x) h

  reached-marked : (on : List ℕ) (k : ℕ) → reached b on k ≡ true → marked b on k ≡ true
  unfolding reached meets_in
  reached-marked on k h =
      let m = any-member _ _ h in
      net-marks on k m.0 (left (drives b k m.0) _ m.2) (right (drives b k m.0) m.2)

  reached-at : (on : List ℕ) (k t n : ℕ) → has t on ≡ true → drives b t n ≡ true → drives b k n ≡ true → reached b on k ≡ true
  unfolding reached meets_in
  reached-at on k t n h e d = let l = driven-below k n d in any_at _ _ (omega arith) (both d (covers b on t n h e))

  -- a control cell with a driver is marked exactly where it is reached
  pub marked-reached : (on : List ℕ) (c : ℕ) → c < b.size → controlled b c ≡ true → marked b on (control_for b c) ≡ reached b on (control_for b c)
  marked-reached on c l x =
      same_test _ _
      (λ h. let t = marked_by b on (control_for b c) h in ⊎_elim
      (λ (e : t.0 ≡ control_for b c). let d = driver-own b c l x in reached-at on (control_for b c) (control_for b c) (net_of (b.cell c)) (rw e at t.1) d d)
      (λ (e : meets b t.0 (control_for b c) ≡ true). let n = meets-net b t.0 (control_for b c) e in reached-at on (control_for b c) t.0 n.0 t.1 n.2 n.3)
      t.2)
      (reached-marked on (control_for b c))
