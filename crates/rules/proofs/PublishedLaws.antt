-- Theorem 15: on every accepted board the procedure of source 000's figure 4, as printed, activates in each group exactly the control cells that
-- document 01's two passes turn on. The idea: an activated cell that drives a net meets all its control cells, so at a driver "net is not processed"
-- adds nothing to "control cell is not processed", which says that it is unmarked. And the second loop needs no test of degree: the first pass
-- covers every net of degree g or more, so all control cells of these nets are marked by then.
use Prim.Native.Nat.{ℕ, zero, suc, ◌<◌, ◌≤◌}
use mathlib.Core.Path.{◌≡◌, refl, sym, ◌∙◌, ap, ap₂}
use mathlib.Core.Logic.{inr, ⊎_elim}
use mathlib.Core.Bool.{Bool, true, false, cond, not, ◌&&◌, ◌||◌, false≢true, and-false, and_comm}
use mathlib.Core.List.{List, [], ◌∷◌, ◌++◌}
use native.Mathlib.Omega.{arith}
use borrow.Author.Tests.{eqb-true, lt-ltb, le-ltb, lt-leb, le-leb}
use lib.Dec.{eqb, leb, ltb}
use Rattle.base.specs.Lists.{has}
use Rattle.base.proofs.BoolLaws.{order, right, both, or_left, or_right, or_cases, clashes, same_test}
use Rattle.base.proofs.CountingLaws.{count_same}
use Rattle.base.proofs.ListLaws.{has_here}
use Rattle.rules.specs.File.{Board, board_of, net_of}
use Rattle.rules.specs.Drivers.{controlled, control_for, is_control, on_net, driver_of, drives, controls, degree, meets}
use Rattle.rules.specs.Groups.{marked, turn, pass, first_pass, second_pass, selected, earlier, group, on_in}
use Rattle.rules.specs.Published.{Arrays, related, degree_of, initialized, activate, first_test, second_test, loop, rows_after, used_up_to, published}
use Rattle.rules.specs.Refusals.{Accepted, judge, board_checks}
use Rattle.rules.proofs.NetSetLaws.{Affects, meets_at, drives-driver, driver-own}
use Rattle.rules.proofs.PassLaws.{marks, open_at, turn-keeps}
use Rattle.rules.proofs.Selection.{Sound, sound, first-covers}

-- every cell of the first list is in the second
abbrev Keeps : List ℕ → List ℕ → Type 0
Keeps from on = (k : ℕ) → has k from ≡ true → has k on ≡ true

module _ (b : Board) where
  -- the arrays that these activated cells leave
  arrays-of : List ℕ → Arrays
  arrays-of [] = initialized
  arrays-of (t ∷ on) = activate b t (arrays-of on)

  active-are : (on : List ℕ) → (arrays-of on).active ≡ on
  unfolding arrays-of initialized activate
  active-are [] = refl
  active-are (t ∷ on) = ap (λ (r : List ℕ). t ∷ r) (active-are on)

  -- a control cell that has a net is processed exactly where it is marked
  processed-marked : (k : ℕ) → meets b k k ≡ true → (on : List ℕ) → (arrays-of on).cell_processed k ≡ marked b on k
  unfolding arrays-of initialized activate related meets marked
  processed-marked k own [] = refl
  processed-marked k own (t ∷ on) = ap₂ ◌||◌ (same_test (meets b t k) (eqb t k || meets b t k) (or_right (eqb t k)) itself) (processed-marked k own on)
    where
      itself : (eqb t k || meets b t k) ≡ true → meets b t k ≡ true
      itself h = ⊎_elim (λ e. rw (eqb-true t k e) own) (λ e. e) (or_cases (eqb t k) h)

  -- the control cells of a processed net are marked
  net-marks : (n k : ℕ) → n < b.nets → Affects b k n → (on : List ℕ) → (arrays-of on).net_processed n ≡ true → marked b on k ≡ true
  unfolding arrays-of initialized activate related marked
  net-marks n k l a [] h = absurd (false≢true h)
  net-marks n k l a (t ∷ on) h =
      ⊎_elim
      (λ (e : drives b t n ≡ true). marks b (t ∷ on) t k (has_here t on) (inr (meets_at b t k n l e a)))
      (λ (e : (arrays-of on).net_processed n ≡ true). or_right (eqb t k || meets b t k) (net-marks n k l a on e))
      (or_cases (drives b t n) h)

  -- where its test agrees with the pass', once the cells of `from` are on, a loop leaves the arrays of what the pass turns on
  module _ (test : Arrays → ℕ → Bool) (wanted allowed : ℕ → Bool) (from : List ℕ) where
    loop-is :
        ((c : ℕ) (on : List ℕ) → c < b.size → Keeps from on → test (arrays-of on) c ≡ (open_at b wanted allowed c && not (marked b on (control_for b c)))) →
        (n : ℕ) (on : List ℕ) → n ≤ b.size → Keeps from on → loop b test n (arrays-of on) ≡ arrays-of (pass b wanted allowed n on)
    unfolding loop pass turn arrays-of
    loop-is same zero on l kept = refl
    loop-is same (suc n) on l kept =
        ap (λ (a : Bool). loop b test n (cond a (activate b (control_for b n) (arrays-of on)) (arrays-of on))) (same n on (omega arith) kept)
        ∙ ap (loop b test n) (either (open_at b wanted allowed n && not (marked b on (control_for b n))))
        ∙ loop-is same n (turn b wanted allowed n on) (omega arith) (λ k h. turn-keeps b wanted allowed n on k (kept k h))
      where
        either : (a : Bool) → cond a (activate b (control_for b n) (arrays-of on)) (arrays-of on) ≡ arrays-of (cond a (control_for b n ∷ on) on)
        either true = refl
        either false = refl

module _ (b : Board) (s : Sound b) where
  -- figure 3's degree is document 01's
  degree-is : (n : ℕ) → degree_of b n ≡ degree b n
  unfolding degree_of related degree controls driver_of
  degree-is n = count_same b.size _ _ (λ k l. same_test _ _ (λ h. both (control k h) h) (right (is_control b k)))
    where
      control : (k : ℕ) → Affects b k n → is_control b k ≡ true
      control k h = let d = drives-driver b k n h in rw (← d.3) (s.checked.own-control d.0 d.1 (right (on_net b n d.0) d.2)).1

  -- at a driver both tests of what is processed say that its control cell is unmarked
  unprocessed :
      (c : ℕ) (on : List ℕ) → c < b.size → controlled b c ≡ true →
      (not ((arrays-of b on).net_processed (net_of (b.cell c))) && not ((arrays-of b on).cell_processed (control_for b c))) ≡ not (marked b on (control_for b c))
  unprocessed c on l is =
      let n = net_of (b.cell c) in
      let k = control_for b c in
      let own = driver-own b c l is in
      let below = s.checked.own-net c l (or_left _ is) in
      rw (processed-marked b k (meets_at b k k n below own own) on) (absorbed _ _ (net-marks b n k below own on))
    where
      absorbed : (x y : Bool) → (x ≡ true → y ≡ true) → (not x && not y) ≡ not y
      absorbed true y f = rw (f refl)
      absorbed false y f = refl

  -- "net degree is not lower than group" is the first pass' test of degree
  not_lower : (g n : ℕ) → not (ltb (degree_of b n) g) ≡ leb g (degree b n)
  not_lower g n =
      rw (degree-is n)
      (⊎_elim
      (λ (h : degree b n < g). rw (lt-ltb _ _ h, lt-leb _ _ h))
      (λ (h : g ≤ degree b n). rw (le-ltb _ _ h, le-leb _ _ h))
      (order (degree b n) g))

  -- so the first loop's test is the first pass'
  first-same :
      (g : ℕ) (before : List ℕ) (c : ℕ) (on : List ℕ) → c < b.size →
      first_test b g before (arrays-of b on) c ≡ (open_at b (λ n. leb g (degree b n)) (λ k. not (has k before)) c && not (marked b on (control_for b c)))
  unfolding first_test
  first-same g before c on l = rw (not_lower g (net_of (b.cell c))) (moved (controlled b c) _ _ _ _ _ (unprocessed c on l))
    where
      moved : (a d x y u m : Bool) → (a ≡ true → (x && y) ≡ m) → (a && d && x && y && u) ≡ (a && d && u && m)
      moved true true x y u m e = and_comm (x && y) u ∙ ap (λ (z : Bool). u && z) (e refl)
      moved true false x y u m e = refl
      moved false d x y u m e = refl

  module _ (j : ℕ) where
    -- what the first pass of group j + 1 turns on
    first : List ℕ
    first = first_pass b (suc j) (earlier b j)

    -- after the first pass a driver's control cell is marked, or its net's degree is lower
    lower :
        (c : ℕ) (on : List ℕ) → c < b.size → controlled b c ≡ true → Keeps first on → marked b on (control_for b c) ≡ false →
        ltb (degree b (net_of (b.cell c))) (suc j) ≡ true
    unfolding first
    lower c on l is kept m =
        ⊎_elim
        (lt-ltb _ _)
        (λ (d : suc j ≤ degree b (net_of (b.cell c))).
        let below = s.checked.own-net c l (or_left _ is) in
        let T = first-covers b s j (net_of (b.cell c)) below d in
        absurd (clashes (marks b on T.0 (control_for b c) (kept T.0 T.1) (inr (meets_at b T.0 _ _ below T.2 (driver-own b c l is)))) m))
        (order (degree b (net_of (b.cell c))) (suc j))

    -- so the second loop's test is the second pass'
    second-same :
        (c : ℕ) (on : List ℕ) → c < b.size → Keeps first on →
        second_test b (arrays-of b on) c ≡ (open_at b (λ n. ltb (degree b n) (suc j)) (λ k. true) c && not (marked b on (control_for b c)))
    unfolding second_test
    second-same c on l kept = needless (controlled b c) _ _ _ _ (unprocessed c on l) (λ is. lower c on l is kept)
      where
        needless : (a x y w m : Bool) → (a ≡ true → (x && y) ≡ not m) → (a ≡ true → m ≡ false → w ≡ true) → (a && x && y) ≡ (a && w && true && not m)
        needless true x y w true e f = e refl ∙ sym (and-false (w && true))
        needless true x y w false e f = rw (f refl refl) (e refl)
        needless false x y w m e f = refl

    -- a group's arrays are those that the two passes' cells leave
    rows_are : rows_after b (suc j) (earlier b j) ≡ arrays-of b (selected b (suc j) (earlier b j))
    unfolding rows_after selected first_pass second_pass first arrays-of
    rows_are =
        ap (loop b (second_test b) b.size) (loop-is b _ _ _ [] (λ c on l kept. first-same (suc j) (earlier b j) c on l) b.size [] (omega arith) (λ k h. h))
        ∙ loop-is b _ _ _ first second-same b.size first (omega arith) (λ k h. h)

    rows-active : (rows_after b (suc j) (earlier b j)).active ≡ selected b (suc j) (earlier b j)
    rows-active = ap (λ (s : Arrays). s.active) rows_are ∙ active-are b _

  -- what was used in groups 1 to j was on in them
  used-is : (j : ℕ) → used_up_to b j ≡ earlier b j
  unfolding used_up_to earlier
  used-is zero = refl
  used-is (suc j) = rw (used-is j) (ap (λ (r : List ℕ). r ++ earlier b j) (rows-active j))

  published-group : (g : ℕ) → published b g ≡ group b g
  unfolding published group
  published-group zero = refl
  published-group (suc j) = ap (λ (used : List ℕ). (rows_after b (suc j) used).active) (used-is j) ∙ rows-active j

-- The theorem, from acceptance alone
module _ (file : List ℕ) (ok : judge (board_checks file) ≡ Accepted) where
  -- the published procedure activates in each group what document 01's passes turn on, in the same order
  pub published-same : (g : ℕ) → published (board_of file) g ≡ group (board_of file) g
  published-same = published-group (board_of file) (sound file ok)

  -- so a control cell is activated in a group exactly where it is on in it
  pub published-on : (g k : ℕ) → has k (published (board_of file) g) ≡ on_in (board_of file) g k
  unfolding on_in
  published-on g k = ap (has k) (published-same g)
