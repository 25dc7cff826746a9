-- Theorem 11: an open-drain output "counts as a control cell of its own with that one net" (request [3]), on every file that checks 1 to 9 accept: its
-- net set is its one net, so that refusals 10 and 11 never name it. The idea: only its own cell is a driver of it, since a three-state
-- output names a cell of kind 2; and a set of one net lies in every set that it meets.
use Prim.Native.Nat.{ℕ, ◌<◌}
use mathlib.Core.Path.{◌≡◌, sym, ◌∙◌, ap}
use mathlib.Core.Logic.{⊎_elim}
use mathlib.Core.Bool.{true, false, ◌&&◌}
use mathlib.Core.List.{List}
use native.Mathlib.Omega.{arith}
use borrow.Author.Tests.{eqb-true, eq-eqb}
use lib.Dec.{eqb}
use Rattle.base.proofs.BoolLaws.{left, right, both, fails-not, clashes, fails-if, same_test}
use Rattle.base.proofs.TestLaws.{any-member}
use Rattle.rules.specs.File.{Board, board_of, kind_of, net_of}
use Rattle.rules.specs.Drivers.{controlled, control_for, open_drain, is_control, on_net, driver_of, drives, drivers, inside, crosses}
use Rattle.rules.specs.Refusals.{Accepted, judge, unequal, early_checks}
use Rattle.rules.proofs.DriverLaws.{driver-kind, five, drain-control}
use Rattle.rules.proofs.Acceptance.{Early, early}
use Rattle.rules.proofs.NetSetLaws.{Affects, meets-net, not-included, drives-driver, driver-drives}
use Rattle.rules.proofs.CrossingLaws.{parts}

module _ (b : Board) (e : Early b) (k : ℕ) (l : k < b.size) (drain : open_drain b k ≡ true) where
  -- the driver of an open-drain output's control cell is itself
  itself : (c : ℕ) → c < b.size → controlled b c ≡ true → control_for b c ≡ k → c ≡ k
  itself c m x own =
      ⊎_elim
      (λ (q : kind_of (b.cell c) ≡ 3). let two = rw own at (e.named-control c m q) in let p = five b k drain in absurd (omega arith))
      (λ (d : open_drain b c ≡ true). sym (drain-control b c d).1 ∙ own)
      (driver-kind b c x)

  one-net : (n : ℕ) → drives b k n ≡ on_net b n k
  unfolding driver_of
  one-net n =
      same_test _ _
      (λ h. let c = drives-driver b k n h in
      rw (itself c.0 c.1 (right (on_net b n c.0) c.2) c.3) at (left (on_net b n c.0) _ c.2))
      (λ h. let own = drain-control b k drain in rw own.1 at (driver-drives b n k l (both h own.0)))

  -- two nets of its set are one
  same-net : (n m : ℕ) → Affects b k n → Affects b k m → n ≡ m
  unfolding on_net
  same-net n m x y = sym (eqb-true _ _ (sym (one-net n) ∙ x)) ∙ eqb-true _ _ (sym (one-net m) ∙ y)

  -- it lies in every set that it shares a net with
  lies-inside : (j n : ℕ) → Affects b k n → Affects b j n → inside b k j ≡ false → ⊥
  lies-inside j n x y z = not-included b k j z (λ m u w. rw (same-net m n w x) y)

  uncrossed : (j : ℕ) → crosses b k j ≡ false
  uncrossed j =
      fails-if _ (λ h. let c = parts b k j h in let m = meets-net b k j c.meet in lies-inside j m.0 m.2 m.3 c.out)

  crossed-by-none : (j : ℕ) → crosses b j k ≡ false
  crossed-by-none j =
      fails-if _ (λ h. let c = parts b j k h in let m = meets-net b j k c.meet in lies-inside j m.0 m.3 m.2 c.back)

  equal : unequal b k ≡ false
  unfolding unequal
  equal =
      fails-if _
      (λ h.
      let n = any-member _ _ (right (is_control b k) h) in
      let m = any-member _ _ n.2 in
      let p = left (drives b k n.0 && drives b k m.0) _ m.2 in
      let same = same-net n.0 m.0 (left (drives b k n.0) _ p) (right (drives b k n.0) p) in
      clashes (eq-eqb (drivers b n.0) (drivers b m.0) (ap (drivers b) same)) (fails-not _ (right (drives b k n.0 && drives b k m.0) m.2)))

-- The theorem, from what checks 1 to 9 accept
module _ (file : List ℕ) (ok : judge (early_checks file) ≡ Accepted) (k : ℕ) (l : k < (board_of file).size) (drain : open_drain (board_of file) k ≡ true) where
  -- an open-drain output's net set is its one net
  pub drain-nets : (n : ℕ) → drives (board_of file) k n ≡ eqb (net_of ((board_of file).cell k)) n
  unfolding on_net
  drain-nets n = one-net (board_of file) (early file ok) k l drain n

  -- refusal 10 never names it, nor any other cell because of it
  pub drain-uncrossed : (j : ℕ) → (crosses (board_of file) k j ≡ false) × (crosses (board_of file) j k ≡ false)
  drain-uncrossed j = (uncrossed (board_of file) (early file ok) k l drain j, crossed-by-none (board_of file) (early file ok) k l drain j)

  -- nor does refusal 11
  pub drain-equal : unequal (board_of file) k ≡ false
  drain-equal = equal (board_of file) (early file ok) k l drain
