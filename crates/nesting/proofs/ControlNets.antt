-- Which nets a control cell can have: none where it switches nothing, and only those of the board.
use Prim.Native.Nat.{ℕ, ◌<◌}
use mathlib.Core.Path.{◌≡◌, ◌∙◌}
use mathlib.Core.Bool.{true, false}
use mathlib.Core.List.{List}
use native.Mathlib.Omega.{arith}
use borrow.Author.Tests.{eqb-true, eq-eqb}
use Rattle.base.proofs.BoolLaws.{left, right, both, or_left, clashes}
use Rattle.rules.specs.File.{Board, board_of, nets_of, net_of}
use Rattle.rules.specs.Drivers.{on_net, driver_of, drives}
use Rattle.rules.specs.Refusals.{judge, file_checks, most_nets, Accepted}
use Rattle.rules.proofs.NetSetLaws.{drives-driver}
use Rattle.rules.proofs.Shape.{laid, shaped, whole-records}
use Rattle.rules.proofs.DriverLaws.{kept-net}
use Rattle.chains.specs.Table.{ControlCell}
use Rattle.chains.specs.Chains.{keyed}
use Rattle.chains.proofs.Chaining.{keyed-control}

module _ (b : Board) where
  -- one that switches nothing has no net
  pub idle-none : (i : ℕ) → ((c : ℕ) → c < b.size → keyed b ControlCell i c ≡ false) → (n : ℕ) → drives b i n ≡ true → ⊥
  unfolding driver_of
  idle-none i none n t =
      let c = drives-driver b i n t in
      clashes (keyed-control b i c.0 ∙ both (right (on_net b n c.0) c.2) (eq-eqb _ _ c.3)) (none c.0 c.1)

module _ (file : List ℕ) (ok : judge (file_checks file) ≡ Accepted) where
  -- a control cell's nets are on the board
  pub driven-below : (k n : ℕ) → drives (board_of file) k n ≡ true → n < nets_of file
  unfolding driver_of on_net board_of
  driven-below k n h =
      let c = drives-driver (board_of file) k n h in
      let e = eqb-true (net_of ((board_of file).cell c.0)) n (left (on_net (board_of file) n c.0) _ c.2) in
      rw e at (kept-net file (whole-records file ok) c.0 c.1 (or_left _ (right (on_net (board_of file) n c.0) c.2)))

  pub drives-fits : (k n : ℕ) → drives (board_of file) k n ≡ true → n < most_nets
  drives-fits k n h = let l = driven-below k n h in let f = (laid file (shaped file ok)).nets.at_most in omega arith
