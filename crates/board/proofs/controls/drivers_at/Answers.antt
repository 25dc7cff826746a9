-- A driver's net has the number that the table holds.
use Prim.Native.Nat.{ℕ, ◌<◌}
use mathlib.Core.Path.{◌≡◌, ◌∙◌}
use mathlib.Core.Bool.{true}
use mathlib.Core.List.{List}
use native.Mathlib.Omega.{arith}
use Rattle.base.proofs.BoolLaws.{or_left}
use Rattle.rules.specs.File.{board_of, cells_of, net_of}
use Rattle.rules.specs.Drivers.{controlled, drivers}
use Rattle.rules.specs.Refusals.{most_nets}
use Rattle.rules.proofs.Shape.{whole-records}
use Rattle.rules.proofs.DriverLaws.{kept-net}
use Rattle.chains.specs.Table.{count_in}
use Rattle.chains.specs.Counts.{Counted}
use Rattle.chains.proofs.Walks.{net-fits}
use Rattle.board.specs.Controls.{drivers_at}
use Rattle.board.proofs.controls.drivers_at.Goals as goal

module _ (file t : List ℕ) (c n : ℕ) (pre : Counted file (cells_of file) t) (l : c < cells_of file) (x : controlled (board_of file) c ≡ true) (e : n ≡ net_of ((board_of file).cell c)) where
  in_table : n < most_nets
  unfolding board_of
  in_table =
      let b = kept-net file (whole-records file pre.checked) c l (or_left _ x) in
      net-fits file pre.checked n (omega arith)

  counted : (r : ℕ) → r ≡ count_in t n → r ≡ drivers_at (board_of file) c
  unfolding drivers_at drivers board_of
  counted r h = h ∙ pre.counted n in_table ∙ rw (e, x)

pub net_at-requires : goal.net_at-requires
net_at-requires c = record { checked = c.args.board.now.filled.counted.checked; below = c.requires.0 }

pub drivers_on-requires : goal.drivers_on-requires
drivers_on-requires c = in_table _ _ _ _ c.args.board.now.filled.counted c.requires.0 c.requires.1 c.net_at.ensures

pub returns : goal.returns
returns c = counted _ _ _ _ c.args.board.now.filled.counted c.requires.0 c.requires.1 c.net_at.ensures _ c.drivers_on.ensures
