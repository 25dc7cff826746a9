-- What the cell is decides what it brings (no-sharers, its-sharers).
use mathlib.Core.Path.{sym, ◌≡◌, ◌∙◌}
use Rattle.std.specs.Prelude.{Some}
use Rattle.rules.specs.File.{board_of}
use Rattle.rules.specs.Drivers.{driver_at}
use Rattle.rules.proofs.DriverLaws.{net-below}
use Rattle.chains.proofs.SharingLaws.{no-sharers, its-sharers}
use Rattle.chains.proofs.sharing.add_sharers.Goals as goal
use Rattle.chains.proofs.sharing.add_sharers.Goals.{In-Some}

-- the driver found is the cell's
told : (d : In-Some) → driver_at (board_of d.args.file.now) d.args.c.0 ≡ Some d.in-Some.driver
told d = sym d.in-Some.ensures

pub add_controls-requires-clause-n_bound : goal.add_controls-requires-clause-n_bound
add_controls-requires-clause-n_bound c = net-below _ c.requires.chains.checked _ c.requires.c_bound _ _ (sym c.in-Some.ensures)

pub returns-in_default : goal.returns-in_default
returns-in_default c = no-sharers _ _ _ (sym c.in_default.ensures) _

pub returns : goal.returns
returns c = c.add_controls.ensures ∙ its-sharers _ _ _ _ _ (told (goal.at.returns c).In-Some) _
