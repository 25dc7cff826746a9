-- What the cell is decides what it brings (no-control, control-not-above, one-control).
use mathlib.Core.Path.{sym, ◌≡◌, ◌∙◌}
use native.Mathlib.Omega.{arith}
use Rattle.std.specs.Prelude.{Some}
use Rattle.rules.specs.File.{board_of}
use Rattle.rules.specs.Drivers.{driver_at}
use Rattle.chains.proofs.SharingLaws.{no-control, control-not-above, one-control, control-fits}
use Rattle.chains.proofs.sharing.add_control.Goals as goal
use Rattle.chains.proofs.sharing.add_control.Goals.{In-Some}

-- the driver found is the cell's
told : (d : In-Some) → driver_at (board_of d.args.file.now) d.args.c.0 ≡ Some d.in-Some.driver
told d = sym d.in-Some.ensures

pub returns-in_default : goal.returns-in_default
returns-in_default c = no-control _ _ _ (sym c.in_default.ensures) _

pub returns-then-driver-floor : goal.returns-then-driver-floor
returns-then-driver-floor c = control-not-above _ _ _ _ _ (told (goal.at.returns-then-driver-floor c).In-Some) _ c.if-driver-floor.true

pub with-requires : goal.with-requires
with-requires c =
    (omega arith, control-fits _ _ c.requires _ _ (told (goal.at.with-requires c).In-Some))

pub returns : goal.returns
returns c =
    let l = c.if-driver-floor.false in
    c.with.ensures ∙ one-control _ _ _ _ _ (told (goal.at.returns c).In-Some) _ (omega arith)
