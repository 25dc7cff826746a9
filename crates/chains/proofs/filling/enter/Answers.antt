-- A driver is linked by its net and by its control cell, and counted; any other cell is enter_other's.
use mathlib.Core.Path.{sym, ◌≡◌}
use native.Mathlib.Omega.{arith}
use Rattle.std.specs.Prelude.{Some}
use Rattle.rules.specs.File.{board_of}
use Rattle.rules.specs.Drivers.{driver_at}
use Rattle.chains.proofs.Entering.{driver-fits, enter-driver}
use Rattle.chains.proofs.filling.enter.Goals as goal
use Rattle.chains.proofs.filling.enter.Goals.{In-Some}

-- the driver found is the cell's
told : (d : In-Some) → driver_at (board_of d.args.file.now) d.args.c.0 ≡ Some d.in-Some.driver
told d = sym d.in-Some.ensures

pub splice-requires : goal.splice-requires
splice-requires c =
    let f = driver-fits _ _ _ c.requires.entered c.requires.c_bound _ _ (told (goal.at.splice-requires c).In-Some) in
    (f.0, let l = f.1 in omega arith)

pub splice-requires-2 : goal.splice-requires-2
splice-requires-2 c =
    let f = driver-fits _ _ _ c.requires.entered c.requires.c_bound _ _ (told (goal.at.splice-requires-2 c).In-Some) in
    (f.0, let l = f.2 in omega arith)

pub count_driver-requires : goal.count_driver-requires
count_driver-requires c =
    let f = driver-fits _ _ _ c.requires.entered c.requires.c_bound _ _ (told (goal.at.count_driver-requires c).In-Some) in
    (f.1, rw (c.splice-2.ensures, c.splice.ensures) f.3)

pub returns : goal.returns
returns c =
    rw (c.count_driver.ensures, c.splice-2.ensures, c.splice.ensures) (enter-driver _ _ _ c.requires.entered c.requires.c_bound _ _ (told (goal.at.returns c).In-Some))
