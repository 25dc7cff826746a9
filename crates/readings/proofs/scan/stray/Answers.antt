-- An entry that is not 0 names the net one below it. `search` finds this too, but says of a wrong body only that it gave up.
use Rattle.std.proofs.Common.{◌≡◌, suc, refl, arith}
use Rattle.readings.specs.Readings.{stray}
use Rattle.readings.proofs.scan.stray.Goals as goal

pub returns-in-Some : goal.returns-in-Some
unfolding stray
returns-in-Some c = let e : c.args.entry ≡ suc c.in-Some.n = omega (arith, c.in-Some.ensures) in rw (e, c.has.ensures) refl
