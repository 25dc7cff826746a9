-- Each way out is one case of whether the pass stops (stop-none, stop-told).
use mathlib.Core.Path.{◌≡◌, sym, ◌∙◌}
use Rattle.std.specs.Prelude.{None}
use borrow.Author.Rules.{rules}
use Rattle.chains.proofs.SharingLaws.{net-fits, control-fits}
use Rattle.select.proofs.Passing.{whole_at, stop-none, stop-told}
use Rattle.select.proofs.turns.stop_at.Goals as goal

pub returns-in_err-driver-clause-stops : goal.returns-in_err-driver-clause-stops
returns-in_err-driver-clause-stops g c wanted allowed tells =
    let none : c.from_residual.result ≡ None = search rules in
    none ∙ stop-none _ allowed _ c.in_err-driver.ensures

pub drivers_on-requires : goal.drivers_on-requires
drivers_on-requires g c =
    net-fits _ _ (whole_at c.requires.ready c.requires.c_bound) _ _ (sym c.in_ok-driver.ensures)

pub stops-requires : goal.stops-requires
stops-requires g c =
    let fits = control-fits _ _ (whole_at c.requires.ready c.requires.c_bound) _ _ (sym c.in_ok-driver.ensures) in
    search rules

pub returns-then-stops-clause-stops : goal.returns-then-stops-clause-stops
returns-then-stops-clause-stops g c wanted allowed tells =
    stop-told _ _ c.requires.ready _ c.requires.c_bound _ (sym c.in_ok-driver.ensures) wanted allowed _ tells _ _ _ c.drivers_on.ensures c.stops.ensures c.if-stops.true

pub returns-clause-stops : goal.returns-clause-stops
returns-clause-stops g c wanted allowed tells =
    stop-told _ _ c.requires.ready _ c.requires.c_bound _ (sym c.in_ok-driver.ensures) wanted allowed _ tells _ _ _ c.drivers_on.ensures c.stops.ensures c.if-stops.false
