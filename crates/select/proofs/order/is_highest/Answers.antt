-- What the cell is decides, and for a driver its control cell's head.
use mathlib.Core.Path.{sym}
use borrow.Author.Rules.{rules}
use Rattle.rules.proofs.DriverLaws.{control-below}
use Rattle.chains.proofs.Walks.{cell-fits}
use Rattle.select.proofs.Highest.{highest-none, highest-told}
use Rattle.select.proofs.order.is_highest.Goals as goal

pub returns-in_default : goal.returns-in_default
returns-in_default c = highest-none _ _ (sym c.in_default.ensures)

pub head-requires : goal.head-requires
head-requires c =
    let ok = c.requires.chains.checked in
    cell-fits _ ok _ (control-below _ ok _ c.requires.c_bound _ _ (sym c.in-Some.ensures))

pub returns : goal.returns
returns c =
    highest-told _ _ c.requires.chains _ c.requires.c_bound _ _ (sym c.in-Some.ensures) _ c.head.ensures _ (search rules)
