-- The highest drivers below c, grown position by position.
use Rattle.select.specs.Highest.{Ordered}
use Rattle.select.proofs.order.fill_order.Given as goal

abbrev pub invariant-loop-c : goal.invariant-loop-c
invariant-loop-c l = Ordered l.file l.c l.table l.found
