-- A blank table is that of no position; the invariant: that of the positions below c. One position more is enter's.
use Rattle.chains.specs.Filling.{Entered}
use Rattle.chains.proofs.filling.fill_table.Given as goal

abbrev pub invariant-loop-c : goal.invariant-loop-c
invariant-loop-c l = Entered l.file l.c l.table
