-- The entries of the cells below c have become what f returned of them.
use Rattle.std.proofs.Common.{take}
use Rattle.readings.specs.Readings.{MappedBy}
use Rattle.readings.proofs.codes.map_entries.Given as goal

abbrev pub invariant-loop-c : goal.invariant-loop-c
invariant-loop-c g l = MappedBy (goal.F-post g l.f) (take l.cells l.fn.table) l.c l.entry-items
