-- A file has no more cells than positions.
use Rattle.std.proofs.Common.{arith}
use Rattle.cells.proofs.WholeLaws.{cells-bounded}
use Rattle.cells.proofs.records_verdict.Goals as goal

pub each-requires-clause-places_bound : goal.each-requires-clause-places_bound
each-requires-clause-places_bound c = let h = cells-bounded _ _ _ c.requires.shaped c.requires.sized in omega arith
