-- A place of check 6 is one of the file's positions; it fails where its record means nothing.
use Rattle.std.proofs.Common.{arith, rules}
use Rattle.rules.specs.File.{broken_at}
use Rattle.cells.proofs.WholeLaws.{cells-bounded}
use Rattle.cells.proofs.fn.records_verdict.broken.Goals as goal

pub overflow_cast-p : goal.overflow_cast-p
overflow_cast-p c = let h = cells-bounded _ _ _ c.requires.shaped c.requires.sized in omega arith

pub returns : goal.returns
unfolding broken_at
returns c = search rules
