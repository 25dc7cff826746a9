-- A whole file has no more cells than a number of two bytes says; after the last of them each test is decided.
use Rattle.std.proofs.Common.{arith}
use Rattle.rules.specs.File.{board_of}
use Rattle.rules.proofs.Shape.{laid, shaped}
use Rattle.marks.proofs.TestedLaws.{tested-all}
use Rattle.marks.proofs.collect.Goals as goal

pub overflow_cast-c : goal.overflow_cast-c
overflow_cast-c c = let f = (laid _ (shaped _ c.requires.readings.checked)).cells.at_most in omega arith

pub returns : goal.returns
unfolding board_of
returns c = tested-all _ _ _ _ c.loop-c.invariant (omega arith)
