-- The sets are the tests' nets, as far as the cells below c go. One cell more is add_reading's.
use Rattle.rules.specs.File.{board_of}
use Rattle.marks.specs.Judging.{TestedBelow}
use Rattle.marks.proofs.collect.Given as goal

abbrev pub invariant-loop-c : goal.invariant-loop-c
invariant-loop-c l = TestedBelow (board_of l.file) l.table l.c l.tests
