-- The search for the lowest control cell that crosses a higher one.
use Rattle.base.proofs.TestLaws.{Searched}
use Rattle.rules.specs.File.{board_of, cells_of}
use Rattle.rules.specs.Refusals.{crossed}
use Rattle.board.proofs.controls.crossed_verdict.Given as goal

abbrev pub invariant-loop-i : goal.invariant-loop-i
invariant-loop-i l = Searched (cells_of l.fn.board.file.now) (crossed (board_of l.fn.board.file.now)) l.i
