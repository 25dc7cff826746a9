-- A walk along k's chain, for a driver whose net has another number of drivers than the first's.
use Rattle.rules.specs.File.{board_of, cells_of}
use Rattle.chains.specs.Table.{ControlCell, entry_of}
use Rattle.chains.specs.Chains.{keyed}
use Rattle.chains.proofs.Chaining.{Walking}
use Rattle.board.proofs.ControlChecks.{other}
use Rattle.board.proofs.controls.differs.Given as goal

abbrev pub invariant-loop-at : goal.invariant-loop-at
invariant-loop-at l = Walking (keyed (board_of l.fn.board.file.now) ControlCell l.fn.k.0) (other (board_of l.fn.board.file.now) l.fn.k.0 l.first) (cells_of l.fn.board.file.now) (entry_of l.at)

abbrev pub decreases-loop-at : goal.decreases-loop-at
decreases-loop-at l = entry_of l.at
