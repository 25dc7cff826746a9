-- A search over the partners of i above it: the net sets are compared pair by pair. A control cell that switches nothing has none.
use Prim.Native.Nat.{◌-◌}
use Rattle.rules.specs.File.{board_of}
use Rattle.board.proofs.ControlChecks.{Uncrossed}
use Rattle.board.proofs.controls.crosser_of.Given as goal

-- none up to j crosses i
abbrev pub invariant-loop-j : goal.invariant-loop-j
invariant-loop-j l = Uncrossed (board_of l.file) l.fn.i.0 l.j

abbrev pub decreases-loop-j : goal.decreases-loop-j
decreases-loop-j l = l.cells - l.j
