-- The search for the lowest control cell that crosses a higher one.
use Rattle.std.proofs.Common.{◌<◌, sym, ◌∙◌, arith}
use Rattle.rules.specs.File.{board_of, cells_of}
use Rattle.chains.proofs.Walks.{cell-fits}
use Rattle.board.proofs.PairLaws.{pairs_next, pairs-found, pairs-ended}
use Rattle.board.proofs.controls.crossed_verdict.Goals as goal
use Rattle.board.proofs.controls.crossed_verdict.Goals.{In-loop-i}

-- inside the loop i is one of the file's cells
here : (c : In-loop-i) → c.loop-i.i < cells_of c.args.board.now.file.now
here c = let e = c.args.board.now.sized.cells_are in omega arith

pub overflow_cast-lower : goal.overflow_cast-lower
overflow_cast-lower c = let f = cell-fits _ c.args.board.now.filled.by-control.checked _ (here c) in omega arith

pub returns-in-Some : goal.returns-in-Some
unfolding board_of
returns-in-Some c =
    c.refuse_pair.ensures ∙ sym (pairs-found _ c.loop-i.invariant (here (goal.at.returns-in-Some c).In-loop-i) c.in-Some.ensures)

pub loop-i-preserved : goal.loop-i-preserved
unfolding board_of
loop-i-preserved c = pairs_next _ c.loop-i.invariant (here (goal.at.loop-i-preserved c).In-loop-i) c.in_default.ensures

pub returns : goal.returns
unfolding board_of
returns c = let e = c.args.board.now.sized.cells_are in sym (pairs-ended _ c.loop-i.invariant (omega arith))
