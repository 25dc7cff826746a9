-- The file's cells are no more than there are positions.
use Rattle.std.proofs.Common.{◌≤◌, rules, arith}
use Rattle.rules.specs.Refusals.{most_cells}
use Rattle.rules.proofs.Shape.{laid, shaped}
use Rattle.board.proofs.controls.unequal_verdict.Goals as goal

pub each-requires : goal.each-requires
each-requires c =
    let most = (laid _ (shaped _ c.args.board.now.filled.by-control.checked)).cells.at_most in
    let e = c.args.board.now.sized.cells_are in
    let fits : c.args.board.now.cells ≤ most_cells = omega arith in
    search rules
