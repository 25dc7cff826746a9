-- The file's checks in a row: a refusal stops it, an acceptance goes on.
use Rattle.std.proofs.Common.{refl, sym, ◌∙◌}
use Rattle.rules.proofs.Shape.{laid, one_block}
use Rattle.rules.proofs.Verdicts.{given_on, stopped, passed}
use Rattle.board.proofs.Order.{row-shape}
use Rattle.board.proofs.verdict.file_verdict.Goals as goal

pub returns-in_err-shape_verdict : goal.returns-in_err-shape_verdict
returns-in_err-shape_verdict c = given_on _ c.from_residual.ensures.1 ∙ stopped (row-shape _) c.in_err-shape_verdict.ensures refl

pub read_sizes-sizes-requires : goal.read_sizes-sizes-requires
read_sizes-sizes-requires c = one_block _ (laid _ (sym c.in_ok-shape_verdict.ensures))

pub records_verdict-requires : goal.records_verdict-requires
records_verdict-requires c =
    let sizes = c.read_sizes-sizes.ensures in
    record { shaped = record { shape = sym c.in_ok-shape_verdict.ensures }; sized = record { cells_are = sizes.cells; nets-are = sizes.nets } }

pub returns : goal.returns
returns c = passed (row-shape _) c.in_ok-shape_verdict.ensures refl c.records_verdict.ensures
