-- The file's verdict, then the nets' and the control cells', in a row; the table is filled where the file is whole.
use Rattle.std.proofs.Common.{refl, sym, ◌∙◌}
use Rattle.rules.proofs.Shape.{laid, shaped, one_block}
use Rattle.rules.proofs.Verdicts.{never, given_on, stopped, passed}
use Rattle.board.proofs.Order.{row-file, row-nets}
use Rattle.board.proofs.verdict.examine.Goals as goal

pub returns-in_err-file_verdict : goal.returns-in_err-file_verdict
returns-in_err-file_verdict c =
    let g = given_on _ c.from_residual.ensures.1 in
    let e = g ∙ stopped (row-file _) c.in_err-file_verdict.ensures refl in
    record { value = e; filled = λ a. absurd (never _ (sym g ∙ e ∙ a)) }

pub read_sizes-sizes-requires : goal.read_sizes-sizes-requires
read_sizes-sizes-requires c = one_block _ (laid _ (shaped _ (sym c.in_ok-file_verdict.ensures)))

pub returns-in_err-nets_verdict-clause-value : goal.returns-in_err-nets_verdict-clause-value
returns-in_err-nets_verdict-clause-value c =
    given_on _ c.from_residual-in_err-nets_verdict.ensures.1
    ∙ passed (row-file _) c.in_ok-file_verdict.ensures refl (stopped (row-nets _) c.in_err-nets_verdict.ensures refl)

pub returns-clause-value : goal.returns-clause-value
returns-clause-value c =
    passed (row-file _) c.in_ok-file_verdict.ensures refl (passed (row-nets _) c.in_ok-nets_verdict.ensures refl c.controls_verdict.ensures.value)
