-- Refusal 10 and then 11.
use Rattle.std.proofs.Common.{refl, ◌∙◌}
use Rattle.rules.specs.File.{board_of}
use Rattle.rules.proofs.Verdicts.{given_on, stopped, passed}
use Rattle.board.proofs.Order.{row-crossed}
use Rattle.board.proofs.controls.search.Goals as goal

pub returns-in_err-crossed_verdict : goal.returns-in_err-crossed_verdict
unfolding board_of
returns-in_err-crossed_verdict c = given_on _ c.from_residual.ensures.1 ∙ stopped (row-crossed _) c.in_err-crossed_verdict.ensures refl

pub returns : goal.returns
unfolding board_of
returns c = passed (row-crossed _) c.in_ok-crossed_verdict.ensures refl c.unequal_verdict.ensures
