-- Admission decides; the function's own table is blank.
use Rattle.std.proofs.Common.{refl, sym, ◌∙◌}
use Rattle.rules.proofs.Verdicts.{given_on}
use Rattle.chains.proofs.TableLaws.{blank}
use Rattle.rigcandle.proofs.questions.make_plan.Goals as goal

pub admit-requires : goal.admit-requires
admit-requires c = blank

pub returns-in_err-admit : goal.returns-in_err-admit
returns-in_err-admit c = rw (given_on _ c.from_residual.ensures.1) (sym c.in_err-admit.ensures.value)

pub plan_of-requires : goal.plan_of-requires
plan_of-requires c = (c.in_ok-admit.ensures.admitted (sym c.in_ok-admit.ensures.value)).ready

pub returns : goal.returns
returns c = (sym c.in_ok-admit.ensures.value, c.plan_of.ensures)
