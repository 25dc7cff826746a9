-- Refusals 1 to 12, then the answer.
use Rattle.std.proofs.Common.{refl, sym, ◌∙◌}
use Rattle.rules.specs.Refusals.{count_checks, groups_checks}
use Rattle.rules.specs.Answers.{groups_outcome, groups_answer}
use Rattle.rules.proofs.Verdicts.{given_on, stopped, then_append}
use Rattle.rigcandle.specs.Asking.{answer_bits}
use Rattle.rigcandle.proofs.AnswerLaws.{groups-refused}
use Rattle.rigcandle.proofs.questions.ask_groups.Goals as goal

pub returns-in_err-admit : goal.returns-in_err-admit
unfolding answer_bits groups_checks
returns-in_err-admit c =
    let given = groups-refused refl refl _ _ (stopped (then_append (count_checks _) _) c.in_err-admit.ensures.value refl) in
    record { value = rw (given_on _ c.from_residual.ensures.1) given.0; out_after = given.1 }

pub answer_groups-requires : goal.answer_groups-requires
answer_groups-requires c = c.in_ok-admit.ensures.admitted (sym c.in_ok-admit.ensures.value)
