-- The plan or a refusal, then the answer.
use Rattle.std.proofs.Common.{refl, sym, ◌∙◌}
use Rattle.rules.specs.Refusals.{count_checks, marks_checks}
use Rattle.rules.proofs.Verdicts.{given_on, stopped, then_append}
use Rattle.rigcandle.specs.Asking.{answer_bits}
use Rattle.rigcandle.proofs.AnswerLaws.{marks-refused}
use Rattle.rigcandle.proofs.questions.ask_marks.Goals as goal

pub returns-in_err-plan : goal.returns-in_err-plan
unfolding answer_bits marks_checks
returns-in_err-plan c =
    let given = marks-refused refl refl _ _ _ (stopped (then_append (count_checks _) _) (sym c.in_err-plan.ensures) refl) in
    record { value = rw (given_on _ c.from_residual.ensures.1) given.0; out_after = given.1 }

pub answer_marks-requires : goal.answer_marks-requires
answer_marks-requires c = let m = c.in_ok-plan.ensures in record { file_value = m.0; plan_of = m.1 }
