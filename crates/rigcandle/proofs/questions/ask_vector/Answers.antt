-- Refusals 1 to 12, then the answer.
use Rattle.std.proofs.Common.{refl, sym, ◌∙◌}
use Rattle.rules.specs.Refusals.{count_checks, vector_checks}
use Rattle.rules.specs.Answers.{vector_outcome, vector_answer}
use Rattle.rules.proofs.Verdicts.{given_on, stopped, then_append}
use Rattle.rigcandle.specs.Asking.{answer_bits}
use Rattle.rigcandle.proofs.AnswerLaws.{vector-refused}
use Rattle.rigcandle.proofs.questions.ask_vector.Goals as goal

pub returns-in_err-admit : goal.returns-in_err-admit
unfolding answer_bits vector_checks
returns-in_err-admit c =
    let given = vector-refused refl refl _ _ _ (stopped (then_append (count_checks _) _) c.in_err-admit.ensures.value refl) in
    record { value = rw (given_on _ c.from_residual.ensures.1) given.0; out_after = given.1 }

pub answer_vector-requires : goal.answer_vector-requires
answer_vector-requires c = c.in_ok-admit.ensures.admitted (sym c.in_ok-admit.ensures.value)
