-- The plan has all three numbers.
use Rattle.std.proofs.Common.{refl, sym, ◌∙◌}
use Rattle.rules.proofs.Verdicts.{given_on}
use Rattle.plan.proofs.PlanningLaws.{total-is}
use Rattle.rigcandle.specs.Asking.{answer_bits}
use Rattle.rigcandle.proofs.AnswerLaws.{count-accepted, count-refused}
use Rattle.rigcandle.proofs.AdmittedLaws.{vectors-bounded, width_fits}
use Rattle.rigcandle.proofs.questions.ask_count.Goals as goal

pub returns-in_err-plan : goal.returns-in_err-plan
unfolding answer_bits
returns-in_err-plan c = rw (given_on _ c.from_residual.ensures.1) (count-refused refl refl _ (sym c.in_err-plan.ensures))

pub count_bits-requires : goal.count_bits-requires
count_bits-requires c =
    let m = c.in_ok-plan.ensures in
    (c.in_ok-plan.plan.small.groups-bounded, width_fits c.in_ok-plan.plan, vectors-bounded _ _ _ m.0 m.1 c.total.ensures)

pub returns : goal.returns
unfolding answer_bits
returns c =
    let m = c.in_ok-plan.ensures in
    count-accepted _ c.count_bits.ensures m.0 m.1.groups-are m.1.wide-are (c.total.ensures ∙ total-is _ _ m.1)
