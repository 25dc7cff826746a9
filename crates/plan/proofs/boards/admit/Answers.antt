-- The board's verdict, and then the plan's total; the table stays as the verdict left it.
use Rattle.std.proofs.Common.{◌≡◌, refl, sym, ◌∙◌}
use Rattle.rules.specs.Refusals.{judge, board_checks, Accepted}
use Rattle.rules.proofs.Verdicts.{never, given_on, stopped, passed}
use Rattle.select.specs.Turns.{Ready}
use Rattle.plan.proofs.PlanningLaws.{row_count, check-is}
use Rattle.plan.proofs.boards.admit.Goals as goal
use Rattle.plan.proofs.boards.admit.Goals.{In_ok-examine}

-- checks 1 to 11 accept the file, and the table is its own
accepted : (c : In_ok-examine) → judge (board_checks c.args.file.now) ≡ Accepted
accepted c = sym c.in_ok-examine.ensures.value

own : (c : In_ok-examine) → Ready c.args.file.now c.examine.new.table
own c =
    let t = c.in_ok-examine.ensures.filled (accepted c) in
    record { accepted = accepted c; long = t.long; by-control = t.by-control; counted = t.counted }

pub returns-in_err-examine : goal.returns-in_err-examine
returns-in_err-examine c =
    let g = given_on _ c.from_residual.ensures.1 in
    let e = g ∙ stopped (row_count _) c.in_err-examine.ensures.value refl in
    record { value = e; admitted = λ a. absurd (never _ (sym g ∙ e ∙ a)) }

pub plan_of-requires : goal.plan_of-requires
plan_of-requires c = own c

pub returns : goal.returns
returns c =
    let here = (goal.at.returns c).In_ok-examine in
    record {
      value = passed (row_count _) c.in_ok-examine.ensures.value refl (c.count_verdict.ensures ∙ check-is _ _ c.plan_of.ensures);
      admitted = λ e. record { counted = e; ready = own here };
    }
