-- The room, then the rows.
use Prim.Native.Nat.{◌*◌, ◌≤◌}
use mathlib.Core.Path.{◌≡◌, refl, sym, ◌∙◌, ap, ap₂}
use native.Mathlib.Omega.{arith}
use borrow.Author.Tests.{ltb-false}
use Rattle.rules.specs.Rows.{row_bytes}
use Rattle.rules.specs.Refusals.{judge, short, groups_checks, most_cells}
use Rattle.rules.proofs.Shape.{laid, shaped, one_block}
use Rattle.rules.proofs.CheckLaws.{once-accepted}
use Rattle.rows.proofs.GroupRows.{place-bounded}
use Rattle.rigcandle.proofs.AnswerLaws.{Gives, groups-refused, groups-accepted, rest-decides, check-by}
use Rattle.rigcandle.proofs.AdmittedLaws.{cells-within}
use Rattle.rules.specs.Answers.{groups_outcome, groups_answer}
use Rattle.rigcandle.specs.Asking.{answer_bits}
use Rattle.rules.proofs.Verdicts.{given_on}
use Rattle.rigcandle.proofs.questions.answer_groups.Goals as goal
use Rattle.rigcandle.proofs.questions.answer_groups.Goals.{After-once, After-plan_of-plan}

small : (c : After-plan_of-plan) → c.read_sizes-cells.result.cells ≤ most_cells
small c = cells-within _ c.requires.ready.accepted (c.read_sizes-cells.ensures.cells)

-- what the room's check is
judged : (c : After-once) → c.once.result ≡ judge (groups_checks (c.args.file.now) (c.args.out.now))
unfolding groups_checks
judged c =
    let needed = ap₂ ◌*◌ c.plan_of-plan.ensures.groups-are (c.row_bytes.ensures ∙ ap row_bytes (c.read_sizes-cells.ensures.cells)) in
    rest-decides _ c.requires.counted _ (check-by (short (c.args.out.now)) c.once.ensures needed)

pub overflow_mul-plan : goal.overflow_mul-plan
overflow_mul-plan c =
    let m = place-bounded _ _ _ _ c.plan_of-plan.result.small.groups-bounded (small (goal.at.overflow_mul-plan c).After-plan_of-plan) c.row_bytes.ensures refl in
    omega arith

pub returns-in_err-once : goal.returns-in_err-once
unfolding answer_bits
returns-in_err-once c =
    let given = groups-refused refl refl _ _ (sym c.in_err-once.was ∙ judged (goal.at.returns-in_err-once c).After-once) in
    record { value = rw (given_on _ c.from_residual.ensures.1) given.0; out_after = given.1 }

pub write_groups-requires : goal.write_groups-requires
write_groups-requires c =
    let room = ltb-false _ _ (once-accepted 15 _ (sym c.in_ok-once.ensures)) in
    record {
      ready = c.requires.ready;
      cells_are = c.read_sizes-cells.ensures.cells;
      groups-bounded = c.plan_of-plan.result.small.groups-bounded;
      long = rw (← c.row_bytes.ensures) room;
    }

pub returns : goal.returns
unfolding answer_bits
returns c =
    let ok = sym (judged (goal.at.returns c).After-once) ∙ c.in_ok-once.was in
    let given : Gives c.group_bits.result c.write_groups.new.out (groups_outcome (groups_answer c.args.file.now c.args.out.now)) =
    groups-accepted _ _ c.group_bits.ensures ok c.plan_of-plan.ensures.groups-are c.write_groups.ensures.out_after in
    record { value = given.0; out_after = given.1 }

pub group_bits-requires : goal.group_bits-requires
group_bits-requires c = c.plan_of-plan.result.small.groups-bounded

pub read_sizes-cells-requires : goal.read_sizes-cells-requires
read_sizes-cells-requires c = one_block _ (laid _ (shaped _ c.requires.ready.by-control.checked))

pub plan_of-plan-requires : goal.plan_of-plan-requires
plan_of-plan-requires c = c.requires.ready

pub row_bytes-requires : goal.row_bytes-requires
row_bytes-requires c = let s = small c in omega arith
