-- The number, the room, then the row.
use Prim.Native.Nat.{ℕ, ◌≤◌, ◌<◌}
use mathlib.Core.Path.{◌≡◌, refl, sym, ◌∙◌, ap}
use mathlib.Core.List.{List, [], ◌∷◌}
use native.Mathlib.Omega.{arith}
use borrow.Author.Tests.{ltb-false, leb-false}
use lib.Dec.{leb}
use Rattle.rules.specs.Rows.{row_bytes}
use Rattle.rules.specs.File.{board_of}
use Rattle.rules.specs.Vectors.{total_of}
use Rattle.rules.specs.Refusals.{judge, once, short, vector_checks, most_cells, Verdict}
use Rattle.rules.proofs.VectorsDriven.{vector-group}
use Rattle.rules.proofs.Shape.{laid, shaped, one_block}
use Rattle.rules.proofs.CheckLaws.{once-accepted}
use Rattle.plan.proofs.PlanningLaws.{total-is, groups-within}
use Rattle.rigcandle.proofs.AnswerLaws.{Gives, vector-refused, vector-accepted, first-decides, second-decides, check-by}
use Rattle.rigcandle.proofs.AdmittedLaws.{cells-within}
use Rattle.rules.specs.Answers.{vector_outcome, vector_answer}
use Rattle.rigcandle.specs.Asking.{answer_bits}
use Rattle.rules.proofs.Verdicts.{given_on}
use Rattle.rigcandle.proofs.questions.answer_vector.Goals as goal
use Rattle.rigcandle.proofs.questions.answer_vector.Goals.{After-once-2, After-plan_of-plan, In_ok-once}

small : (c : After-plan_of-plan) → c.read_sizes-cells.result.cells ≤ most_cells
small c = cells-within _ c.requires.ready.accepted (c.read_sizes-cells.ensures.cells)

-- what the number's check is, and the room's
number_is :
    (f : List ℕ) (number : ℕ) {v : Verdict} {t : ℕ} →
    v ≡ judge (once 13 (leb t number) ∷ []) → t ≡ total_of (board_of f) → v ≡ judge (once 13 (leb (total_of (board_of f)) number) ∷ [])
number_is f number e t = check-by (λ n. once 13 (leb n number)) e t

room-is : (c : After-once-2) → c.once-2.result ≡ judge (vector_checks c.args.file.now c.args.number c.args.out.now)
unfolding vector_checks
room-is c =
    let room = check-by (short c.args.out.now) c.once-2.ensures (c.row_bytes.ensures ∙ ap row_bytes c.read_sizes-cells.ensures.cells) in
    second-decides _ c.requires.counted _ _ (number_is _ _ c.once.ensures (c.total.ensures ∙ total-is _ _ c.plan_of-plan.ensures)) c.in_ok-once.was room

pub returns-in_err-once : goal.returns-in_err-once
unfolding answer_bits vector_checks
returns-in_err-once c =
    let told = c.in_err-once.was in
    let number = first-decides _ c.requires.counted _ _ (number_is _ _ c.once.ensures (c.total.ensures ∙ total-is _ _ c.plan_of-plan.ensures)) told in
    let given = vector-refused refl refl _ _ _ (sym told ∙ number) in
    record { value = rw (given_on _ c.from_residual.ensures.1) given.0; out_after = given.1 }

pub returns-in_err-once-2 : goal.returns-in_err-once-2
unfolding answer_bits
returns-in_err-once-2 c =
    let given = vector-refused refl refl _ _ _ (sym c.in_err-once-2.was ∙ room-is (goal.at.returns-in_err-once-2 c).After-once-2) in
    record { value = rw (given_on _ c.from_residual-in_err-once-2.ensures.1) given.0; out_after = given.1 }

-- a known number is below it
below : (c : In_ok-once) → c.args.number < total_of (board_of (c.args.file.now))
below c =
    rw (← c.total.ensures ∙ total-is _ _ c.plan_of-plan.ensures) (leb-false _ _ (once-accepted 13 _ (sym c.in_ok-once.ensures)))

pub write_vector-group-requires : goal.write_vector-group-requires
write_vector-group-requires c =
    let room = ltb-false _ _ (once-accepted 15 _ (sym c.in_ok-once-2.ensures)) in
    record {
      ready = c.requires.ready;
      cells_are = c.read_sizes-cells.ensures.cells;
      planned = c.plan_of-plan.ensures;
      below = below (goal.at.write_vector-group-requires c).In_ok-once;
      long = rw (← c.row_bytes.ensures) room;
    }

pub group_bits-requires : goal.group_bits-requires
group_bits-requires c =
    let g = (vector-group (board_of (c.args.file.now)) (c.args.number) (below (goal.at.group_bits-requires c).In_ok-once)).1 in
    let l = groups-within _ c.requires.ready.accepted in
    omega (arith, c.write_vector-group.ensures.value)

pub returns : goal.returns
unfolding answer_bits
returns c =
    let ok = sym (room-is (goal.at.returns c).After-once-2) ∙ c.in_ok-once-2.was in
    let given : Gives c.group_bits.result c.write_vector-group.new.out (vector_outcome (vector_answer c.args.file.now c.args.number c.args.out.now)) =
    vector-accepted _ _ _ c.group_bits.ensures ok c.write_vector-group.ensures.value c.write_vector-group.ensures.out_after in
    record { value = given.0; out_after = given.1 }

pub read_sizes-cells-requires : goal.read_sizes-cells-requires
read_sizes-cells-requires c = one_block _ (laid _ (shaped _ c.requires.ready.by-control.checked))

pub plan_of-plan-requires : goal.plan_of-plan-requires
plan_of-plan-requires c = c.requires.ready

pub row_bytes-requires : goal.row_bytes-requires
row_bytes-requires c = let s = small (goal.at.row_bytes-requires c).After-plan_of-plan in omega arith
