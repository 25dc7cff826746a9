-- The capture, the room, the readings, then the marks.
use Prim.Native.Nat.{ℕ, ◌*◌, ◌≤◌}
use mathlib.Core.Path.{◌≡◌, refl, sym, ◌∙◌, ap, ap₂}
use mathlib.Core.Bool.{not}
use mathlib.Core.List.{List, [], ◌∷◌}
use native.Mathlib.Omega.{arith}
use borrow.Author.Tests.{ltb-false}
use lib.Dec.{eqb}
use lib.ListN.{length}
use Rattle.rules.specs.Rows.{row_bytes}
use Rattle.rules.specs.File.{board_of, cells_of}
use Rattle.rules.specs.Vectors.{total_of}
use Rattle.rules.specs.Refusals.{judge, once, short, board_checks, marks_checks, most_cells, Verdict, Accepted}
use Rattle.rules.proofs.Shape.{laid, shaped, one_block}
use Rattle.rules.proofs.CheckLaws.{once-accepted}
use Rattle.plan.proofs.PlanningLaws.{total-is, board-accepted, whole-file}
use Rattle.rows.proofs.GroupRows.{place-bounded}
use Rattle.rigcandle.proofs.AnswerLaws.{Gives, marks-refused, first-decides, second-decides, check-by}
use Rattle.rigcandle.proofs.AdmittedLaws.{cells-within, vectors-bounded}
use Rattle.rigcandle.proofs.CaptureMarks.{marks-are, captured, whole-capture, no-entries, readings-of, counts-fit, marked-as}
use Rattle.rules.specs.Answers.{marks_outcome, marks_answer}
use Rattle.rigcandle.specs.Asking.{answer_bits}
use Rattle.rules.proofs.Verdicts.{given_on}
use Rattle.rigcandle.proofs.questions.answer_marks.Goals as goal
use Rattle.rigcandle.proofs.questions.answer_marks.Goals.{After-once-2, After-read_sizes-sizes}

accepted : (c : After-read_sizes-sizes) → judge (board_checks (c.args.file.now)) ≡ Accepted
accepted c = board-accepted _ c.requires.file_value

small : (c : After-read_sizes-sizes) → c.read_sizes-sizes.result.cells ≤ most_cells
small c = cells-within _ (accepted c) c.read_sizes-sizes.ensures.cells

-- what the capture's check is, and the room's
capture-is :
    (f capture : List ℕ) {v : Verdict} {t bytes : ℕ} →
    v ≡ judge (once 14 (not (eqb (length capture) (t * bytes))) ∷ []) → t ≡ total_of (board_of f) → bytes ≡ row_bytes (cells_of f) →
    v ≡ judge (once 14 (not (eqb (length capture) (total_of (board_of f) * row_bytes (cells_of f)))) ∷ [])
capture-is f capture e t b = check-by (λ n. once 14 (not (eqb (length capture) n))) e (ap₂ ◌*◌ t b)

room-is : (c : After-once-2) → c.once-2.result ≡ judge (marks_checks c.args.file.now c.args.capture.now c.args.out.now)
unfolding marks_checks
room-is c =
    let room = check-by (short c.args.out.now) c.once-2.ensures c.read_sizes-sizes.ensures.nets in
    second-decides _ c.requires.file_value _ _
    (capture-is _ _ c.once.ensures (c.total.ensures ∙ total-is _ _ c.requires.plan_of) (c.row_bytes.ensures ∙ ap row_bytes c.read_sizes-sizes.ensures.cells))
    c.in_ok-once.was room

pub overflow_mul-total : goal.overflow_mul-total
overflow_mul-total c =
    let m = place-bounded _ _ _ _ (vectors-bounded _ _ _ c.requires.file_value c.requires.plan_of c.total.ensures)
    (small (goal.at.overflow_mul-total c).After-read_sizes-sizes) c.row_bytes.ensures refl in
    omega arith

pub returns-in_err-once : goal.returns-in_err-once
unfolding answer_bits marks_checks
returns-in_err-once c =
    let told = c.in_err-once.was in
    let capture = first-decides _ c.requires.file_value _ _
    (capture-is _ _ c.once.ensures (c.total.ensures ∙ total-is _ _ c.requires.plan_of) (c.row_bytes.ensures ∙ ap row_bytes c.read_sizes-sizes.ensures.cells)) told in
    let given = marks-refused refl refl _ _ _ (sym told ∙ capture) in
    record { value = rw (given_on _ c.from_residual.ensures.1) given.0; out_after = given.1 }

pub returns-in_err-once-2 : goal.returns-in_err-once-2
unfolding answer_bits
returns-in_err-once-2 c =
    let given = marks-refused refl refl _ _ _ (sym c.in_err-once-2.was ∙ room-is (goal.at.returns-in_err-once-2 c).After-once-2) in
    record { value = rw (given_on _ c.from_residual-in_err-once-2.ensures.1) given.0; out_after = given.1 }

pub read_nets-requires : goal.read_nets-requires
read_nets-requires c =
    let right = whole-capture _ _ (once-accepted 14 _ (sym c.in_ok-once.ensures)) in
    let long = right ∙ ap₂ ◌*◌ c.total.ensures c.row_bytes.ensures in
    record {
      captured = captured _ _ _ c.requires.plan_of c.read_sizes-sizes.ensures.cells c.requires.file_value long;
      entries = no-entries _ (small (goal.at.read_nets-requires c).After-read_sizes-sizes);
    }

pub judge_readings-found-requires : goal.judge_readings-found-requires
judge_readings-found-requires c =
    let sizes = c.read_sizes-sizes.ensures in
    let room = ltb-false _ _ (once-accepted 15 _ (sym c.in_ok-once-2.ensures)) in
    let made = readings-of _ _ _ c.requires.plan_of sizes.cells (accepted (goal.at.judge_readings-found-requires c).After-read_sizes-sizes)
    (no-entries _ (small (goal.at.judge_readings-found-requires c).After-read_sizes-sizes)) c.read_nets.ensures in
    record { readings = made; sized = record { cells_are = sizes.cells; nets-are = sizes.nets }; nets_in_bounds = room }

pub returns : goal.returns
unfolding answer_bits
returns c =
    let ok = sym (room-is (goal.at.returns c).After-once-2) ∙ c.in_ok-once-2.was in
    let m = marks-are _ _ _ c.requires.plan_of c.read_sizes-sizes.ensures.cells c.read_nets.ensures in
    let given : Gives c.marks_bits.result c.judge_readings-found.new.out (marks_outcome (marks_answer c.args.file.now c.args.capture.now c.args.out.now)) =
    marked-as _ c.judge_readings-found.ensures.counted _ _ c.marks_bits.ensures ok m c.judge_readings-found.ensures.out_after in
    record { value = given.0; out_after = given.1 }

pub marks_bits-requires : goal.marks_bits-requires
marks_bits-requires c =
    counts-fit _ c.judge_readings-found.ensures.counted (accepted (goal.at.marks_bits-requires c).After-read_sizes-sizes)

pub read_sizes-sizes-requires : goal.read_sizes-sizes-requires
read_sizes-sizes-requires c = one_block _ (laid _ (shaped _ (whole-file _ (board-accepted _ c.requires.file_value))))

pub row_bytes-requires : goal.row_bytes-requires
row_bytes-requires c = let s = small (goal.at.row_bytes-requires c).After-read_sizes-sizes in omega arith
