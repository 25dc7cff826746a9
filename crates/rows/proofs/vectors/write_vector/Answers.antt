-- Vector t's step gives its group and its nets' values, and these its row.
use mathlib.Core.Path.{◌≡◌, sym, ◌∙◌, ap, subst}
use native.Mathlib.Omega.{arith}
use Rattle.rules.specs.File.{board_of}
use Rattle.rules.specs.Vectors.{Vector, vector_at}
use Rattle.rules.proofs.VectorsDriven.{vector-group}
use Rattle.chains.proofs.Walks.{cells_fit}
use Rattle.select.proofs.Passing.{board-size}
use Rattle.plan.specs.Plans.{Within}
use Rattle.plan.proofs.MixLaws.{steps-within}
use Rattle.plan.proofs.PlanningLaws.{total-is, vector-is}
use Rattle.rows.specs.Room.{Cells}
use Rattle.rows.proofs.BitLaws.{own-cells, vector-written}
use Rattle.rows.proofs.vectors.write_vector.Goals as goal
use Rattle.rows.proofs.vectors.write_vector.Goals.{After-group_of-turn, After-step_at-step}

-- the step is one of the plan's own
within : (c : After-step_at-step) → Within c.args.plan c.step_at-step.result
within c =
    subst (Within c.args.plan) (sym c.step_at-step.ensures) (steps-within c.args.plan _ (rw (total-is _ _ c.requires.planned) c.requires.below))

-- the group found is the vector's
group-is : (c : After-group_of-turn) → c.group_of-turn.result ≡ (vector_at (board_of c.args.file.now) c.args.t).group
group-is c =
    c.group_of-turn.ensures ∙ ap (λ (v : Vector). v.group) (vector-is _ _ _ _ c.requires.planned c.step_at-step.ensures)

pub group-on-requires-clause-le_g : goal.group-on-requires-clause-le_g
group-on-requires-clause-le_g c = rw (group-is (goal.at.group-on-requires-clause-le_g c).After-group_of-turn) (vector-group _ _ c.requires.below).0

pub write_row-requires : goal.write_row-requires
write_row-requires c =
    let l = c.requires.long in
    let e = c.requires.cells_are in
    let f = cells_fit _ c.requires.ready.by-control.checked in
    record { room = record { long = omega arith; cells-bounded = omega arith }; cells = subst (Cells _) (sym c.row_cells-row.ensures) (own-cells _ _) }

pub returns-clause-value : goal.returns-clause-value
returns-clause-value c = group-is (goal.at.returns-clause-value c).After-group_of-turn

pub returns-clause-out_after : goal.returns-clause-out_after
returns-clause-out_after c =
    let nets = c.values-nets.ensures ∙ ap (λ (v : Vector). v.value) (vector-is _ _ _ _ c.requires.planned c.step_at-step.ensures) in
    let size = board-size _ _ c.requires.cells_are in
    let g = group-is (goal.at.returns-clause-out_after c).After-group_of-turn in
    vector-written _ _ _ _ _ _ _ _ _ size g c.group-on.ensures.words_value nets c.row_cells-row.ensures c.write_row.ensures

pub step_at-step-requires : goal.step_at-step-requires
step_at-step-requires c = rw (total-is _ _ c.requires.planned) c.requires.below

pub group_of-turn-requires : goal.group_of-turn-requires
group_of-turn-requires c = within c

pub values-nets-requires : goal.values-nets-requires
values-nets-requires c = within (goal.at.values-nets-requires c).After-step_at-step
