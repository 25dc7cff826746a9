-- The sizes of a board that is ready can be read, and the vectors of its plan are its own.
use Rattle.std.proofs.Common.{◌∙◌}
use Rattle.rules.proofs.Shape.{laid, shaped, one_block}
use Rattle.plan.proofs.PlanningLaws.{total-is}
use Rattle.listing.proofs.say_vectors.Goals as goal

pub read_sizes-cells-requires : goal.read_sizes-cells-requires
read_sizes-cells-requires g c = one_block _ (laid _ (shaped _ c.requires.by-control.checked))

pub loop-t-init : goal.loop-t-init
loop-t-init g c =
    (c.requires, c.read_sizes-cells.ensures.cells, c.plan_of-plan.ensures, c.total-vectors.ensures ∙ total-is _ _ c.plan_of-plan.ensures)

pub say_vector-requires : goal.say_vector-requires
say_vector-requires g c =
    let inv = c.loop-t.invariant in
    record { ready = inv.0; cells_value = inv.1; plan_of = inv.2; t_bound = rw (← inv.3) c.loop-t-test.true }

pub loop-t-preserved : goal.loop-t-preserved
loop-t-preserved g c =
    let inv = c.loop-t.invariant in
    (c.say_vector.ensures, inv.1, inv.2, inv.3)
