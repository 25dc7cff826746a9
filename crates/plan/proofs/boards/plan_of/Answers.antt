-- The header's N and SSOL, G by the numbers of drivers, p by N: small, since the board of the table is accepted.
use native.Mathlib.Omega.{arith}
use Rattle.rules.proofs.Shape.{laid, shaped, one_block}
use Rattle.plan.proofs.PlanningLaws.{numbers-bounded, plan-from}
use Rattle.plan.proofs.boards.plan_of.Goals as goal

pub width-wide-requires : goal.width-wide-requires
width-wide-requires c =
    let e = c.read_sizes-sizes.ensures.nets in
    let l = (laid _ (shaped _ c.requires.by-control.checked)).nets.at_most in
    omega arith

pub returns : goal.returns
returns c =
    let s = c.read_sizes-sizes.ensures in
    plan-from _ _ s.nets s.limit c.width-wide.ensures c.groups_of-groups.ensures

pub invariant_of-result : goal.invariant_of-result
invariant_of-result c =
    let s = c.read_sizes-sizes.ensures in
    record { small = numbers-bounded _ c.requires.accepted _ _ _ _ s.nets c.width-wide.ensures c.groups_of-groups.ensures s.limit }

pub read_sizes-sizes-requires : goal.read_sizes-sizes-requires
read_sizes-sizes-requires c = one_block _ (laid _ (shaped _ c.requires.by-control.checked))

pub groups_of-groups-requires : goal.groups_of-groups-requires
groups_of-groups-requires c = record { ready = c.requires; nets_value = c.read_sizes-sizes.ensures.nets }
