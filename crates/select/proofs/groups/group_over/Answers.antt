-- The cells of groups 1 to j - 1, group by group.
use mathlib.Core.Path.{◌≡◌}
use native.Mathlib.Omega.{arith}
use native.Mathlib.Nat.{add-sub_cancel}
use Rattle.select.proofs.Passing.{earlier-none, earlier_more, group-is}
use Rattle.select.proofs.groups.group_over.Goals as goal

pub loop-j-init : goal.loop-j-init
loop-j-init c = earlier-none _ _ c.empty-earlier.ensures

pub loop-j-preserved : goal.loop-j-preserved
loop-j-preserved c =
    let inv = c.loop-j.invariant in
    rw (add-sub_cancel c.loop-j.j 1) (earlier_more _ _ _ _ _ (omega arith) (c.selected-on.ensures _ inv) inv c.union-earlier.ensures)

pub returns : goal.returns
returns c =
    let e : c.loop-j.j ≡ c.args.g = omega (arith, c.loop-j-test.false) in
    let h = c.selected.ensures _ c.loop-j.invariant in
    group-is _ _ _ c.requires.le_g (rw e at h)
