-- What is left of t is its place in part j of the round, and t is no further than the round's last part.
use mathlib.Core.Path.{◌≡◌, ap}
use native.Mathlib.Omega.{arith}
use Rattle.plan.specs.Plans.{full_start, round_of}
use Rattle.plan.proofs.StepLaws.{size-bounded}
use Rattle.plan.proofs.RoundLaws.{full-zero, full-next, turn-bounded, turn-base, turn-inserted}
use Rattle.plan.proofs.steps.step_in.Goals as goal

pub loop-j-init : goal.loop-j-init
loop-j-init c = rw (full-zero c.args.plan) (omega arith)

-- part j of the turn is one of the plan's
pub overflow_mul-i : goal.overflow_mul-i
overflow_mul-i c =
    omega (arith, size-bounded c.args.plan, turn-bounded c.args.plan _ _ _ _ c.requires.t_in_bounds c.loop-j-test.true c.loop-j.invariant)

pub overflow_add-i : goal.overflow_add-i
overflow_add-i c =
    omega (arith, size-bounded c.args.plan, turn-bounded c.args.plan _ _ _ _ c.requires.t_in_bounds c.loop-j-test.true c.loop-j.invariant)

pub returns-then-left-eq0 : goal.returns-then-left-eq0
returns-then-left-eq0 c = turn-base c.args.plan _ _ _ _ c.requires.t_in_bounds c.loop-j-test.true c.loop-j.invariant c.if-left-eq0.true

pub returns-then-left-extra : goal.returns-then-left-extra
returns-then-left-extra c =
    turn-inserted c.args.plan _ _ _ _ c.requires.t_in_bounds c.loop-j-test.true c.loop-j.invariant c.if-left-eq0.false
    (rw (← c.full_after-extra.ensures) c.if-left-extra.true)

pub loop-j-preserved : goal.loop-j-preserved
loop-j-preserved c = let e = c.loop-j.invariant in omega (arith, c.full_after-extra.ensures, full-next c.args.plan c.loop-j.j)

pub unreachable-requires : goal.unreachable-requires
unfolding round_of
unreachable-requires c =
    let e : c.loop-j.j ≡ c.args.plan.wide = omega arith in
    let f = c.loop-j.invariant in
    omega (arith, ap (full_start c.args.plan) e)
