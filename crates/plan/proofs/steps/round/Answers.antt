-- n is where part i starts in a round, and `old` has the values of base vector i.
use mathlib.Core.Path.{◌≡◌, sym, ◌∙◌, ap}
use native.Mathlib.Omega.{arith}
use Rattle.plan.specs.Plans.{full_after, full_start, round_of}
use Rattle.plan.proofs.RoundLaws.{between_is, full-zero, full-next, full-bounded, full-start-bounded}
use Rattle.plan.proofs.steps.round.Goals as goal
use Rattle.plan.proofs.steps.round.Goals.{After-inserted_between}

told : (c : After-inserted_between) → c.inserted_between.result ≡ full_after c.args.plan c.loop-i.i
told c = c.inserted_between.ensures ∙ between_is c.args.plan _ _ _ c.loop-i.invariant.1 c.base_values-new.ensures

pub loop-i-init : goal.loop-i-init
loop-i-init c = (sym (full-zero _), c.base_values-old.ensures)

pub overflow_add-n : goal.overflow_add-n
overflow_add-n c = let e = told c in omega (arith, full-bounded c.args.plan c.loop-i.i)

pub overflow_add-n-in-loop-i : goal.overflow_add-n-in-loop-i
overflow_add-n-in-loop-i c = let e = told c in omega (arith, full-bounded c.args.plan c.loop-i.i, full-start-bounded c.args.plan c.loop-i.i)

pub loop-i-preserved : goal.loop-i-preserved
loop-i-preserved c = let e = told c in (omega (arith, full-next c.args.plan c.loop-i.i), c.base_values-new.ensures)

pub returns : goal.returns
unfolding round_of
returns c = let e : c.loop-i.i ≡ c.args.plan.wide = omega arith in c.loop-i.invariant.0 ∙ ap (full_start _) e
