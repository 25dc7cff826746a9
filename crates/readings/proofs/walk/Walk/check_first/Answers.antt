-- A round's parts are the plan's (part-below), and few vectors are inserted in each (extra-bounded).
use Rattle.std.proofs.Common.{arith}
use Rattle.plan.proofs.StepLaws.{extra-bounded}
use Rattle.plan.proofs.RoundLaws.{round-below}
use Rattle.readings.proofs.CapturePlaces.{starts_none, starts-next, part-below}
use Rattle.readings.proofs.LeftLaws.{left-zero, left_one}
use Rattle.readings.proofs.Following.{period-is}
use Rattle.readings.proofs.walk.Walk.check_first.Goals as goal

pub loop-i-init : goal.loop-i-init
loop-i-init c = record { begins = starts_none _; still_left = left-zero _ _ _ }

pub overflow_add-t : goal.overflow_add-t
overflow_add-t c = omega (arith, c.extra_after-extra.ensures, extra-bounded c.args.self.now.plan c.loop-i.i)

pub overflow_add-t-in-loop-i : goal.overflow_add-t-in-loop-i
overflow_add-t-in-loop-i c =
    let p = c.args.self.now.rowed in
    let v = p.vectors in
    let q = part-below _ _ 0 _ (round-below c.args.self.now.plan _ c.loop-i-test.true) c.loop-i.invariant.begins (omega arith) in
    omega (arith, c.extra_after-extra.ensures, extra-bounded c.args.self.now.plan c.loop-i.i)

pub loop-i-preserved : goal.loop-i-preserved
loop-i-preserved c =
    record {
      begins = starts-next _ _ _ _ c.loop-i.invariant.begins c.extra_after-extra.ensures;
      still_left = left_one _ _ c.loop-i.invariant.still_left c.check_part.ensures;
    }

pub returns-clause-value : goal.returns-clause-value
returns-clause-value c = period-is _ _ _ c.loop-i.invariant.begins (omega arith)
