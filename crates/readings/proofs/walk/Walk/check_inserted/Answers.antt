-- Where the vectors of the part stand (later_below), and the values that their nets have (values-first, values-next, values-last).
use Rattle.std.proofs.Common.{◌+◌, refl, arith}
use Rattle.plan.proofs.MixLaws.{changed-bounded}
use Rattle.plan.proofs.StepLaws.{extra-bounded}
use Rattle.readings.proofs.LeftLaws.{left-zero}
use Rattle.readings.proofs.Following.{left-next, left-last, later_below, values-first, values-next, values-last, values-on}
use Rattle.readings.proofs.walk.Walk.check_inserted.Goals as goal

pub loop-k-init : goal.loop-k-init
loop-k-init c =
    record { still_left = left-zero _ _ _; now = values-first _ _ _ c.args.self.now.rowed _ _ _ c.requires.part c.requires.extra_nonzero _ c.base_values-old.ensures }

pub overflow_mul-k : goal.overflow_mul-k
overflow_mul-k c =
    let e = c.requires.part.extra-is in
    let l = extra-bounded c.args.self.now.plan c.args.span.i in
    let m = changed-bounded c.args.self.now.plan (c.loop-k.k + 1) (omega arith) in
    omega arith

pub overflow_add-span-in-loop-k : goal.overflow_add-span-in-loop-k
overflow_add-span-in-loop-k c = let r = later_below _ _ _ c.args.self.now.rowed _ _ _ c.requires.part c.requires.extra_nonzero c.loop-k.k (omega arith) in omega arith

pub check_next-requires : goal.check_next-requires
check_next-requires c = later_below _ _ _ c.args.self.now.rowed _ _ _ c.requires.part c.requires.extra_nonzero c.loop-k.k (omega arith)

pub loop-k-preserved : goal.loop-k-preserved
loop-k-preserved c =
    let inv = c.loop-k.invariant in
    let next =
    values-next _ _ _ c.args.self.now.rowed _ _ _ c.requires.part c.requires.extra_nonzero _ _ _ _ c.loop-k-test.true
    c.base_values-old.ensures c.base_values-new.ensures c.mixed-next.ensures in
    record { still_left = left-next _ _ _ _ _ _ _ _ _ refl inv.now next inv.still_left c.check_next.ensures; now = values-on _ _ _ _ next }

pub overflow_add-span-2 : goal.overflow_add-span-2
overflow_add-span-2 c = let r = later_below _ _ _ c.args.self.now.rowed _ _ _ c.requires.part c.requires.extra_nonzero c.args.span.extra (omega arith) in omega arith

pub check_next-requires-2 : goal.check_next-requires-2
check_next-requires-2 c = later_below _ _ _ c.args.self.now.rowed _ _ _ c.requires.part c.requires.extra_nonzero c.args.span.extra (omega arith)

pub returns : goal.returns
returns c =
    let inv = c.loop-k.invariant in
    let last = values-last _ _ _ c.args.self.now.rowed _ _ _ c.requires.part c.requires.extra_nonzero _ c.base_values-new.ensures in
    left-last _ _ _ _ _ _ _ _ _ (omega arith) inv.now last inv.still_left c.check_next-2.ensures
