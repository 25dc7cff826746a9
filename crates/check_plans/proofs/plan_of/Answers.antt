-- The width of at most so many nets is from 1 to `most_width`.
use Rattle.std.proofs.Common.{arith}
use Rattle.rules.specs.Refusals.{most_width}
use Rattle.plan.proofs.WidthLaws.{width_positive, width-bounded}
use Rattle.check_plans.proofs.plan_of.Goals as goal

pub invariant_of-result : goal.invariant_of-result
invariant_of-result c =
    let p = c.requires in
    let n = p.0 in
    let l = width-bounded most_width c.args.nets (omega arith) in
    record {
      small =
          record {
            nets = p.0;
            coded = rw c.width.ensures (width_positive c.args.nets);
            narrow = rw c.width.ensures (omega arith);
            turns = p.1;
            groups-bounded = omega (arith, p.2);
            limited = p.3;
            limit-bounded = omega (arith, p.4);
          };
    }
