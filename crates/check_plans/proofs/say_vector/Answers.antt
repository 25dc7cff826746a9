-- The step stands within the plan.
use Rattle.std.proofs.Common.{sym, subst}
use Rattle.plan.specs.Plans.{Within}
use Rattle.plan.proofs.MixLaws.{steps-within}
use Rattle.check_plans.proofs.say_vector.Goals as goal

pub group_of-requires : goal.group_of-requires
group_of-requires g c =
    subst (Within c.args.plan) (sym c.step_at-step.ensures) (steps-within c.args.plan _ c.requires)

pub values-requires : goal.values-requires
values-requires g c =
    subst (Within c.args.plan) (sym c.step_at-step.ensures) (steps-within c.args.plan _ c.requires)

pub say_values-requires : goal.say_values-requires
say_values-requires g c = c.args.plan.small.nets
