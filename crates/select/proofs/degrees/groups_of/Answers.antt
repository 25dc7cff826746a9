-- G of the nets below n, grown by net n.
use Prim.Native.Nat.{◌<◌}
use mathlib.Core.Path.{◌∙◌}
use native.Mathlib.Omega.{arith}
use Rattle.rules.specs.Refusals.{most_nets}
use Rattle.chains.proofs.Walks.{net-fits}
use Rattle.select.proofs.Largest.{so-far-none, so_far_more, so-far-all}
use Rattle.select.proofs.degrees.groups_of.Goals as goal

pub drivers_on-requires : goal.drivers_on-requires
drivers_on-requires c = net-fits _ c.requires.ready.counted.checked _ (omega arith)

pub overflow_cast-n : goal.overflow_cast-n
overflow_cast-n c =
    let f : c.loop-n.n < most_nets = net-fits _ c.requires.ready.counted.checked _ (omega arith) in
    omega arith

pub loop-n-init : goal.loop-n-init
loop-n-init c = so-far-none _ _ c.requires.ready

pub loop-n-preserved : goal.loop-n-preserved
loop-n-preserved c = so_far_more _ _ c.requires.ready _ _ _ _ (omega arith) c.loop-n.invariant c.drivers_on.ensures (cc)

pub returns : goal.returns
returns c = c.loop-n.invariant ∙ so-far-all _ _ c.requires.ready _ (omega arith)
