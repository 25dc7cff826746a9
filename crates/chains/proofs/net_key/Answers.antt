-- The definition, by what the cell that was read is.
use native.Mathlib.Omega.{arith}
use Rattle.rules.specs.File.{net_of}
use Rattle.rules.proofs.DriverLaws.{output-is}
use Rattle.chains.specs.Chains.{key_at}
use Rattle.chains.proofs.net_key.Goals as goal

pub returns-in-Internal : goal.returns-in-Internal
unfolding net_of key_at
returns-in-Internal c = grind (arith, output-is)

pub returns-in-ThreeState : goal.returns-in-ThreeState
unfolding net_of key_at
returns-in-ThreeState c = grind (arith, output-is)

pub returns-in-ThreeState-2 : goal.returns-in-ThreeState-2
unfolding net_of key_at
returns-in-ThreeState-2 c = grind (arith, output-is)

pub returns-in-ThreeState-3 : goal.returns-in-ThreeState-3
unfolding net_of key_at
returns-in-ThreeState-3 c = grind (arith, output-is)
