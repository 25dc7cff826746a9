-- The fields stand one after the other.
use native.Mathlib.Omega.{arith}
use Rattle.rules.specs.Answers.{pack}
use Rattle.rigcandle.proofs.packing.marks_bits.Goals as goal

pub returns : goal.returns
unfolding pack
returns c = omega arith
