-- `words::loops::flip` meets its contract: the first j words hold the members of one and not the other, the others are as they were.
use mathlib.Core.Path.{refl}
use mathlib.Core.Bool.{xor}
use native.Mathlib.Omega.{arith}
use lib.Bits.{bit_xor}
use Rattle.base.proofs.WordLaws.{bit-xor}
use Rattle.words.proofs.SetLaws.{combined-more, combined-all}
use Rattle.words.proofs.loops.flip.Goals as goal

pub loop-j-preserved : goal.loop-j-preserved
loop-j-preserved c = combined-more xor bit_xor bit-xor _ _ c.loop-j.invariant (omega arith)

pub returns : goal.returns
unfolding xor
returns c = combined-all xor bit_xor bit-xor _ _ c.loop-j.invariant (omega arith) c.requires.long refl
