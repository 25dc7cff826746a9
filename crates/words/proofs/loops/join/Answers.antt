-- `words::loops::join` meets its contract: the first j words hold the members of both, the others are as they were.
use mathlib.Core.Path.{refl}
use mathlib.Core.Bool.{◌||◌}
use native.Mathlib.Omega.{arith}
use lib.Bits.{bit_or}
use Rattle.base.proofs.WordLaws.{bit-or}
use Rattle.words.proofs.SetLaws.{combined-more, combined-all}
use Rattle.words.proofs.loops.join.Goals as goal

pub loop-j-preserved : goal.loop-j-preserved
loop-j-preserved c = combined-more ◌||◌ bit_or bit-or _ _ c.loop-j.invariant (omega arith)

pub returns : goal.returns
returns c = combined-all ◌||◌ bit_or bit-or _ _ c.loop-j.invariant (omega arith) c.requires.long refl
