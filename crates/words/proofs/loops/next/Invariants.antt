-- `words::loops::next` meets its contract: from `from` to i there is no member, and the lowest one of word i / 64, shifted down to i, is
-- the lowest member from i on.
use Prim.Native.Nat.{◌*◌, ◌-◌, ◌≤◌}
use lib.ListN.{length}
use Rattle.base.proofs.TestLaws.{Lowest}
use Rattle.words.specs.Sets.{member}
use Rattle.words.proofs.loops.next.Given as goal

abbrev pub invariant-loop-i : goal.invariant-loop-i
invariant-loop-i l = (l.i ≤ 64 * length l.words) × Lowest (member l.words) l.from l.i l.i

abbrev pub decreases-loop-i : goal.decreases-loop-i
decreases-loop-i l = 64 * length l.words - l.i
