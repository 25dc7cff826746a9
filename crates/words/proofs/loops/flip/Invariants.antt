-- `words::loops::flip` meets its contract: the first j words hold the members of one and not the other, the others are as they were.
use Rattle.words.specs.Sets.{member, unlike}
use Rattle.words.proofs.SetLaws.{Written}
use Rattle.words.proofs.loops.flip.Given as goal

abbrev pub invariant-loop-j : goal.invariant-loop-j
invariant-loop-j l = Written (unlike (member l.initial.into) (member l.from)) l.initial.into l.j l.into
