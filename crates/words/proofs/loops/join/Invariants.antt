-- `words::loops::join` meets its contract: the first j words hold the members of both, the others are as they were.
use Rattle.words.specs.Sets.{member, either}
use Rattle.words.proofs.SetLaws.{Written}
use Rattle.words.proofs.loops.join.Given as goal

abbrev pub invariant-loop-j : goal.invariant-loop-j
invariant-loop-j l = Written (either (member l.initial.into) (member l.from)) l.initial.into l.j l.into
