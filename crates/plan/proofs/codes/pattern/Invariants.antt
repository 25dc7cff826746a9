-- The first w words hold the pattern.
use Rattle.rules.specs.Vectors.{code_bit}
use Rattle.words.specs.Sets.{up_to}
use Rattle.words.proofs.SetLaws.{Written}
use Rattle.plan.proofs.codes.pattern.Given as goal

abbrev pub invariant-loop-w : goal.invariant-loop-w
invariant-loop-w l = Written (up_to l.nets (code_bit l.wide l.j)) l.initial.words l.w l.words
