-- `words::loops::cut` meets its contract: while a word has more than k ones, its highest is not among the k lowest, and can go.
use Prim.Native.Nat.{◌^◌, ◌<◌}
use mathlib.Core.Path.{◌≡◌}
use Rattle.base.specs.Digits.{bit}
use Rattle.base.specs.Counting.{among}
use Rattle.words.proofs.loops.cut.Given as goal

abbrev pub invariant-loop-kept : goal.invariant-loop-kept
invariant-loop-kept l = (l.kept < 2 ^ 64) × (among l.k (bit l.kept) ≡ among l.k (bit l.word))

abbrev pub decreases-loop-kept : goal.decreases-loop-kept
decreases-loop-kept l = l.kept
