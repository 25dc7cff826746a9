-- `words::loops::keep_lowest` meets its contract: the first j words hold their part of the k lowest, and `left` of the k are still to come.
use Prim.Native.Nat.{ℕ, ◌*◌, ◌-◌}
use mathlib.Core.Path.{◌≡◌}
use mathlib.Core.List.{List}
use Rattle.base.specs.Counting.{count, among}
use Rattle.words.specs.Sets.{member}
use Rattle.words.proofs.SetLaws.{Written}
use Rattle.words.proofs.loops.keep_lowest.Given as goal

-- how many of the k lowest are left after the first j words
abbrev pub left_at : List ℕ → ℕ → ℕ → ℕ
left_at ws k j = k - count (64 * j) (member ws)

abbrev pub invariant-loop-word : goal.invariant-loop-word
invariant-loop-word l = Written (among l.k (member l.initial.words)) l.initial.words l.word-index l.words × (l.left ≡ left_at l.initial.words l.k l.word-index)
