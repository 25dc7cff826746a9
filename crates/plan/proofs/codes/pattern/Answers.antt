-- The first w words hold the pattern, and past the last word there is no net.
use Prim.Native.Nat.{◌+◌, ◌*◌}
use mathlib.Core.Path.{refl, ◌∙◌, ap}
use mathlib.Core.Bool.{Bool, ◌&&◌}
use native.Mathlib.Omega.{arith}
use borrow.Author.Tests.{le-ltb}
use lib.Dec.{ltb}
use Rattle.words.specs.Sets.{net_words, up_to}
use Rattle.words.proofs.SetLaws.{written-more, member-zeros}
use Rattle.plan.proofs.Patterns.{written-far}
use Rattle.plan.proofs.codes.pattern.Goals as goal

pub loop-w-preserved : goal.loop-w-preserved
unfolding up_to
loop-w-preserved c =
    written-more _ _ c.loop-w.invariant (omega arith) _
    (λ k h. c.cut.ensures k h ∙ ap (λ (d : Bool). ltb (64 * c.loop-w.w + k) c.args.nets && d) (c.code_word.ensures.digits k h))

pub returns : goal.returns
unfolding up_to
returns c =
    let e = c.div_ceil-w-end.ensures in
    written-far c.loop-w.invariant (member-zeros net_words) (λ i h. rw (le-ltb i c.args.nets (omega arith)) refl)
