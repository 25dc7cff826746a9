-- From every list that the sets hold at first: what is on now, and what is left of the pass over the highest drivers gives the whole.
use mathlib.Core.Path.{sym, ◌∙◌}
use native.Mathlib.Omega.{arith}
use Rattle.select.proofs.Passing.{holds_same, turn_is, to-nothing}
use Rattle.select.proofs.Ordering.{place, over-end, over-step, over-all}
use Rattle.select.proofs.turns.run_pass.Goals as goal

pub spare-c-requires : goal.spare-c-requires
spare-c-requires g c = place _ _ _ _ c.requires.order (omega arith) _ (omega arith)

pub loop-i-preserved-in-Some : goal.loop-i-preserved-in-Some
loop-i-preserved-in-Some g c wanted allowed tells on h =
    let s = c.loop-i.invariant wanted allowed tells on h in
    let is = turn_is _ _ _ _ s.0 _ (c.in-Some.ensures.stops wanted allowed tells) in
    (_, holds_same is (c.turn-nets.ensures s.0 s.1), sym (over-step _ _ _ _ _ _ s.0 c.loop-i-test.true c.spare-c.ensures) ∙ s.2)

pub loop-i-preserved : goal.loop-i-preserved
loop-i-preserved g c wanted allowed tells on h =
    let s = c.loop-i.invariant wanted allowed tells on h in
    let is = turn_is _ _ _ _ s.0 _ (c.in_default.ensures.stops wanted allowed tells) in
    (_, holds_same (to-nothing _ s.0 ∙ is) s.1, sym (over-step _ _ _ _ _ _ s.0 c.loop-i-test.true c.spare-c.ensures) ∙ s.2)

pub returns : goal.returns
returns g c wanted allowed tells on h =
    let s = c.loop-i.invariant wanted allowed tells on h in
    holds_same
    (sym (over-end _ _ _ _ _ s.0 c.loop-i-test.false) ∙ s.2 ∙ over-all _ _ _ c.requires.order wanted allowed on)
    s.1
