-- Where a test tells that no control cell is refused, or that none crosses another, the checks are passed; else they are made.
use Rattle.std.proofs.Common.{sym, ◌∙◌}
use Rattle.rules.specs.File.{board_of}
use Rattle.nesting.specs.Bearing.{Told}
use Rattle.board.proofs.Order.{settled-accepted, uncrossed-next}
use Rattle.board.proofs.controls.controls_verdict.Goals as goal

pub returns-then-sound_upward-clause-value : goal.returns-then-sound_upward-clause-value
returns-then-sound_upward-clause-value c = settled-accepted _ (c.sound_upward.ensures c.if-sound_upward.true)

pub returns-in-Nested-clause-value : goal.returns-in-Nested-clause-value
unfolding Told board_of
returns-in-Nested-clause-value c = c.unequal_verdict.ensures ∙ sym (uncrossed-next _ (rw c.in-Nested.is at c.tell_falling-told.ensures.told))

pub returns-in-Sound-clause-value : goal.returns-in-Sound-clause-value
unfolding Told
returns-in-Sound-clause-value c = settled-accepted _ (rw c.in-Sound.is at c.tell_falling-told.ensures.told)
