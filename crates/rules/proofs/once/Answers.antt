-- `rules::once` meets its contract, by the law of a check that looks at one place.
use Rattle.std.proofs.Common.{sym, ◌∙◌, []}
use Rattle.rules.specs.Refusals.{judge}
use Rattle.rules.proofs.CheckLaws.{once-fails, once-passes}
use Rattle.rules.proofs.once.Goals as goal

pub returns-then-fails : goal.returns-then-fails
returns-then-fails c = c.refuse.ensures ∙ sym (once-fails _ _ [] c.if-fails.true)

pub returns-else-fails : goal.returns-else-fails
unfolding judge
returns-else-fails c = sym (once-passes _ _ [] c.if-fails.false)
