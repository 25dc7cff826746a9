-- `rules::each`: the places that were passed do not fail.
use Rattle.std.proofs.Common.{ℕ, Bool}
use Rattle.base.proofs.TestLaws.{Searched}
use Rattle.rules.specs.Checking.{Computes}
use Rattle.rules.proofs.each.Given as goal

abbrev pub invariant-loop-place : goal.invariant-loop-place
invariant-loop-place g l = (test : ℕ → Bool) → Computes (goal.F-post g l.fails) l.places test → Searched l.places test l.place
