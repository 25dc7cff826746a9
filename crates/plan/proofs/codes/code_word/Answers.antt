-- A low digit's word is always the same, a higher one's has the digits of w and of the next word's number.
use mathlib.Core.Path.{◌∙◌, ap₂}
use mathlib.Core.Bool.{Bool, cond}
use native.Mathlib.Omega.{arith}
use lib.Dec.{ltb}
use Rattle.base.proofs.WordLaws.{read-digit}
use Rattle.rules.specs.Vectors.{code_bit}
use Rattle.plan.proofs.Patterns.{low-digit-word, high_word}
use Rattle.plan.proofs.codes.code_word.Goals as goal

pub returns-then-digit-lt6 : goal.returns-then-digit-lt6
unfolding code_bit
returns-then-digit-lt6 c = record { digits = λ k h. low-digit-word _ _ k c.if-digit-lt6.true h }

pub returns : goal.returns
unfolding code_bit
returns c =
    record { digits = λ k h. c.spread.ensures k h ∙ ap₂ (λ (a b : Bool). cond (ltb k 63) a b) (read-digit _ _) (read-digit _ _) ∙ high_word _ _ _ k (omega arith) c.if-digit-lt6.false h }
