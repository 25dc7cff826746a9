-- What is left of refusals 1 to 12 where only the plan is asked for, and the bits of an answer.
use Rattle.std.specs.Prelude.{◌≡◌, List, [], ℕ, Result, Ok, Err, MatchResult}
use Rattle.rules.specs.File.{board_of}
use Rattle.rules.specs.Refusals.{judge, count_checks, Accepted, Refused}
use Rattle.rules.specs.Answers.{packed}
use Rattle.rules.specs.declared.Refusal.{Refusal}
use Rattle.plan.specs.declared.numbers.Plan.{Plan}
use Rattle.plan.specs.Planning.{PlanOf}

-- the plan of a file that checks 1 to 12 accept, or the refusal that they give
abbrev pub PlannedAs : List ℕ → Result Plan Refusal → Type 0
PlannedAs file answer =
    MatchResult answer (λ plan. (judge (count_checks file) ≡ Accepted) × PlanOf (board_of file) plan) (λ refusal. judge (count_checks file) ≡ Refused refusal)

-- the bits of what a question returns, or those of its refusal
unfoldable pub answer_bits : Result ℕ Refusal → ℕ
answer_bits (Ok bits) = bits
answer_bits (Err refusal) = packed (Refused refusal) []
