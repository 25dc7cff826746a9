-- The search for a check's lowest place, once for every refusal: a loop that goes up keeps that it is inside the places and that each lower
-- one passed, and answers by `found` where one fails and by `ended` where none is left.
use Prim.Native.Nat.{ℕ, ◌<◌, ◌≤◌}
use mathlib.Core.Path.{◌≡◌}
use mathlib.Core.Bool.{Bool, true, false}
use mathlib.Core.List.{List, [], ◌∷◌}
use native.Mathlib.Omega.{arith}
use Rattle.rules.specs.Refusals.{Accepted, Check, judge, refuse, each, once}
use Rattle.rules.proofs.Verdicts.{judge-passes, judge-applies, all_pass}
use Rattle.base.proofs.TestLaws.{Searched, search-start, search-next}

module _ (number : ℕ) {places : ℕ} {fails : ℕ → Bool} {i : ℕ} where
  -- the place fails: it is the lowest
  pub found : (checks : List Check) → Searched places fails i → i < places → fails i ≡ true → judge (each number places fails ∷ checks) ≡ refuse number i
  found checks s l e = judge-applies (each number places fails) checks (record { within = l; applies = e; lowest = s.lower })

  -- no place is left: the list goes on, and at its end it accepts
  pub ended-then : (checks : List Check) → Searched places fails i → places ≤ i → judge (each number places fails ∷ checks) ≡ judge checks
  ended-then checks s m = judge-passes (each number places fails) checks (λ j l. s.lower j (omega arith))

  pub ended : Searched places fails i → places ≤ i → judge (each number places fails ∷ []) ≡ Accepted
  unfolding judge
  ended s m = ended-then [] s m

-- a check that looks at one place: it fails, or the list goes on
pub once-fails : (number : ℕ) (fails : Bool) (checks : List Check) → fails ≡ true → judge (once number fails ∷ checks) ≡ refuse number 0
once-fails number fails checks e = found number checks (search-start 1 (λ place. fails)) (omega arith) e

pub once-passes : (number : ℕ) (fails : Bool) (checks : List Check) → fails ≡ false → judge (once number fails ∷ checks) ≡ judge checks
once-passes number fails checks e =
    ended-then number checks (search-next (search-start 1 (λ place. fails)) (omega arith) e) (omega arith)

-- where it is accepted, it passed
pub once-accepted : (number : ℕ) (fails : Bool) → judge (once number fails ∷ []) ≡ Accepted → fails ≡ false
once-accepted number fails e = (all_pass (once number fails ∷ []) e).0 0 (omega arith)
