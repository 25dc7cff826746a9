-- No refusal has the number 0: what each question's checks refuse, they refuse by a positive number, so that no refused answer is taken for an
-- accepted one. The idea: each check of each list says one.
use Prim.Native.Nat.{ℕ, ◌<◌}
use mathlib.Core.Path.{◌≡◌}
use mathlib.Core.List.{List, [], ◌∷◌, ◌++◌}
use native.Mathlib.Omega.{arith}
use Rattle.rules.specs.Refusals.{Refused, Check, judge, shape_checks, file_checks, net_checks, control_checks, early_checks, board_checks}
use Rattle.rules.specs.Refusals.{count_checks, groups_checks, vector_checks, marks_checks}
use Rattle.rules.specs.declared.Refusal.{Refusal}
use Rattle.rules.proofs.Verdicts.{First, here, later, given-first}

-- each check of a list says a positive number, at every place
abbrev AllPositive : List Check → Type 0
AllPositive [] = Unit
AllPositive (check ∷ checks) = ((place : ℕ) → 0 < (check.says place).number) × AllPositive checks

first-positive : (checks : List Check) → AllPositive checks → (r : Refusal) → First r checks → 0 < r.number
first-positive [] all r x = elim x [ ]
first-positive (check ∷ checks) all r (here place a e) = rw e at (all.0 place)
first-positive (check ∷ checks) all r (later p first) = first-positive checks all.1 r first

positive-append : (xs ys : List Check) → AllPositive xs → AllPositive ys → AllPositive (xs ++ ys)
positive-append [] ys all more = more
positive-append (check ∷ checks) ys all more = (all.0, positive-append checks ys all.1 more)

-- the checks of every question
module _ (file : List ℕ) where
  file-positive : AllPositive (file_checks file)
  unfolding file_checks shape_checks
  file-positive = (λ p. omega arith, (λ p. omega arith, (λ p. omega arith, (λ p. omega arith, (λ p. omega arith, (λ p. omega arith, tt))))))

  board-positive : AllPositive (board_checks file)
  unfolding board_checks early_checks net_checks control_checks
  board-positive =
      positive-append (early_checks file) _
      (positive-append (file_checks file) _ file-positive (λ p. omega arith, (λ p. omega arith, (λ p. omega arith, tt))))
      (λ p. omega arith, (λ p. omega arith, tt))

  count-positive : AllPositive (count_checks file)
  unfolding count_checks
  count-positive = positive-append (board_checks file) _ board-positive (λ p. omega arith, tt)

  -- and so each question's refusal
  pub count-number : (r : Refusal) → judge (count_checks file) ≡ Refused r → 0 < r.number
  count-number r e = first-positive _ count-positive r (given-first _ r e)

  pub groups-number : (buffer : List ℕ) (r : Refusal) → judge (groups_checks file buffer) ≡ Refused r → 0 < r.number
  unfolding groups_checks
  groups-number buffer r e =
      first-positive _ (positive-append (count_checks file) _ count-positive (λ p. omega arith, tt)) r (given-first _ r e)

  pub vector-number : (number : ℕ) (buffer : List ℕ) (r : Refusal) → judge (vector_checks file number buffer) ≡ Refused r → 0 < r.number
  unfolding vector_checks
  vector-number number buffer r e =
      first-positive _ (positive-append (count_checks file) _ count-positive (λ p. omega arith, (λ p. omega arith, tt))) r (given-first _ r e)

  pub marks-number : (capture buffer : List ℕ) (r : Refusal) → judge (marks_checks file capture buffer) ≡ Refused r → 0 < r.number
  unfolding marks_checks
  marks-number capture buffer r e =
      first-positive _ (positive-append (count_checks file) _ count-positive (λ p. omega arith, (λ p. omega arith, tt))) r (given-first _ r e)
