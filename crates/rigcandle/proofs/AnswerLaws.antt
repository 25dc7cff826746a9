-- An answer by its verdict: a refusal's bits and the buffer as it was, or what the question returns and writes.
use Prim.Native.Nat.{ℕ}
use mathlib.Core.Path.{◌≡◌, refl, sym, ◌∙◌, ap, subst}
use mathlib.Core.List.{List, [], ◌∷◌, ◌++◌}
use native.Mathlib.Omega.{arith}
use Rattle.rules.specs.File.{board_of}
use Rattle.rules.specs.Drivers.{groups_of}
use Rattle.rules.specs.Groups.{group_rows}
use Rattle.rules.specs.Vectors.{width_of, total_of, vector_at, vector_row}
use Rattle.rules.specs.Marks.{marks_of, bytes_that, is_pass, is_fail, is_unsure}
use Rattle.rules.specs.Refusals.{Check, judge, count_checks, groups_checks, vector_checks, marks_checks, Verdict, Accepted, Refused}
use Rattle.rules.specs.Answers.{Field, Outcome, unless, over, pack, packed, field}
use Rattle.rules.specs.Answers.{count_answer, count_outcome, groups_answer, groups_outcome, vector_answer, vector_outcome, marks_answer, marks_outcome}
use Rattle.rules.specs.declared.Refusal.{Refusal}
use Rattle.rules.proofs.Verdicts.{stopped, passed, then_append}

-- what a call returned, and the buffer after it, are the outcome's
abbrev pub Gives : ℕ → List ℕ → Outcome → Type 0
Gives bits after outcome = (bits ≡ outcome.bits) × (after ≡ outcome.buffer)

-- a refusal: what the question would have returned and written does not count
module _ {v : Verdict} {x : Refusal} {bits : ℕ} (given : bits ≡ packed v []) (refuses : v ≡ Refused x) where
  packed-refused : {w : Verdict} → v ≡ w → (fields : List Field) → bits ≡ packed w fields
  unfolding packed
  packed-refused e fields = given ∙ rw (← e, refuses)

  kept : {w : Verdict} → v ≡ w → (after buffer : List ℕ) → buffer ≡ unless w after buffer
  kept e after buffer = rw (sym e ∙ refuses)

  pub count-refused : (file : List ℕ) → v ≡ judge (count_checks file) → bits ≡ (count_outcome (count_answer file)).bits
  unfolding count_outcome count_answer
  count-refused file e = packed-refused e _

  pub groups-refused : (file buffer : List ℕ) → v ≡ judge (groups_checks file buffer) → Gives bits buffer (groups_outcome (groups_answer file buffer))
  unfolding groups_outcome groups_answer
  groups-refused file buffer e = (packed-refused e _, kept e _ _)

  pub vector-refused :
      (file : List ℕ) (number : ℕ) (buffer : List ℕ) → v ≡ judge (vector_checks file number buffer) →
      Gives bits buffer (vector_outcome (vector_answer file number buffer))
  unfolding vector_outcome vector_answer
  vector-refused file number buffer e = (packed-refused e _, kept e _ _)

  pub marks-refused :
      (file capture buffer : List ℕ) → v ≡ judge (marks_checks file capture buffer) →
      Gives bits buffer (marks_outcome (marks_answer file capture buffer))
  unfolding marks_outcome marks_answer
  marks-refused file capture buffer e = (packed-refused e _, kept e _ _)

-- an acceptance: the bits and the buffer have what the question returns and writes
pub count-accepted :
    (file : List ℕ) {bits g w t : ℕ} → bits ≡ pack (field 8 0 ∷ field 8 g ∷ field 8 w ∷ field 16 t ∷ []) → judge (count_checks file) ≡ Accepted →
    g ≡ groups_of (board_of file) → w ≡ width_of (board_of file) → t ≡ total_of (board_of file) → bits ≡ (count_outcome (count_answer file)).bits
unfolding count_outcome count_answer packed
count-accepted file given ok e f h = given ∙ rw (ok, e, f, h)

module _ (file : List ℕ) {bits : ℕ} {after : List ℕ} where
  pub groups-accepted :
      (buffer : List ℕ) {g : ℕ} → bits ≡ pack (field 8 0 ∷ field 8 g ∷ []) → judge (groups_checks file buffer) ≡ Accepted →
      g ≡ groups_of (board_of file) → after ≡ over (group_rows (board_of file) g) buffer →
      Gives bits after (groups_outcome (groups_answer file buffer))
  unfolding groups_outcome groups_answer packed
  groups-accepted buffer given ok e h = (given ∙ rw (ok, e), h ∙ rw (ok, e))

  pub vector-accepted :
      (number : ℕ) (buffer : List ℕ) {g : ℕ} → bits ≡ pack (field 8 0 ∷ field 8 g ∷ []) → judge (vector_checks file number buffer) ≡ Accepted →
      g ≡ (vector_at (board_of file) number).group → after ≡ over (vector_row (board_of file) (vector_at (board_of file) number)) buffer →
      Gives bits after (vector_outcome (vector_answer file number buffer))
  unfolding vector_outcome vector_answer packed
  vector-accepted number buffer given ok e h = (given ∙ rw (ok, e), h ∙ rw ok)

  pub marks-accepted :
      (capture buffer : List ℕ) {p f u : ℕ} → bits ≡ pack (field 8 0 ∷ field 16 p ∷ field 16 f ∷ field 16 u ∷ []) →
      judge (marks_checks file capture buffer) ≡ Accepted →
      p ≡ bytes_that is_pass (marks_of (board_of file) capture) →
      f ≡ bytes_that is_fail (marks_of (board_of file) capture) →
      u ≡ bytes_that is_unsure (marks_of (board_of file) capture) →
      after ≡ over (marks_of (board_of file) capture) buffer →
      Gives bits after (marks_outcome (marks_answer file capture buffer))
  unfolding marks_outcome marks_answer packed
  marks-accepted capture buffer given ok e h k m = (given ∙ rw (ok, e, h, k), m ∙ rw ok)

-- the checks after the first twelve, which accept the file: one alone; or two, of which the first refuses, or passes and leaves it to the other
module _ (file : List ℕ) (ok : judge (count_checks file) ≡ Accepted) where
  pub rest-decides : (checks : List Check) {v : Verdict} → v ≡ judge checks → v ≡ judge (count_checks file ++ checks)
  rest-decides checks e = passed (then_append (count_checks file) checks) refl ok e

  pub first-decides :
      (a b : Check) {u : Verdict} {x : Refusal} → u ≡ judge (a ∷ []) → u ≡ Refused x → u ≡ judge (count_checks file ++ (a ∷ b ∷ []))
  first-decides a b e f = rest-decides (a ∷ b ∷ []) (stopped (then_append (a ∷ []) (b ∷ [])) e f)

  pub second-decides :
      (a b : Check) {u v : Verdict} → u ≡ judge (a ∷ []) → u ≡ Accepted → v ≡ judge (b ∷ []) → v ≡ judge (count_checks file ++ (a ∷ b ∷ []))
  second-decides a b e f g = rest-decides (a ∷ b ∷ []) (passed (then_append (a ∷ []) (b ∷ [])) e f g)

-- a check by the number that it goes by
pub check-by : (check : ℕ → Check) {x y : ℕ} {v : Verdict} → v ≡ judge (check x ∷ []) → x ≡ y → v ≡ judge (check y ∷ [])
check-by check e h = e ∙ ap (λ (n : ℕ). judge (check n ∷ [])) h
