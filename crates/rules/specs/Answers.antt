-- The four questions: every returned number and the lent buffer afterwards, and the 64 bits in which the numbers reach C. Assumes nothing.
use Rattle.std.specs.Prelude.{Ok, Err, ℕ, ◌+◌, ◌*◌, ◌^◌, List, [], ◌∷◌, ◌++◌, length, drop}
use Rattle.rules.specs.File.{Board, board_of}
use Rattle.rules.specs.Drivers.{groups_of}
use Rattle.rules.specs.Groups.{group_rows}
use Rattle.rules.specs.Vectors.{width_of, total_of, vector_at, vector_row}
use Rattle.rules.specs.Marks.{marks_of, bytes_that, is_pass, is_fail, is_unsure}
use Rattle.rules.specs.Refusals.{Verdict, judge, number_of, place_of, second_of, groups_checks, count_checks, vector_checks, marks_checks}

-- "A refusal returns number and place, every other returned number 0, and no lent byte differs"
abbrev pub unless {ℓ} : {A : Type ℓ} → Verdict → A → A → A
unless (Ok t) answer refused = answer
unless (Err r) answer refused = refused

-- "Bytes of a buffer past those needed keep their values"
abbrev pub over : List ℕ → List ℕ → List ℕ
over bytes buffer = bytes ++ drop (length bytes) buffer

-- a number in some of the 64 bits
pub record Field : Type 0 where
  pub width : ℕ
  pub value : ℕ

-- the fields one after the other, the first in the lowest bits
unfoldable pub pack : List Field → ℕ
pack [] = 0
pack (field ∷ fields) = field.value + 2 ^ field.width * pack fields

abbrev pub field : ℕ → ℕ → Field
field width value = record { width = width; value = value }

-- bits 0-7 the number; refused: 8-23 the place, 24-39 the second place; accepted: what the question returns
unfoldable pub packed : Verdict → List Field → ℕ
packed v fields =
    pack (unless v (field 8 0 ∷ fields) (field 8 (number_of v) ∷ field 16 (place_of v) ∷ field 16 (second_of v) ∷ []))

-- what C sees of a call: the 64 bits and the lent buffer afterwards
pub record Outcome : Type 0 where
  pub bits : ℕ
  pub buffer : List ℕ

-- groups: "writes G rows of R bytes .. returns G"
pub record GroupsAnswer : Type 0 where
  pub verdict : Verdict
  pub groups : ℕ
  pub buffer : List ℕ

unfoldable pub groups_answer : List ℕ → List ℕ → GroupsAnswer
groups_answer file buffer =
    let b : Board = board_of file in
    let v : Verdict = judge (groups_checks file buffer) in
    record { verdict = v; groups = unless v (groups_of b) 0; buffer = unless v (over (group_rows b (groups_of b)) buffer) buffer }

-- bits 8-15 G
unfoldable pub groups_outcome : GroupsAnswer → Outcome
groups_outcome r = record { bits = packed r.verdict (field 8 r.groups ∷ []); buffer = r.buffer }

-- count: "returns G, p and the total"
pub record CountAnswer : Type 0 where
  pub verdict : Verdict
  pub groups : ℕ
  pub width : ℕ
  pub total : ℕ

unfoldable pub count_answer : List ℕ → CountAnswer
count_answer file =
    let b : Board = board_of file in
    let v : Verdict = judge (count_checks file) in
    record { verdict = v; groups = unless v (groups_of b) 0; width = unless v (width_of b) 0; total = unless v (total_of b) 0 }

-- bits 8-15 G; 16-23 p; 24-39 total; 40-63 stay 0. Nothing is lent
unfoldable pub count_outcome : CountAnswer → Outcome
count_outcome r =
    record { bits = packed r.verdict (field 8 r.groups ∷ field 8 r.width ∷ field 16 r.total ∷ []); buffer = [] }

-- vector: "returns its group and writes R bytes"
pub record VectorAnswer : Type 0 where
  pub verdict : Verdict
  pub group : ℕ
  pub buffer : List ℕ

unfoldable pub vector_answer : List ℕ → ℕ → List ℕ → VectorAnswer
vector_answer file number buffer =
    let b : Board = board_of file in
    let v : Verdict = judge (vector_checks file number buffer) in
    record { verdict = v; group = unless v (vector_at b number).group 0; buffer = unless v (over (vector_row b (vector_at b number)) buffer) buffer }

-- bits 8-15 the group; 16-23 stay 0
unfoldable pub vector_outcome : VectorAnswer → Outcome
vector_outcome r = record { bits = packed r.verdict (field 8 r.group ∷ []); buffer = r.buffer }

-- marks: "N bytes are written; the numbers of pass, fail and unsure are returned"
pub record MarksAnswer : Type 0 where
  pub verdict : Verdict
  pub pass : ℕ
  pub fail : ℕ
  pub unsure : ℕ
  pub buffer : List ℕ

unfoldable pub marks_answer : List ℕ → List ℕ → List ℕ → MarksAnswer
marks_answer file capture buffer =
    let v : Verdict = judge (marks_checks file capture buffer) in
    let marks : List ℕ = marks_of (board_of file) capture in
    record {
      verdict = v;
      pass = unless v (bytes_that is_pass marks) 0;
      fail = unless v (bytes_that is_fail marks) 0;
      unsure = unless v (bytes_that is_unsure marks) 0;
      buffer = unless v (over marks buffer) buffer;
    }

-- bits 8-23 pass; 24-39 fail; 40-55 unsure
unfoldable pub marks_outcome : MarksAnswer → Outcome
marks_outcome r =
    record { bits = packed r.verdict (field 16 r.pass ∷ field 16 r.fail ∷ field 16 r.unsure ∷ []); buffer = r.buffer }
