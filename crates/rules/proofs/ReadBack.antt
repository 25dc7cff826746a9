-- Theorem 13, C reads every number back: of the 64 bits that each question returns, for every input, the header's functions give the
-- answer's own numbers, and nothing stands above them. The idea: fields that fit their widths are read off one after the other, a refusal's
-- numbers fit by the checks, and an accepted answer's by its bounds.
use Prim.Native.Nat.{ℕ, ◌+◌, ◌/◌, ◌%◌, ◌^◌, ◌<◌}
use mathlib.Core.Path.{◌≡◌, refl, sym, ◌∙◌, ap}
use mathlib.Core.Bool.{false, cond}
use mathlib.Core.List.{List, [], ◌∷◌}
use native.Mathlib.Nat.{div-one, div-lt_iff_lt-mul, one-mul}
use native.Mathlib.Omega.{arith}
use borrow.Author.Tests.{ne_eqb}
use lib.Dec.{eqb}
use lib.Pow.{pow_pos, shr-shr}
use Rattle.std.specs.Prelude.{Ok, Err}
use Rattle.rules.specs.File.{Board}
use Rattle.rules.specs.Marks.{is_pass, is_fail, is_unsure}
use Rattle.rules.specs.Refusals.{Accepted, Refused, Verdict, number_of, place_of, second_of}
use Rattle.rules.specs.Answers.{unless, Field, pack, field, packed}
use Rattle.rules.specs.Answers.{GroupsAnswer, groups_answer, groups_outcome, CountAnswer, count_answer, count_outcome}
use Rattle.rules.specs.Answers.{VectorAnswer, vector_answer, vector_outcome, MarksAnswer, marks_answer, marks_outcome}
use Rattle.rules.specs.declared.Refusal.{Refusal}
use Rattle.rules.proofs.Outcomes.{pack-first, pack-rest}
use Rattle.rules.proofs.Pairs.{Says, groups-refusal, count-refusal, vector-refusal, marks-refusal}
use Rattle.rules.proofs.RefusalNumbers.{groups-number, count-number, vector-number, marks-number}
use Rattle.rules.proofs.AnswerBounds.{count-before-groups, count-before-vector, count-before-marks, number-below, groups-fit, width_fits, total-fits, group-fits, counts-fit}

-- rigcandle_bits: "The number in `width` of an answer's bits, from bit `from` on", shifted and masked
abbrev pub bits_in : ℕ → ℕ → ℕ → ℕ
bits_in answer from width = answer / 2 ^ from % 2 ^ width

-- rigcandle_refusal: "The refusal's number, any question"
abbrev pub refusal_in : ℕ → ℕ
refusal_in answer = bits_in answer 0 8

-- rigcandle_if_refused: "These bits of a refused answer, and 0 of an accepted one"
abbrev pub if_refused : ℕ → ℕ → ℕ → ℕ
if_refused answer from width = cond (eqb (refusal_in answer) 0) 0 (bits_in answer from width)

-- rigcandle_if_accepted: "These bits of an accepted answer, and 0 of a refused one"
abbrev pub if_accepted : ℕ → ℕ → ℕ → ℕ
if_accepted answer from width = cond (eqb (refusal_in answer) 0) (bits_in answer from width) 0

-- what each question returns, as fields: those of its outcome
abbrev groups_fields : GroupsAnswer → List Field
groups_fields r = field 8 r.groups ∷ []

abbrev count_fields : CountAnswer → List Field
count_fields r = field 8 r.groups ∷ field 8 r.width ∷ field 16 r.total ∷ []

abbrev vector_fields : VectorAnswer → List Field
vector_fields r = field 8 r.group ∷ []

abbrev marks_fields : MarksAnswer → List Field
marks_fields r = field 16 r.pass ∷ field 16 r.fail ∷ field 16 r.unsure ∷ []

-- each field of a list fits its width
abbrev pub Fit : List Field → Type 0
Fit [] = Unit
Fit (f ∷ fs) = (f.value < 2 ^ f.width) × Fit fs

-- the fields are the bits from `from` on, one after the other, and nothing stands above them
abbrev pub Reads : ℕ → ℕ → List Field → Type 0
Reads answer from [] = answer < 2 ^ from
Reads answer from (f ∷ fs) = (bits_in answer from f.width ≡ f.value) × Reads answer (from + f.width) fs

-- what is left above `from` is a list of fields that fit: they are read off
reads_on : (answer from : ℕ) (fs : List Field) → answer / 2 ^ from ≡ pack fs → Fit fs → Reads answer from fs
unfolding pack
reads_on answer from [] e fit =
    rw one-mul at ((div-lt_iff_lt-mul {k = 2 ^ from} {x = answer} {y = 1} (pow_pos from)).0 (omega arith))
reads_on answer from (f ∷ fs) e fit =
    (ap (λ (x : ℕ). x % 2 ^ f.width) e ∙ pack-first f fs fit.0, reads_on answer (from + f.width) fs rest fit.1)
  where
    rest : answer / 2 ^ (from + f.width) ≡ pack fs
    rest = sym (shr-shr answer from f.width) ∙ ap (λ (x : ℕ). x / 2 ^ f.width) e ∙ pack-rest f fs fit.0

-- every list of fields that fit is read back
pub pack-reads : (fs : List Field) → Fit fs → Reads (pack fs) 0 fs
pack-reads fs fit = reads_on (pack fs) 0 fs (div-one (pack fs)) fit

-- what C reads of any question's answer: the number, and by rigcandle_place and rigcandle_second_place both places
pub record VerdictRead (v : Verdict) (answer : ℕ) : Type 0 where
  pub number : refusal_in answer ≡ number_of v
  pub place : if_refused answer 8 16 ≡ place_of v
  pub second : if_refused answer 24 16 ≡ second_of v

-- an accepted answer, of numbers that fit
module _ (fields : List Field) (fit : Fit fields) where
  -- its bits: 0 for the number, and its fields from bit 8 on
  accepted-bits : Reads (packed Accepted fields) 0 (field 8 0 ∷ fields)
  unfolding packed
  accepted-bits = pack-reads (field 8 0 ∷ fields) (omega arith, fit)

  -- number and both places are 0
  accepted-verdict : VerdictRead Accepted (packed Accepted fields)
  unfolding number_of place_of second_of
  accepted-verdict = let e = accepted-bits.0 in record { number = e; place = rw e; second = rw e }

  -- and the header looks at its other bits
  accepted-number : (from width : ℕ) {value : ℕ} → bits_in (packed Accepted fields) from width ≡ value → if_accepted (packed Accepted fields) from width ≡ value
  accepted-number from width e = rw accepted-bits.0 e

-- what a refused answer's refusal is told to be: what the checks say (Pairs), of a positive number
record Told (b : Board) (r : Refusal) : Type 0 where
  says : Says b r
  positive : 0 < r.number

-- a refused one, of what the checks say
module _ {b : Board} (r : Refusal) (s : Told b r) (fields : List Field) where
  -- its bits: the number, the place and the second place
  refused-bits : Reads (packed (Refused r) fields) 0 (field 8 r.number ∷ field 16 r.place ∷ field 16 r.second ∷ [])
  unfolding packed number_of place_of second_of
  refused-bits =
      pack-reads (field 8 r.number ∷ field 16 r.place ∷ field 16 r.second ∷ []) (s.says.number_fits, (s.says.place-fits, (s.says.second_fits, tt)))

  -- it is never taken for an accepted one
  not-zero : eqb (refusal_in (packed (Refused r) fields)) 0 ≡ false
  not-zero = rw refused-bits.0 (ne_eqb r.number 0 (λ e. let l = s.positive in omega arith))

  -- number and both places are the refusal's
  refused-verdict : VerdictRead (Refused r) (packed (Refused r) fields)
  unfolding number_of place_of second_of
  refused-verdict =
      record { number = refused-bits.0; place = rw not-zero refused-bits.1.0; second = rw not-zero refused-bits.1.1.0 }

  -- and every other number is read as 0
  refused-number : (from width : ℕ) → if_accepted (packed (Refused r) fields) from width ≡ 0
  refused-number from width = rw not-zero

-- groups, as C reads it: rigcandle_groups_g, and 0 in every bit above
pub record GroupsRead (said : GroupsAnswer) : Type 0 where
  pub verdict : VerdictRead said.verdict (groups_outcome said).bits
  pub groups : if_accepted (groups_outcome said).bits 8 8 ≡ said.groups
  pub above : (groups_outcome said).bits < unless said.verdict (2 ^ 16) (2 ^ 40)

-- count: rigcandle_count_g, rigcandle_count_p and rigcandle_count_total
pub record CountRead (said : CountAnswer) : Type 0 where
  pub verdict : VerdictRead said.verdict (count_outcome said).bits
  pub groups : if_accepted (count_outcome said).bits 8 8 ≡ said.groups
  pub width : if_accepted (count_outcome said).bits 16 8 ≡ said.width
  pub total : if_accepted (count_outcome said).bits 24 16 ≡ said.total
  pub above : (count_outcome said).bits < 2 ^ 40

-- vector: rigcandle_vector_group
pub record VectorRead (said : VectorAnswer) : Type 0 where
  pub verdict : VerdictRead said.verdict (vector_outcome said).bits
  pub group : if_accepted (vector_outcome said).bits 8 8 ≡ said.group
  pub above : (vector_outcome said).bits < unless said.verdict (2 ^ 16) (2 ^ 40)

-- marks: rigcandle_marks_pass, rigcandle_marks_fail and rigcandle_marks_unsure
pub record MarksRead (said : MarksAnswer) : Type 0 where
  pub verdict : VerdictRead said.verdict (marks_outcome said).bits
  pub pass : if_accepted (marks_outcome said).bits 8 16 ≡ said.pass
  pub fail : if_accepted (marks_outcome said).bits 24 16 ≡ said.fail
  pub unsure : if_accepted (marks_outcome said).bits 40 16 ≡ said.unsure
  pub above : (marks_outcome said).bits < unless said.verdict (2 ^ 56) (2 ^ 40)

-- what a verdict's refusal says, if it is one
abbrev Saying : Board → Verdict → Type 0
Saying b v = (r : Refusal) → v ≡ Refused r → Told b r

-- each answer by its verdict: its numbers fit where it is accepted, and are 0 where it is refused
groups-by : {b : Board} (v : Verdict) (g : ℕ) (after : List ℕ) → Saying b v → (v ≡ Accepted → g < 2 ^ 8) → GroupsRead (record { verdict = v; groups = unless v g 0; buffer = after })
unfolding groups_outcome
groups-by (Ok _) g after says fits =
    let fields = groups_fields (record { verdict = Accepted; groups = g; buffer = after }) in
    let fit : Fit fields = (fits refl, tt) in
    let r = (accepted-bits fields fit).1 in
    record { verdict = accepted-verdict fields fit; groups = accepted-number fields fit 8 8 r.0; above = r.1 }
groups-by (Err x) g after says fits =
    let s = says x refl in
    record { verdict = refused-verdict x s _; groups = refused-number x s _ 8 8; above = (refused-bits x s _).1.1.1 }

count_by :
    {b : Board} (v : Verdict) (g w t : ℕ) → Saying b v → (v ≡ Accepted → (g < 2 ^ 8) × (w < 2 ^ 8) × (t < 2 ^ 16)) →
    CountRead (record { verdict = v; groups = unless v g 0; width = unless v w 0; total = unless v t 0 })
unfolding count_outcome
count_by (Ok _) g w t says fits =
    let fields = count_fields (record { verdict = Accepted; groups = g; width = w; total = t }) in
    let l = fits refl in
    let fit : Fit fields = (l.0, (l.1, (l.2, tt))) in
    let r = (accepted-bits fields fit).1 in
    record {
      verdict = accepted-verdict fields fit;
      groups = accepted-number fields fit 8 8 r.0;
      width = accepted-number fields fit 16 8 r.1.0;
      total = accepted-number fields fit 24 16 r.1.1.0;
      above = r.1.1.1;
    }
count_by (Err x) g w t says fits =
    let s = says x refl in
    let none = refused-number x s _ in
    record { verdict = refused-verdict x s _; groups = none 8 8; width = none 16 8; total = none 24 16; above = (refused-bits x s _).1.1.1 }

vector-by : {b : Board} (v : Verdict) (g : ℕ) (after : List ℕ) → Saying b v → (v ≡ Accepted → g < 2 ^ 8) → VectorRead (record { verdict = v; group = unless v g 0; buffer = after })
unfolding vector_outcome
vector-by (Ok _) g after says fits =
    let fields = vector_fields (record { verdict = Accepted; group = g; buffer = after }) in
    let fit : Fit fields = (fits refl, tt) in
    let r = (accepted-bits fields fit).1 in
    record { verdict = accepted-verdict fields fit; group = accepted-number fields fit 8 8 r.0; above = r.1 }
vector-by (Err x) g after says fits =
    let s = says x refl in
    record { verdict = refused-verdict x s _; group = refused-number x s _ 8 8; above = (refused-bits x s _).1.1.1 }

marks-by :
    {b : Board} (v : Verdict) (p f u : ℕ) (after : List ℕ) → Saying b v → (v ≡ Accepted → (p < 2 ^ 16) × (f < 2 ^ 16) × (u < 2 ^ 16)) →
    MarksRead (record { verdict = v; pass = unless v p 0; fail = unless v f 0; unsure = unless v u 0; buffer = after })
unfolding marks_outcome
marks-by (Ok _) p f u after says fits =
    let fields = marks_fields (record { verdict = Accepted; pass = p; fail = f; unsure = u; buffer = after }) in
    let l = fits refl in
    let fit : Fit fields = (l.0, (l.1, (l.2, tt))) in
    let r = (accepted-bits fields fit).1 in
    record {
      verdict = accepted-verdict fields fit;
      pass = accepted-number fields fit 8 16 r.0;
      fail = accepted-number fields fit 24 16 r.1.0;
      unsure = accepted-number fields fit 40 16 r.1.1.0;
      above = r.1.1.1;
    }
marks-by (Err x) p f u after says fits =
    let s = says x refl in
    let none = refused-number x s _ in
    record { verdict = refused-verdict x s _; pass = none 8 16; fail = none 24 16; unsure = none 40 16; above = (refused-bits x s _).1.1.1 }

-- Theorem 13: so it is for every input
pub groups-read : (file buffer : List ℕ) → GroupsRead (groups_answer file buffer)
unfolding groups_answer
groups-read file buffer = groups-by _ _ _ (λ r e. record { says = groups-refusal file buffer r e; positive = groups-number file buffer r e }) (λ e. groups-fit file (count-before-groups file buffer e))

pub count-read : (file : List ℕ) → CountRead (count_answer file)
unfolding count_answer
count-read file = count_by _ _ _ _ (λ r e. record { says = count-refusal file r e; positive = count-number file r e }) (λ e. (groups-fit file e, width_fits file e, total-fits file e))

pub vector-read : (file : List ℕ) (number : ℕ) (buffer : List ℕ) → VectorRead (vector_answer file number buffer)
unfolding vector_answer
vector-read file number buffer =
    vector-by _ _ _ (λ r e. record { says = vector-refusal file number buffer r e; positive = vector-number file number buffer r e })
    (λ e. group-fits file (count-before-vector file number buffer e) number (number-below file number buffer e))

pub marks-read : (file capture buffer : List ℕ) → MarksRead (marks_answer file capture buffer)
unfolding marks_answer
marks-read file capture buffer =
    marks-by _ _ _ _ _ (λ r e. record { says = marks-refusal file capture buffer r e; positive = marks-number file capture buffer r e })
    (λ e. let fits = counts-fit file (count-before-marks file capture buffer e) in (fits is_pass capture, fits is_fail capture, fits is_unsure capture))
