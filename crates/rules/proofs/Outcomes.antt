-- Theorem 9, one outcome: for each question, two outcomes that meet its answer on the same input are equal. The idea: the answer is a
-- function of the input, and what meets it is that function's value, in its 64 bits and in every byte of its buffer. And the bits give the
-- numbers back: the first field is the lowest bits, and the rest are the bits above it.
use Prim.Native.Nat.{ℕ, ◌/◌, ◌%◌, ◌^◌, ◌<◌}
use mathlib.Core.Path.{◌≡◌, sym, ◌∙◌}
use mathlib.Core.List.{List, ◌∷◌}
use native.Mathlib.Nat.{add-mul-mod_self_left, add-mul-div_left, mod-eq_of_lt, div-eq_of_lt, zero-add}
use lib.Pow.{pow_pos}
use Rattle.rules.specs.Answers.{Outcome, Field, pack, groups_answer, groups_outcome, count_answer, count_outcome, vector_answer, vector_outcome, marks_answer, marks_outcome}

-- what a call did meets what is said of it: the 64 bits are those, and so is each byte of the buffer afterwards
pub record Meets (said did : Outcome) : Type 0 where
  pub bits_are : did.bits ≡ said.bits
  pub buffer-is : did.buffer ≡ said.buffer

-- one outcome: any two that meet what is said are equal
abbrev pub Once : Outcome → Type 0
Once said = (did did' : Outcome) → Meets said did → Meets said did' → did ≡ did'

once : (said : Outcome) → Once said
once said did did' m m' =
    λ i. record { bits = (m.bits_are ∙ sym m'.bits_are) i; buffer = (m.buffer-is ∙ sym m'.buffer-is) i }

pub groups-once : (file buffer : List ℕ) → Once (groups_outcome (groups_answer file buffer))
groups-once file buffer = once _

pub count-once : (file : List ℕ) → Once (count_outcome (count_answer file))
count-once file = once _

pub vector-once : (file : List ℕ) (number : ℕ) (buffer : List ℕ) → Once (vector_outcome (vector_answer file number buffer))
vector-once file number buffer = once _

pub marks-once : (file capture buffer : List ℕ) → Once (marks_outcome (marks_answer file capture buffer))
marks-once file capture buffer = once _

-- a field that fits its width is read off again, and so is what stands above it
pub pack-first : (f : Field) (fs : List Field) → f.value < 2 ^ f.width → pack (f ∷ fs) % 2 ^ f.width ≡ f.value
unfolding pack
pack-first f fs h = add-mul-mod_self_left f.value (2 ^ f.width) (pack fs) ∙ mod-eq_of_lt h

pub pack-rest : (f : Field) (fs : List Field) → f.value < 2 ^ f.width → pack (f ∷ fs) / 2 ^ f.width ≡ pack fs
unfolding pack
pack-rest f fs h =
    add-mul-div_left f.value (pack fs) (pow_pos f.width) ∙ rw (div-eq_of_lt h, zero-add)
