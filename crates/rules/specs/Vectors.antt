-- "Codes and vectors": the code's width and bits, the base vectors, those inserted between them, the plan, and a vector's row. Assumes nothing.
use Rattle.std.specs.Prelude.{ℕ, suc, ◌+◌, ◌*◌, ◌-◌, ◌/◌, ◌%◌, ◌^◌, Bool, true, false, cond, not, ◌&&◌, List, ltb, leb, length, get_or}
use Rattle.std.specs.Bool.{xor}
use Rattle.base.specs.Digits.{bit, ceil}
use Rattle.base.specs.Counting.{count, among}
use Rattle.base.specs.Tests.{least}
use Rattle.base.specs.Lists.{table}
use Rattle.base.specs.Weave.{weave}
use Rattle.rules.specs.Rows.{row_of}
use Rattle.rules.specs.File.{Board}
use Rattle.rules.specs.Drivers.{groups_of}
use Rattle.rules.specs.Groups.{on_in}
use Rattle.rules.specs.declared.Cell.{Cell}
use Rattle.rules.specs.declared.Cell.TheVariants.{Internal, Input, Control, ThreeState, TwoState, OpenDrain}
use Rattle.rules.specs.declared.Step.{Step}
use Rattle.rules.specs.declared.Step.TheVariants.{Base, Inserted}

-- "p is the least number with 2^p at least N + 2"
unfoldable pub code_width : ℕ → ℕ
code_width nets = least (nets + 2) (λ p. leb (nets + 2) (2 ^ p))

-- "Net i has code i + 1 in p bits; pattern 1 is the most significant bit": net m's bit in pattern j + 1 of p
unfoldable pub code_bit : ℕ → ℕ → ℕ → Bool
code_bit p j m = bit (m + 1) (p - (j + 1))

-- the code's width for a board
unfoldable pub width_of : Board → ℕ
width_of b = code_width b.nets

-- all that the weaving of vectors sees: the nets, the base vectors with their groups and net values, and the switching limit
pub record Bases : Type 0 where
  pub nets : ℕ
  pub size : ℕ
  pub group : ℕ → ℕ
  pub value : ℕ → ℕ → Bool
  pub limit : ℕ

-- the pattern that base vector i applies, from 0: "Each group applies patterns 1 to p in order"
unfoldable pub pattern_of : Board → ℕ → ℕ
pattern_of b i = i % width_of b

-- "so there are G × p base vectors"; a net's value is cut at N, so that a set of words is fixed by it
unfoldable pub bases_of : Board → Bases
bases_of b =
    record { nets = b.nets; size = groups_of b * width_of b; group = λ i. suc (i / width_of b); value = λ i m. ltb m b.nets && code_bit (width_of b) (pattern_of b i) m; limit = b.limit }

-- net m differs between base vector i and the next
unfoldable pub differs : Bases → ℕ → ℕ → Bool
differs s i m = xor (s.value i m) (s.value (i + 1) m)

-- h: "Between neighbours with h nets different, also across a group's end"
unfoldable pub changes : Bases → ℕ → ℕ
changes s i = count s.nets (differs s i)

-- "ceil(h / SSOL) - 1 vectors are inserted (none for h = 0)"; after the last base vector none
unfoldable pub inserted_after : Bases → ℕ → ℕ
inserted_after s i = cond (ltb (i + 1) s.size) (ceil (changes s i) s.limit - 1) 0

unfoldable pub between : Bases → ℕ → List Step
between s i = table (inserted_after s i) (λ t. Inserted i (t + 1))

unfoldable pub steps_of : Bases → List Step
steps_of s = weave Base (between s) s.size

-- a vector: which group's drivers are on, and each net's value
pub record Vector : Type 0 where
  pub group : ℕ
  pub value : ℕ → Bool

-- "The t-th takes the new value at the t × SSOL lowest-numbered differing nets and the old elsewhere, with the earlier group's drivers on"
unfoldable pub vector_of : Bases → Step → Vector
vector_of s (Base i) = record { group = s.group i; value = s.value i }
vector_of s (Inserted i t) =
    record { group = s.group i; value = λ m. cond (among (t * s.limit) (differs s i) m) (s.value (i + 1) m) (s.value i m) }

-- the board's plan: its vectors in order
unfoldable pub plan_of : Board → List Step
plan_of b = steps_of (bases_of b)

-- "the total"
unfoldable pub total_of : Board → ℕ
total_of b = length (plan_of b)

-- vector t of the plan, from 0
unfoldable pub vector_at : Board → ℕ → Vector
vector_at b t = vector_of (bases_of b) (get_or (plan_of b) t (Base 0))

-- "a control cell has its on value when on, else the other; an output has its net's value, on or not; inputs and internal cells 0"; an
-- open-drain output "in its turn .. is loaded with the net's value, otherwise with 1" (request [3])
unfoldable pub cell_bit : Board → Vector → ℕ → Cell → Bool
cell_bit b v c Internal = false
cell_bit b v c (Input n) = false
cell_bit b v c (Control on) = cond (on_in b v.group c) on (not on)
cell_bit b v c (ThreeState k n) = v.value n.0
cell_bit b v c (TwoState n) = v.value n.0
cell_bit b v c (OpenDrain n) = cond (on_in b v.group c) (v.value n.0) true

-- "A vector's row, in the groups' bit order with spare bits 0"
unfoldable pub vector_row : Board → Vector → List ℕ
vector_row b v = row_of b.size (λ c. cell_bit b v c (b.cell c))
