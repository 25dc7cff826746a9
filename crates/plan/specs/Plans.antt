-- The base vectors of a plan's four numbers, and one round of their patterns. Assumes nothing.
use Rattle.std.specs.Prelude.{ℕ, zero, suc, ◌+◌, ◌*◌, ◌-◌, ◌/◌, ◌%◌, ◌≤◌, ◌<◌, ◌≡◌, Bool, cond, length}
use Rattle.base.specs.Digits.{bit, ceil}
use Rattle.base.specs.Counting.{count, among}
use Rattle.rules.specs.Vectors.{Bases, code_bit, changes, between}
use Rattle.rules.specs.declared.Step.{Step}
use Rattle.rules.specs.declared.Step.TheVariants.{Base, Inserted}
use Rattle.words.specs.Sets.{net_words, unlike, up_to}
use Rattle.plan.specs.Bounds.{Bounded}
use Rattle.plan.specs.declared.numbers.Plan.{Plan}
use Rattle.base.specs.Weave.{weave}

-- the base vectors of a board whose N, p, G and SSOL are the plan's
unfoldable pub bases_for : Plan → Bases
bases_for p =
    record { nets = p.nets; size = p.groups * p.wide; group = λ i. suc (i / p.wide); value = λ i. up_to p.nets (code_bit p.wide (i % p.wide)); limit = p.limit }

-- the base vectors that four numbers N, p, G and SSOL make, small or not: those of a plan are `bases_for`
abbrev pub bases_by : ℕ → ℕ → ℕ → ℕ → Bases
bases_by n p g ssol = record { nets = n; size = g * p; group = λ i. suc (i / p); value = λ i. up_to n (code_bit p (i % p)); limit = ssol }

-- a word has the digits of f from 64 * w on
pub record WordOf (f : ℕ → Bool) (w word : ℕ) : Type 0 where
  pub digits : (k : ℕ) → k < 64 → bit word k ≡ f (64 * w + k)

-- the bounds of a plan's numbers: true of every plan, by its type
abbrev pub Small : Plan → Type 0
Small p = Bounded p.nets p.wide p.groups p.limit

-- the step stands in the plan's base vectors, and its number among the inserted ones is no larger than the number of nets
abbrev pub Within : Plan → Step → Type 0
Within p (Base i) = i < p.groups * p.wide
Within p (Inserted i t) = (i < p.groups * p.wide) × (t ≤ 64 * net_words)

-- the vectors inserted between two base vectors of these values
unfoldable pub inserted_between : (ℕ → Bool) → (ℕ → Bool) → ℕ → ℕ
inserted_between old new limit = ceil (count (64 * net_words) (unlike old new)) limit - 1

-- the vectors inserted after base vector i where another follows
unfoldable pub full_after : Plan → ℕ → ℕ
full_after p i = ceil (changes (bases_for p) i) p.limit - 1

-- where base vector i then stands: behind every earlier one and those inserted after it
unfoldable pub full_start : Plan → ℕ → ℕ
full_start p zero = 0
full_start p (suc i) = full_start p i + suc (full_after p i)

-- the vectors of one round of the patterns, with those inserted before the next round's first
unfoldable pub round_of : Plan → ℕ
round_of p = full_start p p.wide

-- the new value at the k lowest of the differing nets, the old elsewhere
unfoldable pub mix : ℕ → (ℕ → Bool) → (ℕ → Bool) → ℕ → Bool
mix k old new m = cond (among k (unlike old new) m) (new m) (old m)

-- where base vector i stands in the plan
unfoldable pub start_of : Plan → ℕ → ℕ
start_of plan i = length (weave Base (between (bases_for plan)) i)
