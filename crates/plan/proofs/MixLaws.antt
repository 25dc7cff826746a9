-- What a step's case tells of it, and a set of differing nets that change sides.
use Prim.Native.Nat.{ℕ, zero, suc, ◌+◌, ◌*◌, ◌/◌, ◌≤◌, ◌<◌}
use mathlib.Core.Path.{◌≡◌, refl, ◌∙◌, ap, ap₂, fun_ext}
use mathlib.Core.Logic.{◌⊎◌, ⊎_elim}
use mathlib.Core.Bool.{Bool, true, false, cond, xor, ◌&&◌, and-false}
use native.Mathlib.Nat.{zero-mul, le_trans, mul-le-mul_left, mul-le-mul_right}
use native.Mathlib.Omega.{arith}
use borrow.Author.Tests.{le-ltb}
use lib.Dec.{ltb}
use lib.ListN.{length, get_or}
use Rattle.base.specs.Counting.{count, among}
use Rattle.base.specs.Lists.{table}
use Rattle.base.proofs.ListLaws.{length-table, table_at}
use Rattle.base.proofs.WeaveLaws.{weave-each}
use Rattle.rules.specs.File.{most_number}
use Rattle.rules.specs.Vectors.{differs, inserted_after, between, steps_of, vector_of}
use Rattle.rules.specs.declared.Step.{Step}
use Rattle.rules.specs.declared.Step.TheVariants.{Base, Inserted}
use Rattle.words.specs.Sets.{net_words, unlike}
use Rattle.plan.specs.declared.numbers.Plan.{Plan}
use Rattle.plan.specs.Plans.{bases_for, mix, Within, start_of}
use Rattle.plan.proofs.StepLaws.{size, extra-bounded, step-base, step-inserted}

-- a net that differs and changes sides has its new value, another keeps its old
mixed : (a b l : Bool) → xor a (xor a b && l) ≡ cond (xor a b && l) b a
unfolding xor
mixed true true l = refl
mixed true false true = refl
mixed true false false = refl
mixed false true true = refl
mixed false true false = refl
mixed false false l = refl

pub mixed-nets : (k : ℕ) (old new : ℕ → Bool) → unlike old (among k (unlike old new)) ≡ mix k old new
unfolding among mix
mixed-nets k old new = fun_ext (λ m. mixed (old m) (new m) (ltb (count m (unlike old new)) k))

-- the t-th inserted vector's values, and none changed at first
pub mix-inserted :
    (p : Plan) (i t : ℕ) (old new f : ℕ → Bool) →
    old ≡ (bases_for p).value i →
    new ≡ (bases_for p).value (i + 1) →
    f ≡ mix (t * p.limit) old new →
    f ≡ (vector_of (bases_for p) (Inserted i t)).value
unfolding vector_of differs bases_for mix
mix-inserted p i t old new f e h m = m ∙ ap₂ (mix (t * p.limit)) e h

pub mix-none : (old new : ℕ → Bool) → mix 0 old new ≡ old
unfolding mix among
mix-none old new = fun_ext (λ m. rw (le-ltb (count m (unlike old new)) 0 (omega arith), and-false (unlike old new m)))

-- the nets that have changed sides are a small number
pub changed-bounded : (p : Plan) (k : ℕ) → k ≤ 64 * net_words → k * p.limit ≤ 64 * net_words * most_number
changed-bounded p k l = le_trans (mul-le-mul_right p.limit l) (mul-le-mul_left (64 * net_words) p.small.limit-bounded)

-- the group of base vector i, which those inserted after it have too
pub group-is : (p : Plan) (i : ℕ) (step : Step) → (step ≡ Base i) ⊎ ((t : ℕ) × (step ≡ Inserted i t)) → 1 + i / p.wide ≡ (vector_of (bases_for p) step).group
unfolding vector_of bases_for
group-is p i step h = ⊎_elim (λ (e : step ≡ Base i). rw e (omega arith)) (λ (r : (t : ℕ) × (step ≡ Inserted i t)). rw r.1 (omega arith)) h

-- every step of a plan stands within it
pub steps-within : (p : Plan) → (t : ℕ) → t < length (steps_of (bases_for p)) → Within p (get_or (steps_of (bases_for p)) t (Base 0))
unfolding steps_of bases_for between
steps-within p =
    weave-each Base (between (bases_for p)) (p.groups * p.wide) (Base 0) (Within p)
    (λ b l. l)
    (λ b l k h. inside b l k (rw (length-table (inserted_after (bases_for p) b) (λ t. Inserted b (t + 1))) at h))
  where
    inside : (b : ℕ) → b < p.groups * p.wide → (k : ℕ) → k < inserted_after (bases_for p) b → Within p (get_or (table (inserted_after (bases_for p) b) (λ t. Inserted b (t + 1))) k (Base 0))
    inside b l k h = rw (table_at (inserted_after (bases_for p) b) (λ t. Inserted b (t + 1)) (Base 0) h) (l, let e = extra-bounded p b in omega arith)

-- the values of the k-th vector of part i, the base vector being the 0th
pub value-at :
    (p : Plan) (t i k : ℕ) (old new f : ℕ → Bool) →
    i < size p →
    start_of p i + k ≡ t →
    k ≤ inserted_after (bases_for p) i →
    old ≡ (bases_for p).value i →
    new ≡ (bases_for p).value (i + 1) →
    f ≡ mix (k * p.limit) old new →
    f ≡ (vector_of (bases_for p) (get_or (steps_of (bases_for p)) t (Base 0))).value
unfolding vector_of
value-at p t i zero old new f l e h o n m =
    m
    ∙ ap (λ (x : ℕ). mix x old new) (zero-mul p.limit)
    ∙ mix-none old new
    ∙ o
    ∙ ap (λ (s : Step). (vector_of (bases_for p) s).value) (step-base p t i 0 l e refl)
value-at p t i (suc k) old new f l e h o n m =
    mix-inserted p i (suc k) old new f o n m
    ∙ ap (λ (s : Step). (vector_of (bases_for p) s).value) (step-inserted p t i (suc k) l e (λ z. omega arith) h)
