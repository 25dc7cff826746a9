-- Two neighbouring vectors of a plan differ in at most SSOL nets.
-- The idea: between base vector i and the next the values go by stages. Stage j has the new value at the j × SSOL lowest differing nets and
-- the old elsewhere: stage 0 is base i, stage t the t-th inserted vector, and the stage after the last inserted one is base i + 1, for by
-- then no differing net is left. From one stage to the next only nets change that are among the lowest (j + 1) × SSOL and not among the
-- lowest j × SSOL, and of those there are at most SSOL.
use Prim.Native.Nat.{ℕ, zero, suc, ◌+◌, ◌*◌, ◌-◌, ◌≤◌, ◌<◌}
use mathlib.Core.Path.{◌≡◌, refl, ◌∙◌, ap, fun_ext}
use mathlib.Core.Bool.{Bool, true, false, cond, xor, false≢true}
use mathlib.Core.List.{◌∷◌}
use native.Mathlib.Nat.{suc-mul, zero-mul, mul-le-mul_right}
use native.Mathlib.Numerals.{add-one}
use native.Mathlib.Omega.{arith}
use borrow.Author.Tests.{lt-ltb}
use lib.ListN.{length, get_or}
use Rattle.base.specs.Tests.{digit}
use Rattle.base.specs.Counting.{count, among}
use Rattle.base.specs.Digits.{ceil}
use Rattle.base.proofs.CountingLaws.{count_same, count-among, among-all, among-more, among_none, count-apart}
use Rattle.base.proofs.ListLaws.{length-table, table_at}
use Rattle.base.proofs.DigitLaws.{ceil-covers}
use Rattle.base.proofs.WeaveLaws.{weave-neighbours}
use Rattle.rules.specs.File.{Board}
use Rattle.rules.specs.Vectors.{Bases, bases_of, differs, changes, inserted_after, between, steps_of, vector_of, plan_of, total_of, vector_at}
use Rattle.rules.specs.declared.Step.{Step}
use Rattle.rules.specs.declared.Step.TheVariants.{Base, Inserted}

-- net m's value at stage j after base vector i
stage_value : Bases → ℕ → ℕ → ℕ → Bool
stage_value s i j m = cond (among (j * s.limit) (differs s i) m) (s.value (i + 1) m) (s.value i m)

-- a net differs between two stages only where it is among the second's lowest (c) and not among the first's (a)
switch : (a c new old : Bool) → (a ≡ true → c ≡ true) → digit (xor (cond a new old) (cond c new old)) + digit a ≤ digit c
unfolding xor
switch true false new old h = absurd (false≢true (h refl))
switch true true true old h = omega arith
switch true true false old h = omega arith
switch false false new true h = omega arith
switch false false new false h = omega arith
switch false true true true h = omega arith
switch false true true false h = omega arith
switch false true false true h = omega arith
switch false true false false h = omega arith

-- from one stage to the next at most SSOL nets change
stages-within : (s : Bases) (i j : ℕ) → count s.nets (λ m. xor (stage_value s i j m) (stage_value s i (suc j) m)) ≤ s.limit
unfolding stage_value
stages-within s i j =
    let d = differs s i in
    let changed = j * s.limit in
    let changed-next = suc j * s.limit in
    let h =
    count-apart s.nets (λ m. xor (stage_value s i j m) (stage_value s i (suc j) m)) (among changed d) (among changed-next d)
    (λ m l. switch (among changed d m) (among changed-next d m) _ _ (among-more d (omega (arith, suc-mul j s.limit)) m)) in
    omega (arith, count-among s.nets changed d, count-among s.nets changed-next d, suc-mul j s.limit)

-- each vector from base i up to the next is a stage
stage_at : (s : Bases) (i : ℕ) (d : Step) (k : ℕ) → k ≤ length (between s i) → (vector_of s (get_or (Base i ∷ between s i) k d)).value ≡ stage_value s i k
unfolding stage_value vector_of between
stage_at s i d zero h = fun_ext (λ m. rw (zero-mul s.limit, among_none (differs s i) m))
stage_at s i d (suc k) h = rw (table_at (inserted_after s i) _ d (rw (length-table (inserted_after s i) (λ t. Inserted i (t + 1))) at h), add-one k)

-- the new value where the two differ, else the old, is the new
take-new : (old new : Bool) → new ≡ cond (xor old new) new old
unfolding xor
take-new true true = refl
take-new true false = refl
take-new false true = refl
take-new false false = refl

-- by the stage after the last inserted vector no differing net is left
stages-enough : (s : Bases) (i : ℕ) → 0 < s.limit → i + 1 < s.size → changes s i ≤ suc (length (between s i)) * s.limit
unfolding between inserted_after
stages-enough s i p h =
    let c = ceil (changes s i) s.limit in
    let e : length (between s i) ≡ c - 1 = length-table _ _ ∙ rw (lt-ltb (i + 1) s.size h) in
    let more : c ≤ suc (length (between s i)) = omega arith in
    omega (arith, ceil-covers (changes s i) s.limit p, mul-le-mul_right s.limit more)

-- so that stage is the next base vector
stage-last : (s : Bases) (i : ℕ) → 0 < s.limit → i + 1 < s.size → (m : ℕ) → m < s.nets → (vector_of s (Base (i + 1))).value m ≡ stage_value s i (suc (length (between s i))) m
unfolding stage_value vector_of changes differs
stage-last s i p h m l =
    rw (among-all s.nets (suc (length (between s i)) * s.limit) (differs s i) (stages-enough s i p h) l) (take-new (s.value i m) (s.value (i + 1) m))

-- two neighbouring vectors of a plan differ in at most SSOL nets
pub neighbours-within :
    (s : Bases) → 0 < s.limit → (t : ℕ) → t + 1 < length (steps_of s) →
    count s.nets (λ m. xor ((vector_of s (get_or (steps_of s) t (Base 0))).value m) ((vector_of s (get_or (steps_of s) (t + 1) (Base 0))).value m)) ≤ s.limit
unfolding steps_of
neighbours-within s p =
    weave-neighbours Base (between s) s.size (Base 0) (λ a c. count s.nets (λ m. xor ((vector_of s a).value m) ((vector_of s c).value m)) ≤ s.limit)
    (λ i l k h. rw (stage_at s i (Base 0) k (omega arith), stage_at s i (Base 0) (suc k) h) (stages-within s i k))
    (λ i l. let k = length (between s i) in
    let last = count_same s.nets _ _ (λ m q. ap (xor (stage_value s i k m)) (stage-last s i p l m q)) in
    rw (stage_at s i (Base 0) k (omega arith), last) (stages-within s i k))

-- and so on any board
pub limit-kept : (b : Board) → 0 < b.limit → (t : ℕ) → t + 1 < total_of b → count b.nets (λ m. xor ((vector_at b t).value m) ((vector_at b (t + 1)).value m)) ≤ b.limit
unfolding total_of vector_at plan_of bases_of
limit-kept b = neighbours-within (bases_of b)
