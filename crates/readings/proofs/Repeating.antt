-- Why a cell need not be compared with its net in every vector: the values repeat from group to group, and between two base vectors each net changes at most once.
use Prim.Native.Nat.{ℕ, zero, suc, ◌+◌, ◌*◌, ◌-◌, ◌/◌, ◌%◌, ◌^◌, ◌≤◌, ◌<◌}
use mathlib.Core.Path.{◌≡◌, refl, sym, ◌∙◌, ap, ap₂}
use mathlib.Core.Logic.{◌⊎◌, inl, inr, ⊎_elim}
use mathlib.Core.Bool.{Bool, true, false, cond, not, xor, ◌&&◌, ◌||◌}
use mathlib.Core.List.{List}
use native.Mathlib.Nat.{add-zero, one-mul, div-one, eq-or-lt_of_le, mul-le-mul_right}
use native.Mathlib.Numerals.{add-one}
use native.Mathlib.Omega.{arith}
use borrow.Author.Tests.{lt-ltb, ltb-true}
use lib.Dec.{ltb, eqb}
use lib.ListN.{length, get_or}
use lib.Pow.{shr-shr}
use Rattle.base.specs.Tests.{any, digit}
use Rattle.base.specs.Digits.{bit}
use Rattle.base.specs.Counting.{among}
use Rattle.base.proofs.BoolLaws.{alike, decided, clashes, left, right, fails-not, fails-if, or-neither, below_suc, order}
use Rattle.base.proofs.TestLaws.{any_none, none_any, all-at, all_from}
use Rattle.base.proofs.CountingLaws.{among-more}
use Rattle.rules.specs.Vectors.{code_bit, inserted_after, steps_of, vector_of}
use Rattle.rules.specs.declared.Step.{Step}
use Rattle.rules.specs.Rows.{row_bit}
use Rattle.words.specs.Sets.{unlike}
use Rattle.plan.specs.declared.numbers.Plan.{Plan}
use Rattle.plan.specs.Plans.{bases_for, mix, start_of}
use Rattle.plan.proofs.StepLaws.{size, start-zero, step-base, extra-none}
use Rattle.plan.proofs.RoundLaws as plan
use Rattle.plan.proofs.RoundLaws.{round-below}
use Rattle.readings.specs.Readings.{value_at, off_at, read_below, code_from, period, stray, stray_at, stray_after, stray_in, other_later, lost, Captured, Part}
use Rattle.readings.proofs.CapturePlaces.{starts_none, starts-next, starts-end, part-below, part-value}
use Rattle.readings.proofs.Decoding.{first-value}

-- a part is its base vector and those inserted after it
grows : (p : Plan) (i : ℕ) → start_of p (suc i) ≡ start_of p i + suc (inserted_after (bases_for p) i)
grows p i = rw (← add-one i) (omega (arith, starts-next p i (start_of p i) (inserted_after (bases_for p) i) refl refl))

starts-rise : (p : Plan) (i left : ℕ) → start_of p i ≤ start_of p (i + left)
starts-rise p i zero = rw add-zero (omega arith)
starts-rise p i (suc left) =
    let r = starts-rise p i left in
    let e : i + suc left ≡ suc (i + left) = omega arith in
    rw e (omega (arith, grows p (i + left)))

pub starts-least : (p : Plan) (i k : ℕ) → i ≤ k → start_of p i ≤ start_of p k
starts-least p i k l = let e : k ≡ i + (k - i) = omega arith in rw e (starts-rise p i (k - i))

-- vectors are inserted only where there is a next base vector
pub next-below : (p : Plan) (i : ℕ) → 0 < inserted_after (bases_for p) i → suc i < size p
next-below p i z =
    ⊎_elim
    (λ (q : suc i < size p). q)
    (λ (q : size p ≤ suc i). absurd (omega (arith, extra-none p i (omega arith))))
    (order (suc i) (size p))

-- base vector i of the plan is at start_of p i, with its values
pub base-value : (p : Plan) (i : ℕ) → i < p.groups * p.wide → value_at p (start_of p i) ≡ (bases_for p).value i
unfolding value_at vector_of
base-value p i l =
    ap (λ (x : Step). (vector_of (bases_for p) x).value) (sym (step-base p (start_of p i) i 0 l (omega arith) refl))

-- and the k-th vector of its part has those of the next at the lowest of the nets that change
value_in :
    (p : Plan) (i k : ℕ) →
    i < size p →
    k ≤ inserted_after (bases_for p) i →
    value_at p (start_of p i + k) ≡ mix (k * p.limit) ((bases_for p).value i) ((bases_for p).value (suc i))
value_in p i k l h =
    let own : Part p i (inserted_after (bases_for p) i) (start_of p i) = record { below = l; extra-is = refl; start_is = refl } in
    let next = ap (bases_for p).value (sym (add-one i)) in
    sym (part-value p i _ _ k ((bases_for p).value i) ((bases_for p).value (suc i)) _ own (omega arith) refl next refl)

-- a group later the base vectors have the same values, so as many vectors follow them, and the parts start as far apart
base-repeats : (p : Plan) (i : ℕ) → (bases_for p).value (p.wide + i) ≡ (bases_for p).value i
base-repeats p i = rw one-mul at (plan.base-turns p 1 i)

base-repeats-next : (p : Plan) (i : ℕ) → (bases_for p).value (suc (p.wide + i)) ≡ (bases_for p).value (suc i)
base-repeats-next p i =
    let e : suc (p.wide + i) ≡ p.wide + suc i = omega arith in
    ap (bases_for p).value e ∙ base-repeats p (suc i)

extra-least : (p : Plan) (i : ℕ) → inserted_after (bases_for p) (p.wide + i) ≤ inserted_after (bases_for p) i
extra-least p i =
    ⊎_elim
    (λ (l : p.wide + i + 1 < size p). omega (arith, plan.extra-repeats p i l))
    (λ (l : size p ≤ p.wide + i + 1). omega (arith, extra-none p (p.wide + i) l))
    (order (p.wide + i + 1) (size p))

start-repeats : (p : Plan) (i : ℕ) → p.wide + i < size p → start_of p (p.wide + i) ≡ period p + start_of p i
unfolding period
start-repeats p i l =
    let first = plan.start-repeats p 0 (omega arith) in
    let z : p.wide + 0 ≡ p.wide = add-zero p.wide in
    omega (arith, plan.start-repeats p i l, ap (start_of p) z, start-zero p)

-- from period on the values are those of the first group once more
pub value-repeats : (p : Plan) (u : ℕ) → period p + u < length (steps_of (bases_for p)) → value_at p (period p + u) ≡ value_at p u
unfolding period
value-repeats p u l =
    let f = plan.locate p (size p) (period p + u) (omega (arith, starts-end p (size p) (start_of p (size p)) refl refl)) in
    go f.0 f.1 f.2 f.3 f.4 (later f.0 f.2 f.3 f.4)
  where
    later : (i j : ℕ) → j ≤ inserted_after (bases_for p) i → period p + u ≡ start_of p i + j → p.wide ≤ i
    later i j h e =
        ⊎_elim
        (λ (q : i < p.wide). absurd (omega (arith, grows p i, starts-least p (suc i) p.wide q)))
        (λ (q : p.wide ≤ i). q)
        (order i p.wide)

    at :
        (i j : ℕ) →
        p.wide + i < size p →
        j ≤ inserted_after (bases_for p) (p.wide + i) →
        period p + u ≡ start_of p (p.wide + i) + j →
        value_at p (period p + u) ≡ value_at p u
    at i j m h e =
        let q : u ≡ start_of p i + j = omega (arith, start-repeats p i m) in
        let x = extra-least p i in
        ap (value_at p) e
        ∙ value_in p (p.wide + i) j m h
        ∙ ap₂ (mix (j * p.limit)) (base-repeats p i) (base-repeats-next p i)
        ∙ sym (value_in p i j (omega arith) (omega arith))
        ∙ sym (ap (value_at p) q)

    go :
        (i : ℕ) →
        i < size p →
        (j : ℕ) →
        j ≤ inserted_after (bases_for p) i →
        period p + u ≡ start_of p i + j →
        p.wide ≤ i →
        value_at p (period p + u) ≡ value_at p u
    go i m j h e w =
        let q : i ≡ p.wide + (i - p.wide) = omega arith in
        at (i - p.wide) j (omega arith) (rw q at h) (rw q at e)

-- the reading's digits: what is put behind a number is its lowest digit, and the others stand one higher
bit-put : (x : ℕ) (a : Bool) → bit (2 * x + digit a) 0 ≡ a
unfolding bit
bit-put x true = let e : (2 * x + 1) % 2 ≡ 1 = omega arith in rw (div-one (2 * x + 1), e)
bit-put x false = let e : (2 * x + 0) % 2 ≡ 0 = omega arith in rw (div-one (2 * x + 0), e)

put-half : (x : ℕ) (a : Bool) → (2 * x + digit a) / 2 ≡ x
put-half x true = omega arith
put-half x false = omega arith

bit-over : (x k : ℕ) (a : Bool) → bit (2 * x + digit a) (suc k) ≡ bit x k
unfolding bit
bit-over x k a =
    let w : ℕ = 2 * x + digit a in
    let e : w / 2 ^ suc k ≡ w / 2 / 2 ^ k = sym (shr-shr w 1 k ∙ ap (λ (y : ℕ). w / 2 ^ y) (let f : 1 + k ≡ suc k = omega arith in f)) in
    ap (λ (y : ℕ). eqb (y % 2) 1) (e ∙ ap (λ (y : ℕ). y / 2 ^ k) (put-half x a))

code-bits :
    (p : Plan) (bytes : ℕ) (capture : List ℕ) (c k j : ℕ) →
    j < k →
    bit (code_from p bytes capture k c 0) (k - suc j) ≡ row_bit capture (start_of p j * bytes) c
unfolding code_from
code-bits p bytes capture c zero j l = absurd (omega arith)
code-bits p bytes capture c (suc k) j l =
    let code : ℕ = code_from p bytes capture k c 0 in
    let read : Bool = row_bit capture (start_of p k * bytes) c in
    ⊎_elim
    (λ (q : j ≡ k). let z : suc k - suc j ≡ 0 = omega arith in rw (z, q) (bit-put code read))
    (λ (q : j < k). let z : suc k - suc j ≡ suc (k - suc j) = omega arith in rw z (bit-over code (k - suc j) read ∙ code-bits p bytes capture c k j q))
    (below_suc l)

-- a cell with net n's code reads the net's value in the first group's base vectors
code-right :
    (p : Plan) (bytes : ℕ) (capture : List ℕ) (n c j : ℕ) →
    n < p.nets →
    code_from p bytes capture p.wide c 0 ≡ suc n →
    j < p.wide →
    row_bit capture (start_of p j * bytes) c ≡ value_at p (start_of p j) n
unfolding code_bit
code-right p bytes capture n c j m e l =
    sym (code-bits p bytes capture c p.wide j l)
    ∙ ap₂ bit (e ∙ sym (add-one n)) (ap (λ (k : ℕ). p.wide - k) (sym (add-one j)))
    ∙ sym (first-value p j n l m)

-- what no step of a stretch changes is the same at its ends
level : (r : ℕ → Bool) (k left : ℕ) → ((j : ℕ) → k ≤ j → j < k + left → r j ≡ r (suc j)) → r k ≡ r (k + left)
level r k zero h = rw add-zero
level r k (suc left) h =
    level r k left (λ j a b. h j a (omega arith))
    ∙ h (k + left) (omega arith) (omega arith)
    ∙ ap r (let e : suc (k + left) ≡ k + suc left = omega arith in e)

-- a value that goes once from old to new, and a reading that changes only where the value does
record Once (r v a : ℕ → Bool) (old new : Bool) (extra : ℕ) : Type 0 where
  values : (j : ℕ) → j ≤ extra → v j ≡ cond (a j) new old
  ends : v (suc extra) ≡ new
  stays : (i j : ℕ) → i ≤ j → a i ≡ true → a j ≡ true
  follows : (j : ℕ) → j ≤ extra → v j ≡ v (suc j) → r j ≡ r (suc j)

-- the reading is right in between if it is so at both ends
module _ (r v a : ℕ → Bool) (old new : Bool) (extra : ℕ) (h : Once r v a old new extra) where
  old-at : (j : ℕ) → j ≤ extra → a j ≡ false → v j ≡ old
  old-at j l e = h.values j l ∙ ap (λ (x : Bool). cond x new old) e

  new-at : (j : ℕ) → j ≤ suc extra → a j ≡ true → v j ≡ new
  new-at j l e =
      ⊎_elim
      (λ (q : j ≡ suc extra). ap v q ∙ h.ends)
      (λ (q : j < suc extra). h.values j (omega arith) ∙ ap (λ (x : Bool). cond x new old) e)
      (eq-or-lt_of_le l)

  once-right : (k : ℕ) → k ≤ extra → r 0 ≡ v 0 → r (suc extra) ≡ v (suc extra) → r k ≡ v k
  once-right k l first last = go (decided (a k))
    where
      go : (a k ≡ true) ⊎ (a k ≡ false) → r k ≡ v k
      go (inl e) =
          let after : (j : ℕ) → k ≤ j → j ≤ suc extra → v j ≡ new = λ j b d. new-at j d (h.stays k j b e) in
          let up : k + (suc extra - k) ≡ suc extra = omega arith in
          level r k (suc extra - k) (λ j b d. h.follows j (omega arith) (after j b (omega arith) ∙ sym (after (suc j) (omega arith) (omega arith))))
          ∙ ap r up
          ∙ last
          ∙ h.ends
          ∙ sym (new-at k (omega arith) e)
      go (inr e) =
          let before : (j : ℕ) → j ≤ k → v j ≡ old = λ j b. old-at j (omega arith) (fails-if (a j) (λ t. clashes (h.stays j k b t) e)) in
          let up : 0 + k ≡ k = omega arith in
          sym (level r 0 k (λ j b d. h.follows j (omega arith) (before j (omega arith) ∙ sym (before (suc j) (omega arith)))) ∙ ap r up)
          ∙ first
          ∙ before 0 (omega arith)
          ∙ sym (before k (omega arith))

-- a reading that is right in the first group's base vectors, follows its net in between, and repeats
record Kept (p : Plan) (n : ℕ) (r : ℕ → Bool) : Type 0 where
  first : (i : ℕ) → i < p.wide → r (start_of p i) ≡ value_at p (start_of p i) n
  follows :
      (i k : ℕ) →
      i < p.wide →
      0 < inserted_after (bases_for p) i →
      k ≤ inserted_after (bases_for p) i →
      value_at p (start_of p i + k) n ≡ value_at p (start_of p i + suc k) n →
      r (start_of p i + k) ≡ r (start_of p i + suc k)
  later : (u : ℕ) → period p + u < length (steps_of (bases_for p)) → r (period p + u) ≡ r u

-- it is right in every vector
module _ (p : Plan) (n : ℕ) (r : ℕ → Bool) (g : Kept p n r) where
  -- so too in the second group's first
  next-right : (i : ℕ) → i ≤ p.wide → i < size p → r (start_of p i) ≡ value_at p (start_of p i) n
  unfolding period
  next-right i l m = ⊎_elim second (g.first i) (eq-or-lt_of_le l)
    where
      second : i ≡ p.wide → r (start_of p i) ≡ value_at p (start_of p i) n
      second e =
          let w = p.small.coded in
          let b : period p + 0 < length (steps_of (bases_for p)) = part-below p p.wide 0 (start_of p p.wide) (omega arith) refl (omega arith) in
          let z : start_of p i ≡ period p + 0 = omega (arith, ap (start_of p) e) in
          rw (z, g.later 0 b, value-repeats p 0 b, starts_none p) (g.first 0 (omega arith))

  -- in each part of the first group
  part_right : (i k : ℕ) → i < p.wide → k ≤ inserted_after (bases_for p) i → r (start_of p i + k) ≡ value_at p (start_of p i + k) n
  unfolding mix
  part_right i k l h =
      ⊎_elim
      inserted
      (λ (z : inserted_after (bases_for p) i ≤ 0). let e : start_of p i + k ≡ start_of p i = omega arith in rw e (g.first i l))
      (order 0 (inserted_after (bases_for p) i))
    where
      inserted : 0 < inserted_after (bases_for p) i → r (start_of p i + k) ≡ value_at p (start_of p i + k) n
      inserted z =
          let m = next-below p i z in
          let old : ℕ → Bool = (bases_for p).value i in
          let new : ℕ → Bool = (bases_for p).value (suc i) in
          once-right
          (λ j. r (start_of p i + j))
          (λ j. value_at p (start_of p i + j) n)
          (λ j. among (j * p.limit) (unlike old new) n)
          (old n) (new n) (inserted_after (bases_for p) i)
          (record {
            values = λ j q. ap (λ (f : ℕ → Bool). f n) (value_in p i j (omega arith) q);
            ends = ap (λ (t : ℕ). value_at p t n) (sym (grows p i)) ∙ ap (λ (f : ℕ → Bool). f n) (base-value p (suc i) m);
            stays = λ x y q e. among-more (unlike old new) (mul-le-mul_right p.limit q) n e;
            follows = λ j q e. g.follows i j l z q e;
          })
          k h
          (rw add-zero (g.first i l))
          (rw (← grows p i) (next-right (suc i) l m))

  period-positive : 1 ≤ period p
  unfolding period
  period-positive = let w = p.small.coded in omega (arith, grows p 0, starts-least p 1 p.wide w)

  -- and in every vector, a period at a time
  below_right : (bound t : ℕ) → t < bound → t < length (steps_of (bases_for p)) → r t ≡ value_at p t n
  unfolding period
  below_right zero t b l = absurd (omega arith)
  below_right (suc bound) t b l = go (λ u m. below_right bound u m) (order t (period p))
    where
      go : ((u : ℕ) → u < bound → u < length (steps_of (bases_for p)) → r u ≡ value_at p u n) → (t < period p) ⊎ (period p ≤ t) → r t ≡ value_at p t n
      go rest (inl q) = let f = plan.locate p p.wide t q in rw f.4 (part_right f.0 f.2 f.1 f.3)
      go rest (inr q) =
          let o = period-positive in
          let e : t ≡ period p + (t - period p) = omega arith in
          let m : period p + (t - period p) < length (steps_of (bases_for p)) = omega arith in
          ap r e
          ∙ g.later (t - period p) m
          ∙ rest (t - period p) (omega arith) (omega arith)
          ∙ sym (ap (λ (f : ℕ → Bool). f n) (value-repeats p (t - period p) m))
          ∙ sym (ap (λ (x : ℕ). value_at p x n) e)

  all_right : (t : ℕ) → t < length (steps_of (bases_for p)) → r t ≡ value_at p t n
  all_right t l = below_right (suc t) t (omega arith) l

-- tests of two readings and two values
not-other : (a b : Bool) → a ≡ b → xor a b ≡ false
unfolding xor
not-other a b e = grind arith

follow : (a b x y : Bool) → (xor a b && not (xor x y)) ≡ false → x ≡ y → a ≡ b
unfolding xor
follow a b x y h e = grind arith

followed : (a b x y : Bool) → a ≡ x → b ≡ y → (xor a b && not (xor x y)) ≡ false
followed a b x y e h = grind arith

and-rest : (a b : Bool) → a ≡ true → (a && b) ≡ false → b ≡ false
and-rest a b e h = grind arith

-- a cell whose entry is net n's strays where its reading changes and the net does not
module _ (p : Plan) (bytes : ℕ) (capture table : List ℕ) (n c : ℕ) (entry : get_or table c 0 ≡ suc n) where
  stray-is :
      (t : ℕ) →
      stray_after p bytes capture table c t
      ≡ (xor (row_bit capture (t * bytes) c) (row_bit capture ((t + 1) * bytes) c) && not (xor (value_at p t n) (value_at p (t + 1) n)))
  unfolding stray_after stray_at stray
  stray-is t =
      let turned : Bool = xor (row_bit capture (t * bytes) c) (row_bit capture ((t + 1) * bytes) c) in
      ap (λ (e : ℕ). turned && stray (unlike (value_at p t) (value_at p (t + 1))) e) entry

  stray-not :
      (i k : ℕ) →
      stray_in p bytes capture table c i ≡ false →
      0 < inserted_after (bases_for p) i →
      k ≤ inserted_after (bases_for p) i →
      value_at p (start_of p i + k) n ≡ value_at p (start_of p i + suc k) n →
      row_bit capture ((start_of p i + k) * bytes) c ≡ row_bit capture ((start_of p i + suc k) * bytes) c
  unfolding stray_in
  stray-not i k h z l e =
      let extra : ℕ = inserted_after (bases_for p) i in
      let at : ℕ = start_of p i + k in
      let t : at + 1 ≡ start_of p i + suc k = omega arith in
      let none = and-rest (ltb 0 extra) _ (lt-ltb 0 extra z) h in
      let one = any_none (1 + extra) (λ k. stray_after p bytes capture table c (start_of p i + k)) none {i = k} (omega arith) in
      follow _ _ (value_at p at n) (value_at p (at + 1) n) (sym (stray-is at) ∙ one) (e ∙ ap (λ (x : ℕ). value_at p x n) (sym t))
      ∙ ap (λ (x : ℕ). row_bit capture (x * bytes) c) t

  not-stray :
      (i : ℕ) →
      i < size p →
      ((t : ℕ) → t < length (steps_of (bases_for p)) → row_bit capture (t * bytes) c ≡ value_at p t n) →
      stray_in p bytes capture table c i ≡ false
  unfolding stray_in
  not-stray i l h =
      let extra : ℕ = inserted_after (bases_for p) i in
      fails-if (stray_in p bytes capture table c i)
      (λ e. clashes (right (ltb 0 extra) e) (none (ltb-true 0 extra (left (ltb 0 extra) _ e))))
    where
      none : 0 < inserted_after (bases_for p) i → any (1 + inserted_after (bases_for p) i) (λ k. stray_after p bytes capture table c (start_of p i + k)) ≡ false
      none z =
          let m = next-below p i z in
          let b = part-below p (suc i) 0 (start_of p (suc i)) m refl (omega arith) in
          let g = grows p i in
          none_any _ _ (λ k q. let at : ℕ = start_of p i + k in stray-is at ∙ followed _ _ _ _ (h at (omega arith)) (h (at + 1) (omega arith)))

-- a cell that is not lost reads its net's own word in every vector
pub left-reads :
    (p : Plan) (capture : List ℕ) (cells bytes : ℕ) →
    Captured p capture cells bytes →
    (table : List ℕ) (n c : ℕ) →
    n < p.nets →
    code_from p bytes capture p.wide c 0 ≡ suc n →
    get_or table c 0 ≡ suc n →
    lost p bytes capture table c ≡ false →
    read_below p bytes capture (length (steps_of (bases_for p))) n c ≡ true
unfolding lost other_later read_below off_at
left-reads p capture cells bytes k table n c m code entry l =
    all_from (length (steps_of (bases_for p))) _ (λ t b. ap not (not-other _ _ (right-at t b)))
  where
    later : ℕ
    later = length (steps_of (bases_for p)) - period p

    clean : (any p.wide (stray_in p bytes capture table c) ≡ false) × (any later (other_later (period p) bytes capture c) ≡ false)
    clean = or-neither (any p.wide (stray_in p bytes capture table c)) l

    right-at : (t : ℕ) → t < length (steps_of (bases_for p)) → row_bit capture (t * bytes) c ≡ value_at p t n
    right-at =
        all_right p n (λ t. row_bit capture (t * bytes) c)
        (record {
          first = λ i q. code-right p bytes capture n c i m code q;
          follows = λ i j q. stray-not p bytes capture table n c entry i j (any_none p.wide (stray_in p bytes capture table c) clean.0 q);
          later = λ u q. alike _ _ (any_none later (other_later (period p) bytes capture c) clean.1 {i = u} (omega arith));
        })

-- a cell that reads its net's own word in every vector is not lost
pub reads-left :
    (p : Plan) (capture : List ℕ) (cells bytes : ℕ) →
    Captured p capture cells bytes →
    (table : List ℕ) (n c : ℕ) →
    n < p.nets →
    get_or table c 0 ≡ suc n →
    read_below p bytes capture (length (steps_of (bases_for p))) n c ≡ true →
    lost p bytes capture table c ≡ false
unfolding lost other_later read_below off_at
reads-left p capture cells bytes k table n c m entry h = neither stays repeats
  where
    neither : {a b : Bool} → a ≡ false → b ≡ false → (a || b) ≡ false
    neither x y = grind arith

    right-at : (t : ℕ) → t < length (steps_of (bases_for p)) → row_bit capture (t * bytes) c ≡ value_at p t n
    right-at t b = alike _ _ (fails-not _ (all-at (length (steps_of (bases_for p))) (λ u. not (off_at p bytes capture n c u)) h b))

    stays : any p.wide (stray_in p bytes capture table c) ≡ false
    stays = none_any _ _ (λ i q. not-stray p bytes capture table n c entry i (round-below p i q) right-at)

    repeats : any (length (steps_of (bases_for p)) - period p) (other_later (period p) bytes capture c) ≡ false
    repeats =
        none_any _ _
        (λ u q.
        let same = ap (λ (f : ℕ → Bool). f n) (value-repeats p u (omega arith)) in
        not-other _ _ (right-at (period p + u) (omega arith) ∙ same ∙ sym (right-at u (omega arith))))
