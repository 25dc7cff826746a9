-- Vector by vector: the cells that are left of those that follow their nets.
use Prim.Native.Nat.{ℕ, zero, suc, ◌+◌, ◌*◌, ◌-◌, ◌≤◌, ◌<◌}
use mathlib.Core.Path.{◌≡◌, refl, sym, ◌∙◌, ap, ap₂}
use mathlib.Core.Bool.{Bool, true, false, xor, ◌&&◌, ◌||◌, or_comm}
use mathlib.Core.List.{List}
use native.Mathlib.Nat.{mul-le-mul_right, one-mul}
use native.Mathlib.Omega.{arith}
use borrow.Author.Tests.{lt-ltb, le-ltb}
use lib.ListN.{length, get_or}
use Rattle.base.specs.Tests.{any}
use Rattle.rules.specs.Vectors.{inserted_after, steps_of}
use Rattle.rules.specs.Rows.{row_bit}
use Rattle.words.specs.Sets.{nothing, unlike}
use Rattle.plan.specs.declared.numbers.Plan.{Plan}
use Rattle.plan.specs.Plans.{bases_for, mix, start_of}
use Rattle.readings.specs.Readings.{value_at, period, stray, stray_at, stray_after, stray_in, other_later, lost, Rowed, Left, Part}
use Rattle.plan.proofs.StepLaws.{size}
use Rattle.readings.proofs.CapturePlaces.{starts-next, start-bounded, part-below, part-value}
use Rattle.readings.proofs.LeftLaws.{left-then, left-same, left-all, left_one}
use Rattle.readings.proofs.Repeating.{base-value, next-below}

-- one vector more
module _ (p : Plan) (bytes : ℕ) (capture table : List ℕ) where
  stray-of : (t c : ℕ) (f g : ℕ → Bool) → f ≡ value_at p t → g ≡ value_at p (t + 1) → stray_at capture (t * bytes) ((t + 1) * bytes) (unlike f g) table c ≡ stray_after p bytes capture table c t
  unfolding stray_after
  stray-of t c f g e h =
      ap₂ (λ (x y : ℕ → Bool). stray_at capture (t * bytes) ((t + 1) * bytes) (unlike x y) table c) e h

  pub left-next :
      {before between after : List ℕ} {n : ℕ} (t k u : ℕ) (f g : ℕ → Bool) →
      t + k ≡ u →
      f ≡ value_at p u →
      g ≡ value_at p (u + 1) →
      Left (λ c. any k (λ j. stray_after p bytes capture table c (t + j))) before n between →
      Left (stray_at capture (u * bytes) ((u + 1) * bytes) (unlike f g) table) between n after →
      Left (λ c. any (k + 1) (λ j. stray_after p bytes capture table c (t + j))) before n after
  left-next t k u f g e a b m r =
      left_one (λ c j. stray_after p bytes capture table c (t + j)) k m
      (left-same (λ c. stray-of u c f g a b ∙ ap (stray_after p bytes capture table c) (sym e)) r)

  -- where nothing is inserted all stay, and otherwise those of the vectors that are
  pub left-part :
      {before after : List ℕ} {n : ℕ} (i extra t : ℕ) →
      Part p i extra t →
      0 < extra →
      Left (λ c. any (1 + extra) (λ k. stray_after p bytes capture table c (t + k))) before n after →
      Left (λ c. stray_in p bytes capture table c i) before n after
  unfolding stray_in
  left-part i extra t h z m =
      left-same (λ c. rw (h.extra-is, h.start_is, lt-ltb 0 (inserted_after (bases_for p) i) (omega (arith, h.extra-is)))) m

  pub left-bare : (before : List ℕ) (n i extra t : ℕ) → Part p i extra t → extra ≡ 0 → Left (λ c. stray_in p bytes capture table c i) before n before
  unfolding stray_in
  left-bare before n i extra t h z =
      left-all (λ c. rw (le-ltb 0 (inserted_after (bases_for p) i) (omega (arith, h.extra-is))))

  -- the last vector of a part, and the next base vector
  pub left-last :
      {before between after : List ℕ} {n : ℕ} (t k extra : ℕ) (f g : ℕ → Bool) →
      k ≡ extra →
      f ≡ value_at p (t + k) →
      g ≡ value_at p (t + extra + 1) →
      Left (λ c. any k (λ j. stray_after p bytes capture table c (t + j))) before n between →
      Left (stray_at capture ((t + extra) * bytes) ((t + extra + 1) * bytes) (unlike f g) table) between n after →
      Left (λ c. any (1 + extra) (λ j. stray_after p bytes capture table c (t + j))) before n after
  left-last t k extra f g e a b m r =
      left-same
      (λ c. ap (λ (x : ℕ). any x (λ j. stray_after p bytes capture table c (t + j))) (let s : k + 1 ≡ 1 + extra = omega arith in s))
      (left-next t k (t + extra) f g (ap (λ (x : ℕ). t + x) e) (a ∙ ap (λ (x : ℕ). value_at p (t + x)) e) b m r)

  -- the first group and the later ones
  pub left-lost :
      {before between after : List ℕ} {n : ℕ} (first : ℕ) →
      first ≡ period p →
      Left (λ c. any p.wide (stray_in p bytes capture table c)) before n between →
      Left (λ c. any (length (steps_of (bases_for p)) - first) (other_later first bytes capture c)) between n after →
      Left (lost p bytes capture table) before n after
  unfolding lost
  left-lost first e m r =
      left-same
      (λ c.
      or_comm (any (length (steps_of (bases_for p)) - first) (other_later first bytes capture c)) (any p.wide (stray_in p bytes capture table c))
      ∙ ap (λ (x : ℕ). any p.wide (stray_in p bytes capture table c) || any (length (steps_of (bases_for p)) - x) (other_later x bytes capture c)) e)
      (left-then m r)

-- one later vector more: no net changes there, so no reading may
module _ (first bytes : ℕ) (capture table : List ℕ) where
  other-of : (u c : ℕ) (none : ℕ → Bool) → none ≡ nothing → stray_at capture ((first + u) * bytes) (u * bytes) none table c ≡ other_later first bytes capture c u
  unfolding other_later stray_at stray
  other-of u c none z =
      rw z (anyhow (xor (row_bit capture ((first + u) * bytes) c) (row_bit capture (u * bytes) c)) (get_or table c 0))
    where
      anyhow : (a : Bool) (entry : ℕ) → (a && stray nothing entry) ≡ a
      anyhow true zero = refl
      anyhow true (suc n) = refl
      anyhow false entry = refl

  pub left-later :
      {before between after : List ℕ} {n : ℕ} (u : ℕ) (none : ℕ → Bool) →
      none ≡ nothing →
      Left (λ c. any u (other_later first bytes capture c)) before n between →
      Left (stray_at capture ((first + u) * bytes) (u * bytes) none table) between n after →
      Left (λ c. any (u + 1) (other_later first bytes capture c)) before n after
  left-later u none z m r = left_one (other_later first bytes capture) u m (left-same (λ c. other-of u c none z) r)

-- where the vectors of a part stand
module _ (p : Plan) (capture : List ℕ) (bytes : ℕ) (w : Rowed p capture bytes) (i extra t : ℕ) (h : Part p i extra t) (positive : 0 < extra) where
  last-below : t + extra + 1 < length (steps_of (bases_for p))
  last-below =
      let n = next-below p i (omega (arith, h.extra-is)) in
      let b = part-below p (suc i) 0 (start_of p (suc i)) n refl (omega arith) in
      let s = starts-next p i t extra h.start_is h.extra-is in
      let e : i + 1 ≡ suc i = omega arith in
      omega (arith, ap (start_of p) e)

  pub later_below : (k : ℕ) → k ≤ extra → t + k + 1 < length (steps_of (bases_for p))
  later_below k l = let b = last-below in omega arith

  -- and the values that their nets have
  pub values-first : (old : ℕ → Bool) → old ≡ (bases_for p).value i → old ≡ value_at p (t + 0)
  values-first old e =
      e ∙ sym (base-value p i h.below) ∙ ap (value_at p) (let s : start_of p i ≡ t + 0 = omega (arith, h.start_is) in s)

  pub values-next : (k : ℕ) (old new f : ℕ → Bool) → k < extra → old ≡ (bases_for p).value i → new ≡ (bases_for p).value (i + 1) → f ≡ mix ((k + 1) * p.limit) old new → f ≡ value_at p (t + k + 1)
  values-next k old new f l o n m =
      part-value p i extra t (k + 1) old new f h (omega arith) o n m ∙ ap (value_at p) (let s : t + (k + 1) ≡ t + k + 1 = omega arith in s)

  pub values-last : (new : ℕ → Bool) → new ≡ (bases_for p).value (i + 1) → new ≡ value_at p (t + extra + 1)
  values-last new e =
      let n = next-below p i (omega (arith, h.extra-is)) in
      e ∙ sym (base-value p (i + 1) (omega arith)) ∙ ap (value_at p) (let s = starts-next p i t extra h.start_is h.extra-is in let q : start_of p (i + 1) ≡ t + extra + 1 = omega arith in q)

pub values-on : (p : Plan) (t k : ℕ) (f : ℕ → Bool) → f ≡ value_at p (t + k + 1) → f ≡ value_at p (t + (k + 1))
values-on p t k f e = e ∙ ap (value_at p) (let s : t + k + 1 ≡ t + (k + 1) = omega arith in s)

-- where the first group ends
pub period-is : (p : Plan) (i t : ℕ) → t ≡ start_of p i → i ≡ p.wide → t ≡ period p
unfolding period
period-is p i t e h = e ∙ ap (start_of p) h

-- it is no longer than the plan
pub period-bounded : (p : Plan) → period p ≤ length (steps_of (bases_for p))
unfolding period
period-bounded p =
    let m = mul-le-mul_right {m = 1} {n = p.groups} p.wide p.small.turns in
    start-bounded p (size p - p.wide) p.wide (omega (arith, one-mul p.wide))
