-- The code that a cell reads in the first group's base vectors: that of the net whose own word it reads.
use Prim.Native.Nat.{ℕ, zero, suc, ◌+◌, ◌*◌, ◌-◌, ◌/◌, ◌%◌, ◌^◌, ◌≤◌, ◌<◌}
use mathlib.Core.Path.{◌≡◌, refl, sym, ◌∙◌, ap, ap₂, subst}
use mathlib.Core.Bool.{Bool, true, cond, xor}
use mathlib.Core.List.{List}
use native.Mathlib.Nat.{mod-eq_of_lt, div-eq_of_lt, div-one, two-pow-succ, sub-zero}
use native.Mathlib.Numerals.{add-one}
use native.Mathlib.Omega.{arith}
use borrow.Author.Tests.{lt-ltb}
use lib.Dec.{ltb, eqb}
use Rattle.std.proofs.lemmas.Bool.Decides.{nat_tests}
use lib.ListN.{length}
use lib.Pow.{pow_mono, shr-shr}
use Rattle.base.specs.Digits.{bit}
use Rattle.base.specs.Tests.{digit}
use Rattle.base.proofs.BoolLaws.{alike, fails-not}
use Rattle.base.proofs.DigitLaws.{digit-bounded}
use Rattle.base.proofs.TestLaws.{all-at}
use Rattle.rules.specs.Rows.{row_bytes, row_bit}
use Rattle.rules.specs.Refusals.{most_width}
use Rattle.rules.specs.Vectors.{code_bit, steps_of, vector_of}
use Rattle.rules.specs.declared.Step.{Step}
use Rattle.words.specs.Sets.{up_to}
use Rattle.plan.specs.declared.numbers.Plan.{Plan}
use Rattle.plan.specs.Plans.{bases_for, start_of}
use Rattle.plan.proofs.StepLaws.{step-base}
use Rattle.plan.proofs.RoundLaws.{round-below}
use Rattle.readings.specs.Readings.{value_at, off_at, read_below, code_from, most_half, Mapped, Captured}
use Rattle.readings.proofs.CapturePlaces.{part-below}
use Rattle.readings.proofs.MappedLaws.{mapped-same, mapped-then}

-- the first group's base vectors are among all
pub first-in : (p : Plan) (j t : ℕ) → j < p.wide → t ≡ start_of p j → t < length (steps_of (bases_for p))
first-in p j t l e = let q = part-below p j 0 t (round-below p j l) e (omega arith) in omega arith

-- a code of j bits is below 2 ^ j
code_below : (p : Plan) (bytes : ℕ) (capture : List ℕ) (j c : ℕ) → code_from p bytes capture j c 0 < 2 ^ j
unfolding code_from
code_below p bytes capture zero c = omega arith
code_below p bytes capture (suc j) c =
    let r = code_below p bytes capture j c in
    let d = digit-bounded (row_bit capture (start_of p j * bytes) c) _ refl in
    omega (arith, two-pow-succ j)

pub code-bounded : (p : Plan) (bytes : ℕ) (capture : List ℕ) (j c e : ℕ) → j ≤ most_width → e ≤ 0 → code_from p bytes capture j c e ≤ most_half
code-bounded p bytes capture j c e l z =
    let s : e ≡ 0 = omega arith in
    let m = pow_mono {i = j} {j = most_width} l in
    rw s (let r = code_below p bytes capture j c in omega arith)

pub code-more :
    {before between after : List ℕ} {n : ℕ} (p : Plan) (bytes : ℕ) (capture : List ℕ) (j t : ℕ) →
    t ≡ start_of p j →
    Mapped (code_from p bytes capture j) before n between →
    Mapped (λ c code. 2 * code + digit (row_bit capture (t * bytes) c)) between n after →
    Mapped (code_from p bytes capture (j + 1)) before n after
unfolding code_from
code-more p bytes capture j t a m r =
    rw (add-one j)
    (mapped-same (λ c e. ap (λ (x : ℕ). 2 * code_from p bytes capture j c e + digit (row_bit capture (x * bytes) c)) a) (mapped-then m r))

-- a number's digits from the top: one more digit
shifted : (w k : ℕ) → w / 2 ^ k ≡ 2 * (w / 2 ^ suc k) + digit (bit w k)
unfolding bit
shifted w k =
    let e : w / 2 ^ suc k ≡ w / 2 ^ k / 2 = sym (shr-shr w k 1 ∙ ap (λ (x : ℕ). w / 2 ^ x) (add-one k)) in
    rw e (go (w / 2 ^ k) (w / 2 ^ k % 2) (omega arith))
  where
    go : (x r : ℕ) → (x ≡ 2 * (x / 2) + r) × (r < 2) → x ≡ 2 * (x / 2) + digit (eqb r 1)
    go x zero h = h.0
    go x (suc zero) h = h.0
    go x (suc (suc r)) h = absurd (omega (arith, h.1))

module _ (p : Plan) (bytes : ℕ) (capture : List ℕ) (n c : ℕ) (bits : (j : ℕ) → j < p.wide → row_bit capture (start_of p j * bytes) c ≡ code_bit p.wide j n) where
  digits_from : (j : ℕ) → j ≤ p.wide → suc n < 2 ^ p.wide → code_from p bytes capture j c 0 ≡ suc n / 2 ^ (p.wide - j)
  unfolding code_from code_bit
  digits_from zero l h = rw sub-zero (sym (div-eq_of_lt h))
  digits_from (suc j) l h =
      let e : p.wide - j ≡ suc (p.wide - suc j) = omega arith in
      ap₂ (λ (x : ℕ) (a : Bool). 2 * x + digit a) (digits_from j (omega arith) h ∙ ap (λ (k : ℕ). suc n / 2 ^ k) e) (bits j l ∙ ap₂ bit (add-one n) (ap (λ (k : ℕ). p.wide - k) (add-one j)))
      ∙ sym (shifted (suc n) (p.wide - suc j))

  pub code_is : suc n < 2 ^ p.wide → code_from p bytes capture p.wide c 0 ≡ suc n
  code_is h =
      digits_from p.wide (omega arith) h ∙ ap (λ (k : ℕ). suc n / 2 ^ k) (let z : p.wide - p.wide ≡ 0 = omega arith in z) ∙ div-one (suc n)

-- net n's value in base vector j of the first group is its code's bit
pub first-value : (p : Plan) (j n : ℕ) → j < p.wide → n < p.nets → value_at p (start_of p j) n ≡ code_bit p.wide j n
unfolding value_at vector_of bases_for up_to
first-value p j n l m =
    ap (λ (x : Step). (vector_of (bases_for p) x).value n) (sym (step-base p (start_of p j) j 0 (round-below p j l) (omega arith) refl))
    ∙ rw (lt-ltb n p.nets m, mod-eq_of_lt l)

-- a cell that reads net n's own word reads its code
module _ (p : Plan) (capture : List ℕ) (cells bytes : ℕ) (k : Captured p capture cells bytes) where
  pub reads-code : (n c : ℕ) → n < p.nets → p.nets + 2 ≤ 2 ^ p.wide → read_below p bytes capture (length (steps_of (bases_for p))) n c ≡ true → code_from p bytes capture p.wide c 0 ≡ suc n
  unfolding read_below off_at xor
  reads-code n c l w r = code_is p bytes capture n c bits (omega arith)
    where
      bits : (j : ℕ) → j < p.wide → row_bit capture (start_of p j * bytes) c ≡ code_bit p.wide j n
      bits j m =
          alike _ _ (fails-not _ (all-at _ _ r {i = start_of p j} (let q = part-below p j 0 (start_of p j) (round-below p j m) refl (omega arith) in omega arith)))
          ∙ first-value p j n m l

-- no entry is above the number of nets
pub own-bounded : (nets code : ℕ) → cond (ltb nets code) 0 code ≤ nets
own-bounded nets code = grind (arith, nat_tests)

pub captured : (p : Plan) (capture : List ℕ) (cells bytes : ℕ) → Captured p capture cells (row_bytes cells) → bytes ≡ row_bytes cells → Captured p capture cells bytes
captured p capture cells bytes k e = subst (Captured p capture cells) (sym e) k
