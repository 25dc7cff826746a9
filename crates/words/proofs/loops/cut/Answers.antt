-- `words::loops::cut` meets its contract: while a word has more than k ones, its highest is not among the k lowest, and can go.
use Prim.Native.Nat.{ℕ, ◌+◌, ◌*◌, ◌-◌, ◌%◌, ◌^◌, ◌≤◌, ◌<◌}
use mathlib.Core.Path.{◌≡◌, sym, ◌∙◌, ap, fun_ext}
use mathlib.Core.Logic.{⊎_elim}
use native.Mathlib.Nat.{two-pow-succ}
use native.Mathlib.Omega.{arith}
use lib.Count.{ones, count_leading_zeros, ones-le, leading_top}
use Rattle.base.specs.Digits.{bit}
use Rattle.base.specs.Counting.{among}
use Rattle.base.proofs.BoolLaws.{order}
use Rattle.base.proofs.CountingLaws.{among_none}
use Rattle.base.proofs.WordLaws.{bit-zero, one_shifted, ones-top, among-top, among-whole}
use Rattle.words.proofs.loops.cut.Goals as goal
use Rattle.words.proofs.loops.cut.Goals.{In-loop-kept}

-- the highest one of a word, as the code finds it, and the word without it
record Highest (w : ℕ) : Type 0 where
  place : ℕ
  zeros : count_leading_zeros 64 w ≤ 63
  found : 1 * 2 ^ (63 - count_leading_zeros 64 w) % 2 ^ 64 ≡ 2 ^ place
  within : 2 ^ place ≤ w
  lower : w - 2 ^ place < 2 ^ place

-- a word that has a one has a highest
highest : (w : ℕ) → 0 < ones w → w < 2 ^ 64 → Highest w
highest w o h =
    let p : 0 < w = ⊎_elim (λ (q : 0 < w). q) (λ (q : w ≤ 0). absurd (omega (arith, ones-le 0 w (omega arith)))) (order 0 w) in
    let t = leading_top 64 w p h in
    let e : 63 - count_leading_zeros 64 w ≡ t.0 = omega (arith, t.1) in
    record {
      place = t.0;
      zeros = omega (arith, t.1);
      found = rw e (one_shifted 64 t.0 (omega (arith, t.1)));
      within = t.2;
      lower = omega (arith, t.2, t.3, two-pow-succ t.0);
    }

-- without it the k lowest are the same, where there are more
dropped : (k w : ℕ) (t : Highest w) → k < ones w → among k (bit (w - 2 ^ t.place)) ≡ among k (bit w)
dropped k w t h =
    let j = t.place in
    let e : w ≡ 2 ^ j + (w - 2 ^ j) = omega (arith, t.within) in
    let o : ones w ≡ ones (w - 2 ^ j) + 1 = ap ones e ∙ ones-top j (w - 2 ^ j) t.lower in
    sym (ap (λ (v : ℕ). among k (bit v)) e ∙ among-top k j (w - 2 ^ j) t.lower (omega arith))

pub returns-then-k-eq0 : goal.returns-then-k-eq0
returns-then-k-eq0 c =
    let f = bit c.args.word in
    fun_ext (λ i. bit-zero i ∙ sym (ap (λ (k : ℕ). among k f i) c.if-k-eq0.true ∙ among_none f i))

top : (c : In-loop-kept) → Highest c.loop-kept.kept
top c = highest _ (omega arith) c.loop-kept.invariant.0

pub loop-kept-preserved : goal.loop-kept-preserved
loop-kept-preserved c =
    rw (top c).found (omega arith, dropped _ _ (top c) c.loop-kept-test.true ∙ c.loop-kept.invariant.1)

pub overflow_sub-kept : goal.overflow_sub-kept
overflow_sub-kept c = (top c).zeros

pub overflow_sub-kept-in-loop-kept : goal.overflow_sub-kept-in-loop-kept
overflow_sub-kept-in-loop-kept c = rw (top c).found (top c).within

pub returns : goal.returns
returns c =
    sym (among-whole 64 _ c.loop-kept.kept c.loop-kept.invariant.0 c.loop-kept-test.false) ∙ c.loop-kept.invariant.1
