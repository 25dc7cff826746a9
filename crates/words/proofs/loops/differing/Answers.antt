-- `words::loops::differing` meets its contract: the ones of two words combined by ^ are the numbers of the word that differ.
use Prim.Native.Nat.{ℕ, zero, suc, ◌+◌, ◌*◌, ◌^◌, ◌≤◌, ◌<◌}
use mathlib.Core.Path.{◌≡◌, refl, sym, ◌∙◌, ap, ap₂}
use mathlib.Core.Bool.{Bool, xor}
use mathlib.Core.List.{List}
use native.Mathlib.Numerals.{add-one}
use native.Mathlib.Omega.{arith}
use borrow.Author.Rules.{rules}
use borrow.Author.Tests.{tests}
use lib.Bits.{bit_xor, xor_lt}
use lib.Count.{ones}
use lib.ListN.{length, get_or, take}
use lib.Seq.{take-length}
use Rattle.std.specs.List.{zip, sum_by}
use Rattle.std.proofs.lemmas.Iterator.{YieldsList-from_slice, YieldsList-from_zip, YieldsList-from_map}
use Rattle.std.proofs.lemmas.Iterator.Consumers.{sum_by_from_yields_List, fits_by_from_yields_list}
use Rattle.std.proofs.lemmas.List.Sums.{sum_by_more}
use Rattle.std.proofs.lemmas.Slice.Zip.{length-zip}
use Rattle.base.specs.Counting.{count}
use Rattle.base.specs.Digits.{bit}
use Rattle.base.proofs.CountingLaws.{count_same, count-le}
use Rattle.base.proofs.WordLaws.{bit-xor, count_bits}
use Rattle.words.specs.Sets.{member, Alike}
use Rattle.words.proofs.SetLaws.{members-at, words_count, pair-at}
use Rattle.words.proofs.loops.differing.Goals as goal

-- how many digits two words do not share
abbrev unshared : ℕ × ℕ → ℕ
unshared p = ones (bit_xor p.0 p.1)

-- m is in one of the two and not in the other
abbrev differs : List ℕ → List ℕ → ℕ → Bool
differs a b m = xor (member a m) (member b m)

module _ (a b : List ℕ) (s : Alike a b) (x : (j : ℕ) → get_or a j 0 < 2 ^ 64) (y : (j : ℕ) → get_or b j 0 < 2 ^ 64) where
  -- of word j
  word_at : (j : ℕ) → count 64 (λ k. differs a b (64 * j + k)) ≡ unshared (get_or a j 0, get_or b j 0)
  word_at j =
      let v = get_or a j 0 in
      let w = get_or b j 0 in
      count_same 64 (λ k. differs a b (64 * j + k)) (bit (bit_xor v w)) (λ k h. members-at xor a b j k h ∙ sym (bit-xor v w k))
      ∙ count_bits 64 (bit_xor v w) (xor_lt 64 v w (x j) (y j))

  -- of the first j words
  counted : (j : ℕ) → j ≤ length a → sum_by unshared (take j (zip a b)) ≡ count (64 * j) (differs a b)
  unfolding count
  counted zero h = refl
  counted (suc j) h =
      let more = sum_by_more unshared (zip a b) j (0, 0) (omega (arith, length-zip a b, s.long)) in
      let here = ap unshared (pair-at a b s.long j (0, 0) (omega arith)) ∙ sym (word_at j) in
      rw (← add-one j) (more ∙ ap₂ (λ (m n : ℕ). m + n) (counted j (omega arith)) here ∙ sym (words_count (differs a b) j))

  -- of all
  all_counted : sum_by unshared (zip a b) ≡ count (64 * length a) (differs a b)
  all_counted =
      let n : length (zip a b) ≡ length a = omega (arith, length-zip a b, s.long) in
      let every = ap (λ (j : ℕ). take j (zip a b)) (sym n) ∙ take-length (zip a b) in
      sym (ap (sum_by unshared) every) ∙ counted (length a) (omega arith)

pub sum-requires-clause-fits : goal.sum-requires-clause-fits
sum-requires-clause-fits c =
    let a = c.args.a.now in
    let b = c.args.b.now in
    let n = all_counted a b c.requires (λ j. (c.type_inv.a j).fits) (λ j. (c.type_inv.b j).fits) in
    fits_by_from_yields_list unshared (zip a b) c.map.result _
    (YieldsList-from_map _ unshared (YieldsList-from_zip (YieldsList-from_slice a cc) (YieldsList-from_slice b cc)) c.map.ensures.closure (λ p r q k. search (rules, tests)))
    (omega (arith, n, count-le (64 * length a) (differs a b)))

pub returns : goal.returns
returns c =
    let a = c.args.a.now in
    let b = c.args.b.now in
    sum_by_from_yields_List unshared (zip a b) c.map.result c.sum.result c.sum.ensures.ran
    (YieldsList-from_map _ unshared (YieldsList-from_zip (YieldsList-from_slice a cc) (YieldsList-from_slice b cc)) c.map.ensures.closure (λ p r q k. search (rules, tests)))
    ∙ all_counted a b c.requires (λ j. (c.type_inv.a j).fits) (λ j. (c.type_inv.b j).fits)
