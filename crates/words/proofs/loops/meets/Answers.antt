-- `words::loops::meets` meets its contract: two words have a digit in common just where some number of the word is in both.
use Prim.Native.Nat.{ℕ, ◌+◌, ◌*◌, ◌/◌, ◌%◌, ◌^◌, ◌<◌}
use mathlib.Core.Path.{◌≡◌, refl, sym, ◌∙◌, ap}
use mathlib.Core.Logic.{⊎_elim}
use mathlib.Core.Bool.{Bool, true, false, ◌&&◌, not}
use mathlib.Core.List.{List}
use native.Mathlib.Omega.{arith}
use borrow.Author.Rules.{rules}
use borrow.Author.Tests.{tests, ne_eqb}
use lib.Bits.{bit_and, and_lt}
use lib.Dec.{eqb}
use lib.ListN.{length, get_or}
use Rattle.std.specs.List.{list_any, zip}
use Rattle.std.proofs.lemmas.Iterator.{YieldsList-from_slice, YieldsList-from_zip}
use Rattle.std.proofs.lemmas.Iterator.Search.{any_from_yields_List}
use Rattle.std.proofs.lemmas.List.Folds.{list_any_none, list_any_at}
use Rattle.std.proofs.lemmas.Slice.Zip.{length-zip}
use Rattle.base.specs.Digits.{bit}
use Rattle.base.proofs.BoolLaws.{decided, clashes}
use Rattle.base.proofs.TestLaws.{any-member, any_none}
use Rattle.base.proofs.WordLaws.{bit-and, bit-zero, none-zero}
use Rattle.words.specs.Sets.{member, meets_in, Alike}
use Rattle.words.proofs.SetLaws.{members-at, pair-at}
use Rattle.words.proofs.loops.meets.Goals as goal

-- two words have a digit in common
abbrev common : ℕ × ℕ → Bool
common p = not (eqb (bit_and p.0 p.1) 0)

module _ (a b : List ℕ) (s : Alike a b) (x : (j : ℕ) → get_or a j 0 < 2 ^ 64) (y : (j : ℕ) → get_or b j 0 < 2 ^ 64) where
  -- what word j has of both is a digit of the two words' &
  both_at : (j k : ℕ) → k < 64 → (member a (64 * j + k) && member b (64 * j + k)) ≡ bit (bit_and (get_or a j 0) (get_or b j 0)) k
  both_at j k h = members-at ◌&&◌ a b j k h ∙ sym (bit-and (get_or a j 0) (get_or b j 0) k)

  -- so where no number is in both no two words have one in common
  apart : meets_in (64 * length a) (member a) (member b) ≡ false → list_any common (zip a b) ≡ false
  unfolding meets_in
  apart e = list_any_none common (zip a b) (λ j d l.
      let h : j < length a = omega (arith, length-zip a b) in
      let none : bit_and (get_or a j 0) (get_or b j 0) ≡ 0 = none-zero 64 _ (and_lt 64 _ _ (x j) (y j)) (λ k q. sym (both_at j k q) ∙ any_none _ _ e (omega arith)) in
      ap common (pair-at a b s.long j d h) ∙ rw none refl)

  -- and where some number is in both its words do
  together : meets_in (64 * length a) (member a) (member b) ≡ true → list_any common (zip a b) ≡ true
  unfolding meets_in
  together e =
      let m = any-member (64 * length a) (λ i. member a i && member b i) e in
      let j = m.0 / 64 in
      let k = m.0 % 64 in
      let at : 64 * j + k ≡ m.0 = omega arith in
      let digit = sym (both_at j k (omega arith)) ∙ ap (λ (i : ℕ). member a i && member b i) at ∙ m.2 in
      let h : j < length a = omega (arith, m.1) in
      list_any_at common (zip a b) j (0, 0) (omega (arith, length-zip a b, s.long))
      (ap common (pair-at a b s.long j (0, 0) h) ∙ rw (ne_eqb _ 0 (λ z. clashes digit (ap (λ (w : ℕ). bit w k) z ∙ bit-zero k))) refl)

  met : list_any common (zip a b) ≡ meets_in (64 * length a) (member a) (member b)
  met = ⊎_elim (λ e. together e ∙ sym e) (λ e. apart e ∙ sym e) (decided (meets_in (64 * length a) (member a) (member b)))

pub returns : goal.returns
returns c =
    let a = c.args.a.now in
    let b = c.args.b.now in
    any_from_yields_List common c.any.new.self _ c.any.result c.any.ensures.ran (YieldsList-from_zip (YieldsList-from_slice a cc) (YieldsList-from_slice b cc)) (λ p t q k. search (rules, tests))
    ∙ met a b c.requires (λ j. (c.type_inv.a j).fits) (λ j. (c.type_inv.b j).fits)
