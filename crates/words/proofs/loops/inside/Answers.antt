-- `words::loops::inside` meets its contract: a word joined to another is the other just where its digits are among the other's.
use Prim.Native.Nat.{ℕ, ◌+◌, ◌*◌, ◌/◌, ◌%◌, ◌^◌, ◌<◌}
use mathlib.Core.Path.{◌≡◌, refl, sym, ◌∙◌, ap}
use mathlib.Core.Logic.{⊎_elim}
use mathlib.Core.Bool.{Bool, true, false, ◌||◌, not}
use mathlib.Core.List.{List}
use native.Mathlib.Omega.{arith}
use borrow.Author.Rules.{rules}
use borrow.Author.Tests.{tests, eq-eqb, eqb-true}
use lib.Bits.{bit_or, or_lt}
use lib.Dec.{eqb}
use lib.ListN.{length, get_or}
use Rattle.std.specs.List.{list_all, zip}
use Rattle.std.proofs.lemmas.Iterator.{YieldsList-from_slice, YieldsList-from_zip}
use Rattle.std.proofs.lemmas.Iterator.Search.{all_from_yields_List}
use Rattle.std.proofs.lemmas.List.Folds.{list_all_at}
use Rattle.std.proofs.lemmas.List.Sums.{list_all-from_AllPass}
use Rattle.std.proofs.lemmas.Slice.Zip.{length-zip}
use Rattle.base.specs.Digits.{bit}
use Rattle.base.proofs.BoolLaws.{decided, clashes, fails-if}
use Rattle.base.proofs.TestLaws.{all-at, all-fails}
use Rattle.base.proofs.DigitLaws.{bits-equal}
use Rattle.base.proofs.WordLaws.{bit-or}
use Rattle.words.specs.Sets.{member, inside_in, Alike}
use Rattle.words.proofs.SetLaws.{members-at, pair-at}
use Rattle.words.proofs.loops.inside.Goals as goal

-- the digits of the one word are among the other's
abbrev joined : ℕ × ℕ → Bool
joined p = eqb (bit_or p.0 p.1) p.1

-- in the one set only if in the other
abbrev within : Bool → Bool → Bool
within x y = not x || y

-- a digit joined to another is the other just where the other has it if the first has it
absorbed : (x y : Bool) → (x || y) ≡ y → within x y ≡ true
absorbed true y e = sym e
absorbed false y e = refl

absorbs : (x y : Bool) → within x y ≡ true → (x || y) ≡ y
absorbs true y e = sym e
absorbs false y e = refl

module _ (a b : List ℕ) (s : Alike a b) (x : (j : ℕ) → get_or a j 0 < 2 ^ 64) (y : (j : ℕ) → get_or b j 0 < 2 ^ 64) where
  -- where each number of a is one of b each word of a joined to b's is b's
  whole : inside_in (64 * length a) (member a) (member b) ≡ true → list_all joined (zip a b) ≡ true
  unfolding inside_in
  whole e = list_all-from_AllPass joined (zip a b) (λ j d l.
      let h : j < length a = omega (arith, length-zip a b) in
      let v = get_or a j 0 in
      let w = get_or b j 0 in
      ap joined (pair-at a b s.long j d h)
      ∙ eq-eqb _ w (bits-equal 64 _ w (or_lt 64 v w (x j) (y j)) (y j)
      (λ k q. bit-or v w k ∙ absorbs (bit v k) (bit w k) (sym (members-at within a b j k q) ∙ all-at (64 * length a) _ e (omega arith)))))

  -- and where some number of a is not, its word of a is not
  broken : inside_in (64 * length a) (member a) (member b) ≡ false → list_all joined (zip a b) ≡ false
  unfolding inside_in
  broken e =
      let m = all-fails (64 * length a) (λ i. within (member a i) (member b i)) e in
      let j = m.0 / 64 in
      let k = m.0 % 64 in
      let v = get_or a j 0 in
      let w = get_or b j 0 in
      let at : 64 * j + k ≡ m.0 = omega arith in
      let digit = sym (members-at within a b j k (omega arith)) ∙ ap (λ (i : ℕ). within (member a i) (member b i)) at ∙ m.2 in
      let h : j < length a = omega (arith, m.1) in
      list_all_at joined (zip a b) j (0, 0) (omega (arith, length-zip a b, s.long))
      (ap joined (pair-at a b s.long j (0, 0) h)
      ∙ fails-if _ (λ t. clashes (absorbed (bit v k) (bit w k) (sym (bit-or v w k) ∙ ap (λ (u : ℕ). bit u k) (eqb-true _ w t))) digit))

  included : list_all joined (zip a b) ≡ inside_in (64 * length a) (member a) (member b)
  included = ⊎_elim (λ e. whole e ∙ sym e) (λ e. broken e ∙ sym e) (decided (inside_in (64 * length a) (member a) (member b)))

pub returns : goal.returns
returns c =
    let a = c.args.a.now in
    let b = c.args.b.now in
    all_from_yields_List joined c.all.new.self _ c.all.result c.all.ensures.ran (YieldsList-from_zip (YieldsList-from_slice a cc) (YieldsList-from_slice b cc)) (λ p t q k. search (rules, tests))
    ∙ included a b c.requires (λ j. (c.type_inv.a j).fits) (λ j. (c.type_inv.b j).fits)
