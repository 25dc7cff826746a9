-- `words::loops::add_again` meets its contract: the word with digit i % 64 besides is the word itself just where it has that digit.
use Prim.Native.Nat.{ℕ, suc, ◌/◌, ◌%◌, ◌^◌, ◌<◌}
use mathlib.Core.Path.{◌≡◌, refl, sym, ◌∙◌, ap}
use mathlib.Core.Logic.{⊎_elim}
use mathlib.Core.Bool.{Bool, true, false, ◌||◌, or-false}
use native.Mathlib.Nat.{two-pow-succ}
use native.Mathlib.Omega.{arith}
use borrow.Author.Tests.{eqb-true, eq-eqb}
use lib.Bits.{bit_or, or_lt}
use lib.Dec.{eqb}
use lib.ListN.{get_or, set}
use lib.Pow.{pow_pos, pow_mono}
use Rattle.base.specs.Digits.{bit}
use Rattle.base.proofs.BoolLaws.{decided, or_left, or_right, same_test}
use Rattle.base.proofs.DigitLaws.{bits-equal}
use Rattle.base.proofs.WordLaws.{bit-or, bit-pow, one_shifted}
use Rattle.words.specs.Sets.{member}
use Rattle.words.proofs.SetLaws.{member-plus}
use Rattle.words.proofs.loops.add_again.Goals as goal

-- a word with digit k besides has the same digits where it had digit k before
same_digits : (w k : ℕ) → bit w k ≡ true → (j : ℕ) → bit (bit_or w (2 ^ k)) j ≡ bit w j
same_digits w k t j = bit-or w (2 ^ k) j ∙ ⊎_elim here there (decided (eqb j k))
  where
    here : eqb j k ≡ true → (bit w j || bit (2 ^ k) j) ≡ bit w j
    here e = let own : bit w j ≡ true = ap (bit w) (eqb-true j k e) ∙ t in or_left _ own ∙ sym own

    there : eqb j k ≡ false → (bit w j || bit (2 ^ k) j) ≡ bit w j
    there e = ap (λ (a : Bool). bit w j || a) (bit-pow k j ∙ e) ∙ or-false (bit w j)

has-digit : (w k : ℕ) → w < 2 ^ 64 → k < 64 → eqb (bit_or w (2 ^ k)) w ≡ bit w k
has-digit w k l h =
    let fits : 2 ^ k < 2 ^ 64 = omega (arith, two-pow-succ k, pow_mono {i = suc k} {j = 64} (omega arith), pow_pos k) in
    same_test _ _
    (λ t. ap (λ (v : ℕ). bit v k) (sym (eqb-true (bit_or w (2 ^ k)) w t)) ∙ bit-or w (2 ^ k) k ∙ or_right (bit w k) (bit-pow k k ∙ eq-eqb k k refl))
    (λ t. eq-eqb (bit_or w (2 ^ k)) w (bits-equal 64 (bit_or w (2 ^ k)) w (or_lt 64 w (2 ^ k) l fits) l (λ j m. same_digits w k t j)))

pub returns : goal.returns
unfolding member
returns c =
    let i = c.args.i in
    let ws = c.args.words.now in
    let word = get_or ws (i / 64) 0 in
    let one = one_shifted 64 (i % 64) (omega arith) in
    record {
      value = ap (λ (x : ℕ). eqb (bit_or word x) word) one ∙ has-digit word (i % 64) (c.slice_known-1.given (i / 64)).fits (omega arith);
      words_after = ap (λ (x : ℕ). member (set ws (i / 64) (bit_or word x))) one ∙ member-plus ws i c.requires;
    }
