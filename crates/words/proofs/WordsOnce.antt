-- One set of words: two lists of equal length, of words of 64 bits, that hold the same numbers are equal. So a contract that says which members a
-- returned set or a written slice has determines every bit of it. The idea: the words' digits are the members. What a list of `u64` is by
-- its type, its length and the size of its words, is what `Wide` says.
use Prim.Native.Nat.{ℕ, ◌+◌, ◌*◌, ◌^◌, ◌<◌}
use mathlib.Core.Path.{◌≡◌, sym, ◌∙◌, ap}
use mathlib.Core.Bool.{Bool}
use mathlib.Core.List.{List}
use native.Mathlib.Omega.{arith}
use lib.ListN.{length, get_or}
use lib.Seq.{ext_get_or}
use Rattle.base.proofs.DigitLaws.{bits-equal}
use Rattle.words.specs.Sets.{member}
use Rattle.words.specs.declared.Set.{Set}
use Rattle.words.proofs.SetLaws.{member-at}

-- what the type of n words of 64 bits says of them
pub record Wide (n : ℕ) (ws : List ℕ) : Type 0 where
  pub long : length ws ≡ n
  pub each : (j : ℕ) → j < n → get_or ws j 0 < 2 ^ 64

-- lists of words with the same members are equal
pub words-once : {n : ℕ} (a b : List ℕ) → Wide n a → Wide n b → member a ≡ member b → a ≡ b
words-once a b wa wb e =
    ext_get_or 0 a b (wa.long ∙ sym wb.long)
    (λ j l. bits-equal 64 (get_or a j 0) (get_or b j 0) (wa.each j (omega (arith, wa.long))) (wb.each j (omega (arith, wa.long)))
    (λ k h. sym (member-at a j k h) ∙ ap (λ (f : ℕ → Bool). f (64 * j + k)) e ∙ member-at b j k h))

-- and so sets with the same members are: of nets, of cells, of any number of words
pub sets-once : {n : ℕ} (r s : Set n) → Wide n r.words → Wide n s.words → member r.words ≡ member s.words → r ≡ s
sets-once r s wr ws e = λ i. record { words = words-once r.words s.words wr ws e i }
