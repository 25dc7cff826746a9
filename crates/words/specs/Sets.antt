-- What a list of words means: a set of numbers, as a test on them; and how two sets lie. Assumes nothing.
use Rattle.std.specs.Prelude.{ℕ, ◌+◌, ◌/◌, ◌%◌, ◌≤◌, ◌≡◌, Bool, true, false, not, ◌&&◌, ◌||◌, List, ltb, eqb, length, get_or}
use Rattle.std.specs.Bool.{xor}
use Rattle.base.specs.Tests.{any, all}
use Rattle.base.specs.Digits.{bit}
use Rattle.rules.specs.File.{most_number}
use Rattle.rules.specs.Refusals.{most_cells, most_nets}
use Rattle.words.specs.declared.Relation.{Relation}
use Rattle.words.specs.declared.Relation.TheVariants.{Apart, Inside, Holds, Equal, Crossing}
use Rattle.words.specs.declared.Set.{Set}

-- the words of a set of nets, and of a set of cells
abbrev pub net_words : ℕ
net_words = (most_nets + 63) / 64

abbrev pub cell_words : ℕ
cell_words = (most_cells + 63) / 64

-- a set of nets, and a set of cells
abbrev pub NetSet : Type 0
NetSet = Set net_words

abbrev pub CellSet : Type 0
CellSet = Set cell_words

-- number i is in the set that the words hold
unfoldable pub member : List ℕ → ℕ → Bool
member ws i = bit (get_or ws (i / 64) 0) (i % 64)

-- the set of nothing
abbrev pub nothing : ℕ → Bool
nothing m = false

-- the set with n besides
abbrev pub plus : (ℕ → Bool) → ℕ → ℕ → Bool
plus f n m = eqb m n || f m

-- the set with n besides, where n passes
unfoldable pub plus_if : (ℕ → Bool) → ℕ → (ℕ → Bool) → ℕ → Bool
plus_if p n f m = p n && eqb m n || f m

-- the numbers below n that pass
unfoldable pub up_to : ℕ → (ℕ → Bool) → ℕ → Bool
up_to n p m = ltb m n && p m

-- the two sets together
abbrev pub either : (ℕ → Bool) → (ℕ → Bool) → ℕ → Bool
either f g m = f m || g m

-- what is in one of the sets and not in the other
abbrev pub unlike : (ℕ → Bool) → (ℕ → Bool) → ℕ → Bool
unlike f g m = xor (f m) (g m)

-- some number below n is in both
unfoldable pub meets_in : ℕ → (ℕ → Bool) → (ℕ → Bool) → Bool
meets_in n f g = any n (λ m. f m && g m)

-- each number below n that is in f is in g
unfoldable pub inside_in : ℕ → (ℕ → Bool) → (ℕ → Bool) → Bool
inside_in n f g = all n (λ m. not (f m) || g m)

-- how two sets lie, by: g holds f, f holds g, they meet
abbrev pub relation_by : Bool → Bool → Bool → Relation
relation_by true true meet = Equal
relation_by true false meet = Inside
relation_by false true meet = Holds
relation_by false false true = Crossing
relation_by false false false = Apart

-- how f lies to g, among the numbers below n: the first that holds of equal, inside, around, crossing; else apart
unfoldable pub relation_of : ℕ → (ℕ → Bool) → (ℕ → Bool) → Relation
relation_of n f g = relation_by (inside_in n f g) (inside_in n g f) (meets_in n f g)

-- as many words as one list may have: a number of a member, or of members, then fits a `usize`
abbrev pub most_words : ℕ
most_words = most_number

-- two lists of words that are compared or joined word by word
pub record Alike (a b : List ℕ) : Type 0 where
  pub long : length a ≡ length b
  pub words-bounded : length a ≤ most_words
