-- The nets' checks over the table that a whole file fills.
use Rattle.std.specs.Prelude.{ℕ, ◌<◌, ◌≡◌, Bool, true, List, eqb, ltb}
use Rattle.rules.specs.File.{Board}
use Rattle.rules.specs.Drivers.{output_of}
use Rattle.rules.specs.Refusals.{most_drivers}
use Rattle.chains.specs.Table.{NetOf, head_in, count_in}

-- net n has no head
unfoldable pub undriven_in : List ℕ → ℕ → Bool
undriven_in t n = eqb (head_in NetOf t n) 0

-- net n has too many drivers
unfoldable pub crowded_in : List ℕ → ℕ → Bool
crowded_in t n = ltb most_drivers (count_in t n)

-- net n has at most one output
pub record Alone (b : Board) (n : ℕ) : Type 0 where
  pub only : (c d : ℕ) → c < b.size → d < b.size → output_of b n c ≡ true → output_of b n d ≡ true → c ≡ d

-- beside each output of net n there is another
pub record Several (b : Board) (n : ℕ) : Type 0 where
  pub another : (c : ℕ) → (d : ℕ) × (d < b.size) × (output_of b n d ≡ true) × (c ≡ d → ⊥)
