-- Which positions a pass need look at: the highest driver of each control cell. Assumes nothing.
use Rattle.std.specs.Prelude.{ℕ, zero, suc, ◌<◌, ◌≡◌, Bool, cond, ◌&&◌, List, [], ◌∷◌, eqb}
use Rattle.base.specs.Counting.{count}
use Rattle.rules.specs.File.{Board, board_of, cells_of}
use Rattle.rules.specs.Drivers.{controlled, control_for}
use Rattle.rules.specs.Groups.{turn}
use Rattle.chains.specs.Table.{ControlCell, spare_in}
use Rattle.chains.specs.Chains.{last, keyed}
use Rattle.select.specs.Turns.{Ready}

-- the cell at c is a driver, and the highest one of its control cell
unfoldable pub highest : Board → ℕ → Bool
highest b c = controlled b c && eqb (last b.size (keyed b ControlCell (control_for b c))) (suc c)

-- the highest drivers below c, from the highest down
unfoldable pub highest_drivers : Board → ℕ → List ℕ
highest_drivers b zero = []
highest_drivers b (suc c) = cond (highest b c) (c ∷ highest_drivers b c) (highest_drivers b c)

-- a pass over these positions alone
unfoldable pub pass_over : Board → (ℕ → Bool) → (ℕ → Bool) → List ℕ → List ℕ → List ℕ
pass_over b wanted allowed [] on = on
pass_over b wanted allowed (c ∷ cs) on = pass_over b wanted allowed cs (turn b wanted allowed c on)

-- the first i entries of a table's spare room, from the last down
unfoldable pub backwards : List ℕ → ℕ → List ℕ
backwards t zero = []
backwards t (suc i) = spare_in t i ∷ backwards t i

-- a ready table whose spare room begins with the highest drivers below c: they are its first `found` entries, the lowest first
pub record Ordered (file : List ℕ) (c : ℕ) (t : List ℕ) (found : ℕ) : Type 0 where
  pub ready : Ready file t
  pub found-are : found ≡ count c (highest (board_of file))
  pub below : (i : ℕ) → i < found → spare_in t i < c
  pub entries : backwards t found ≡ highest_drivers (board_of file) c

-- all of them
abbrev pub Order : List ℕ → List ℕ → ℕ → Type 0
Order file t found = Ordered file (cells_of file) t found
