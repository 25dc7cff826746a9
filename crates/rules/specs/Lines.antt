-- What the lines of a board carry while a row is in its scan chain: which outputs act on a net, and the level that they make. Read off the
-- board's cells and the row's bits: nothing here knows of groups or vectors. Assumes nothing.
use Rattle.std.specs.Prelude.{ℕ, Bool, true, false, not, ◌&&◌, ◌||◌, List, eqb}
use Rattle.base.specs.Tests.{digit, any, all}
use Rattle.rules.specs.Rows.{row_bit}
use Rattle.rules.specs.File.{Board, on_value_of}
use Rattle.rules.specs.Drivers.{on_net, open_drain}
use Rattle.rules.specs.declared.Cell.{Cell}
use Rattle.rules.specs.declared.Cell.TheVariants.{Internal, Input, Control, ThreeState, TwoState, OpenDrain}

-- the bit that the cell at c is loaded with
abbrev pub loaded : List ℕ → ℕ → Bool
loaded row c = row_bit row 0 c

-- the control cell at k is loaded with its on value
unfoldable pub switched_on : Board → List ℕ → ℕ → Bool
switched_on b row k = eqb (digit (loaded row k)) (on_value_of (b.cell k))

-- this cell, at position c, acts on its line: a three-state output where its control cell is on, a two-state output always; an open-drain output
-- "loaded with 0 .. pulls low, with 1 it lets go" (request [3])
unfoldable pub acts_as : Board → List ℕ → ℕ → Cell → Bool
acts_as b row c Internal = false
acts_as b row c (Input n) = false
acts_as b row c (Control on) = false
acts_as b row c (ThreeState k n) = switched_on b row k.0
acts_as b row c (TwoState n) = true
acts_as b row c (OpenDrain n) = not (loaded row c)

-- the cell at c acts on net n
unfoldable pub acts : Board → List ℕ → ℕ → ℕ → Bool
acts b row n c = on_net b n c && acts_as b row c (b.cell c)

-- net n has an open-drain output, and so "the line's resistor"
unfoldable pub has_resistor : Board → ℕ → Bool
has_resistor b n = any b.size (λ c. on_net b n c && open_drain b c)

-- the level of net n: the AND of the bits of all outputs that act on it, and 1 where none acts, as its resistor holds it. That a net on which
-- nothing acts has one is not said here, but proved (`vector-held`)
unfoldable pub level : Board → List ℕ → ℕ → Bool
level b row n = all b.size (λ c. not (acts b row n c) || loaded row c)
