-- The one lent table: where its parts stand, and what an entry of each is. A family of chains has its links, one a position, and then its heads,
-- one a key. Assumes nothing.
use Rattle.std.specs.Prelude.{ℕ, suc, ◌+◌, ◌*◌, ◌≤◌, ◌<◌, ◌≡◌, List, length, get_or, set, Option, None, Some}
use Rattle.rules.specs.Refusals.{most_cells, most_nets}
use Rattle.rules.specs.declared.Position.{Position}

-- what a chain of outputs goes by: their control cell or their net
pub data By : Type 0 where
  ControlCell : By
  NetOf : By

-- where a family's links begin
abbrev pub links_from : By → ℕ
links_from ControlCell = 0
links_from NetOf = 2 * most_cells

-- how many heads a family has
abbrev pub room : By → ℕ
room ControlCell = most_cells
room NetOf = most_nets

-- where the numbers of drivers begin, one a net
abbrev pub counts_from : ℕ
counts_from = 3 * most_cells + most_nets

-- where the room for one number a cell begins that the chains by net leave free after the verdict: their links' own
abbrev pub spare_from : ℕ
spare_from = links_from NetOf

-- all entries
abbrev pub table_size : ℕ
table_size = 3 * most_cells + 2 * most_nets

-- the entry that names a position, or none: 1 + the position, or 0
abbrev pub entry_of : Option Position → ℕ
entry_of None = 0
entry_of (Some c) = suc c.0

-- the head of key k, the link of the cell at c, the number of drivers of net n
abbrev pub head_in : By → List ℕ → ℕ → ℕ
head_in by t k = get_or t (links_from by + (most_cells + k)) 0

abbrev pub link_in : By → List ℕ → ℕ → ℕ
link_in by t c = get_or t (links_from by + c) 0

abbrev pub count_in : List ℕ → ℕ → ℕ
count_in t n = get_or t (counts_from + n) 0

-- entry i of the room that is free after the verdict
abbrev pub spare_in : List ℕ → ℕ → ℕ
spare_in t i = get_or t (spare_from + i) 0

-- the cell at c becomes the head of key k and links to the old one, in the family that begins at `from`
unfoldable pub spliced : ℕ → ℕ → ℕ → List ℕ → List ℕ
spliced from c k t = set (set t (from + c) (get_or t (from + (most_cells + k)) 0)) (from + (most_cells + k)) (c + 1)

-- one driver more on net n
unfoldable pub one_more : ℕ → List ℕ → List ℕ
one_more n t = set t (counts_from + n) (count_in t n + 1)

-- a table that holds nothing yet
pub record Blank (t : List ℕ) : Type 0 where
  pub long : length t ≡ table_size
  pub zero-at : (i : ℕ) → get_or t i 0 ≡ 0

-- two tables have the same entries from `from` on below `to`
pub record Same (from to : ℕ) (t t' : List ℕ) : Type 0 where
  pub entry : (i : ℕ) → from ≤ i → i < to → get_or t' i 0 ≡ get_or t i 0
