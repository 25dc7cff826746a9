-- Chains of outputs in the table, by control cell and by net. A head is the highest position of a key, a
-- link the next lower position of the same key; both are 1 + a position, and 0 is none.
use Rattle.std.specs.Prelude.{ℕ, zero, suc, ◌<◌, ◌≤◌, ◌≡◌, Bool, true, false, cond, ◌||◌, List, eqb, Option, None, Some}
use Rattle.rules.specs.File.{Board, board_of, cells_of, net_of}
use Rattle.rules.specs.Drivers.{controlled, control_for, always_on}
use Rattle.rules.specs.Refusals.{judge, file_checks, most_cells, Accepted}
use Rattle.chains.specs.Table.{By, ControlCell, NetOf, room, head_in, link_in}

-- 1 + the highest number below n that passes, 0 where none does
unfoldable pub last : ℕ → (ℕ → Bool) → ℕ
last zero p = 0
last (suc n) p = cond (p n) (suc n) (last n p)

-- the key of the cell at c: the number of a driver's control cell, or of an output's net
unfoldable pub key_at : Board → By → ℕ → Option ℕ
key_at b ControlCell c = cond (controlled b c) (Some (control_for b c)) None
key_at b NetOf c = cond (controlled b c || always_on b c) (Some (net_of (b.cell c))) None

unfoldable pub is_key : Option ℕ → ℕ → Bool
is_key (Some x) k = eqb x k
is_key None k = false

-- the cell at c has key k
unfoldable pub keyed : Board → By → ℕ → ℕ → Bool
keyed b by k c = is_key (key_at b by c) k

-- the chains of the positions below n
pub record Linked (b : Board) (by : By) (n : ℕ) (t : List ℕ) : Type 0 where
  pub head : (k : ℕ) → k < room by → head_in by t k ≡ last n (keyed b by k)
  pub link : (c k : ℕ) → c < n → keyed b by k c ≡ true → link_in by t c ≡ last c (keyed b by k)
  pub lower : (c : ℕ) → c < most_cells → link_in by t c ≤ c

-- the chains of the first n positions of a whole file
pub record Grown (file : List ℕ) (by : By) (n : ℕ) (t : List ℕ) : Type 0 where
  pub checked : judge (file_checks file) ≡ Accepted
  pub linked : Linked (board_of file) by n t

-- all chains of a whole file
abbrev pub Chains : List ℕ → By → List ℕ → Type 0
Chains file by t = Grown file by (cells_of file) t
