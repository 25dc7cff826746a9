-- What a pass is lent to test a driver by, and what its sets hold: the control cells that are on, and their nets.
use Rattle.std.specs.Prelude.{ℕ, ◌*◌, ◌<◌, ◌≡◌, Bool, false, cond, ◌&&◌, ◌||◌, List, [], ◌∷◌, length, None, Option, Some}
use Rattle.base.specs.Lists.{has}
use Rattle.rules.specs.File.{Board, board_of, cells_of}
use Rattle.rules.specs.Drivers.{driver_at, degree, drives}
use Rattle.rules.specs.Groups.{marked, pass}
use Rattle.rules.specs.Refusals.{judge, board_checks, most_cells, Accepted}
use Rattle.rules.specs.declared.Position.{Position}
use Rattle.rules.specs.declared.Driver.{Driver}
use Rattle.words.specs.Sets.{NetSet, net_words, member, meets_in}
use Rattle.chains.specs.Table.{ControlCell, table_size}
use Rattle.chains.specs.Chains.{Chains}
use Rattle.chains.specs.Counts.{Counted}

-- a pass's test of a driver, by its net's degree and its control cell: it may be asked of each driver
abbrev pub Callable : (ℕ → Position → Type 0) → Type 0
Callable may = (degree : ℕ) (k : Position) → k.0 < most_cells → may degree k

-- and it tells whether nets of that degree are wanted, and that control cell allowed
abbrev pub Tells : (ℕ → Position → Bool → Type 0) → (ℕ → Bool) → (ℕ → Bool) → Type 0
Tells gives wanted allowed = (degree : ℕ) (k : Position) (stops : Bool) → k.0 < most_cells → gives degree k stops → stops ≡ (wanted degree && allowed k.0)

-- net n's degree is wanted
unfoldable pub wanted_in : Board → (ℕ → Bool) → ℕ → Bool
wanted_in b wanted n = wanted (degree b n)

-- a driver, if the pass stops at it: its net is wanted, and its control cell allowed
unfoldable pub stopping : (ℕ → Bool) → (ℕ → Bool) → Option Driver → Option Driver
stopping wanted allowed (Some d) = cond (wanted d.net.0 && allowed d.control.0) (Some d) None
stopping wanted allowed None = None

-- the driver at c, if the pass stops at it
abbrev pub stop_by : Board → (ℕ → Bool) → (ℕ → Bool) → ℕ → Option Driver
stop_by b wanted allowed c = stopping (wanted_in b wanted) allowed (driver_at b c)

-- that pass over the positions below c
abbrev pub pass_by : Board → (ℕ → Bool) → (ℕ → Bool) → ℕ → List ℕ → List ℕ
pass_by b wanted allowed c on = pass b (wanted_in b wanted) allowed c on

-- where a pass stops, the driver's control cell is turned on, unless it is marked
unfoldable pub turn_to : Board → Option Driver → List ℕ → List ℕ
turn_to b (Some d) on = cond (marked b on d.control.0) on (d.control.0 ∷ on)
turn_to b None on = on

-- a driver that some cell of the file is
abbrev pub OnBoard : List ℕ → Driver → Type 0
OnBoard file driver = (c : ℕ) × (c < cells_of file) × (driver_at (board_of file) c ≡ Some driver)

-- the nets of the control cells that are on
unfoldable pub covered_by : Board → List ℕ → ℕ → Bool
covered_by b [] n = false
covered_by b (t ∷ on) n = drives b t n || covered_by b on n

-- one of control cell k's nets is covered
unfoldable pub reached : Board → List ℕ → ℕ → Bool
reached b on k = meets_in (64 * net_words) (drives b k) (covered_by b on)

-- control cell k is on besides, unless one of its nets is covered
unfoldable pub joined : Board → List ℕ → ℕ → List ℕ
joined b on k = cond (reached b on k) on (k ∷ on)

-- a list of cells, as a set
abbrev pub listed : List ℕ → ℕ → Bool
listed on k = has k on

-- what a pass has done so far, as two sets
pub record Turned : Type 0 where
  pub on : ℕ → Bool
  pub covered : ℕ → Bool

-- these words are the control cells that are on, and these nets are covered
abbrev pub turned_as : List ℕ → NetSet → Turned
turned_as words nets = record { on = member words; covered = member nets.words }

-- the sets are the control cells of a list, and their nets
pub record Holds (b : Board) (on : List ℕ) (turned : Turned) : Type 0 where
  pub on-are : turned.on ≡ listed on
  pub covered-are : turned.covered ≡ covered_by b on

-- whatever list the sets of `from` hold, those of `to` hold what f makes of it
abbrev pub Leads : Board → (List ℕ → List ℕ) → Turned → Turned → Type 0
Leads b f from to = (on : List ℕ) → Holds b on from → Holds b (f on) to

-- so does a pass over all positions of the file, by these tests
abbrev pub PassLeads : List ℕ → (ℕ → Bool) → (ℕ → Bool) → Turned → Turned → Type 0
PassLeads file wanted allowed = Leads (board_of file) (pass_by (board_of file) wanted allowed (cells_of file))

-- an accepted board, and a table with its chains by control cell and its numbers of drivers; what else the table holds is free
pub record Ready (file t : List ℕ) : Type 0 where
  pub accepted : judge (board_checks file) ≡ Accepted
  pub long : length t ≡ table_size
  pub by-control : Chains file ControlCell t
  pub counted : Counted file (cells_of file) t
