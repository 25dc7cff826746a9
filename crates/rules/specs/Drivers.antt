-- Who drives what: outputs, control cells and their net sets, the drivers of a net. What the cell at a position drives is said once, by
-- driver_at; it, what is read off it and what counts as a control cell are opened by their own laws alone (DriverLaws). Assumes nothing.
use Rattle.std.specs.Prelude.{Option, Some, None, ℕ, max, Bool, true, false, not, ◌&&◌, ◌||◌, eqb}
use Rattle.base.specs.Tests.{any, all, largest}
use Rattle.base.specs.Counting.{count}
use Rattle.rules.specs.File.{Board, none, kind_of, net_of}
use Rattle.rules.specs.declared.Cell.{Cell}
use Rattle.rules.specs.declared.Cell.TheVariants.{Internal, Input, Control, ThreeState, TwoState, OpenDrain}
use Rattle.rules.specs.declared.Driver.{Driver}
use Rattle.rules.specs.declared.Position.{Position}
use Rattle.rules.specs.declared.Net.{Net}

-- the driver that this control cell switches, on this net
abbrev pub Of : Position → Net → Option Driver
Of k n = Some (record { control = k; net = n })

-- what this cell drives at position c: a "three-state output" is a driver of the control cell that its record names, an open-drain output
-- "counts as a control cell of its own with that one net" (request [3])
unfoldable pub driver_in : ℕ → Cell → Option Driver
driver_in c Internal = None
driver_in c (Input n) = None
driver_in c (Control on) = None
driver_in c (ThreeState k n) = Of k n
driver_in c (TwoState n) = None
driver_in c (OpenDrain n) = Of (record { 0 = c }) n

-- what the cell at c drives: a controlled driver, or nothing that a control cell switches
unfoldable pub driver_at : Board → ℕ → Option Driver
driver_at b c = driver_in c (b.cell c)

-- a driver has a control cell
unfoldable pub is_driver : Option Driver → Bool
is_driver (Some d) = true
is_driver None = false

-- which; "65,535 means none"
unfoldable pub control_in : Option Driver → ℕ
control_in (Some d) = d.control.0
control_in None = none

-- the cell at c is a driver that a control cell switches
unfoldable pub controlled : Board → ℕ → Bool
controlled b c = is_driver (driver_at b c)

-- the control cell that the driver at c belongs to
unfoldable pub control_for : Board → ℕ → ℕ
control_for b c = control_in (driver_at b c)

-- "open-drain output", kind 5
unfoldable pub open_drain : Board → ℕ → Bool
open_drain b c = eqb (kind_of (b.cell c)) 5

-- what counts as a control cell: "control", and an open-drain output, which is its own
unfoldable pub is_control : Board → ℕ → Bool
is_control b k = eqb (kind_of (b.cell k)) 2 || open_drain b k

-- "two-state output, always on"
unfoldable pub always_on : Board → ℕ → Bool
always_on b c = eqb (kind_of (b.cell c)) 4

-- "input"
unfoldable pub is_input : Board → ℕ → Bool
is_input b c = eqb (kind_of (b.cell c)) 1

-- the net that the cell at c is on is n
unfoldable pub on_net : Board → ℕ → ℕ → Bool
on_net b n c = eqb (net_of (b.cell c)) n

-- c is an output of net n, controlled or always on
unfoldable pub output_of : Board → ℕ → ℕ → Bool
output_of b n c = on_net b n c && (controlled b c || always_on b c)

-- c is a controlled driver of net n
unfoldable pub driver_of : Board → ℕ → ℕ → Bool
driver_of b n c = on_net b n c && controlled b c

-- "A control cell's net set is the nets of its kind 3 outputs", an open-drain output's its own net: net n is in k's
unfoldable pub drives : Board → ℕ → ℕ → Bool
drives b k n = any b.size (λ c. driver_of b n c && eqb (control_for b c) k)

-- how many controlled drivers net n has
unfoldable pub drivers : Board → ℕ → ℕ
drivers b n = count b.size (driver_of b n)

-- how many output cells are connected to net n: source 000's own degree
unfoldable pub outputs : Board → ℕ → ℕ
outputs b n = count b.size (output_of b n)

-- k is a control cell and n one of its nets
unfoldable pub controls : Board → ℕ → ℕ → Bool
controls b n k = is_control b k && drives b k n

-- "The degree of a net is its number of control cells"
unfoldable pub degree : Board → ℕ → ℕ
degree b n = count b.size (controls b n)

-- the net sets of i and j meet
unfoldable pub meets : Board → ℕ → ℕ → Bool
meets b i j = any b.nets (λ n. drives b i n && drives b j n)

-- the net set of j holds that of i
unfoldable pub inside : Board → ℕ → ℕ → Bool
inside b i j = all b.nets (λ n. not (drives b i n) || drives b j n)

-- "two control cells' net sets meet and neither holds the other"
unfoldable pub crosses : Board → ℕ → ℕ → Bool
crosses b i j = is_control b i && is_control b j && meets b i j && not (inside b i j) && not (inside b j i)

-- "G is the largest degree, but at least 1"
unfoldable pub groups_of : Board → ℕ
groups_of b = max 1 (largest b.nets (degree b))
