-- The control cells' checks over the tables that a whole file fills.
use Rattle.std.specs.Prelude.{Option, Some, None, ℕ, Bool, true, false, cond, not, ◌&&◌, eqb}
use Rattle.base.specs.Tests.{any}
use Rattle.rules.specs.File.{Board, net_of}
use Rattle.rules.specs.Drivers.{controlled, drivers}
use Rattle.rules.specs.Refusals.{crossed, crosser}
use Rattle.words.specs.declared.Relation.{Relation}
use Rattle.words.specs.declared.Relation.TheVariants.{Apart, Inside, Holds, Equal, Crossing}
use Rattle.chains.specs.Table.{ControlCell}
use Rattle.chains.specs.Chains.{keyed}
use Rattle.rules.specs.declared.Position.{Position}

-- the one way that two net sets may not lie
unfoldable pub is_crossing : Relation → Bool
is_crossing Apart = false
is_crossing Inside = false
is_crossing Holds = false
is_crossing Equal = false
is_crossing Crossing = true

-- what comparing control cell i with the higher ones finds: "the smallest larger position that crosses it" (request [1]), if one does
unfoldable pub crosser_of : Board → ℕ → Option Position
crosser_of b i = cond (crossed b i) (Some (record { 0 = crosser b i })) None

-- how many controlled drivers the net of the driver at c has
unfoldable pub drivers_at : Board → ℕ → ℕ
drivers_at b c = cond (controlled b c) (drivers b (net_of (b.cell c))) 0

-- some driver of control cell k is on a net with another number of drivers
unfoldable pub any_other : Board → ℕ → ℕ → Bool
any_other b k first = any b.size (λ c. keyed b ControlCell k c && not (eqb (drivers_at b c) first))
