-- What one driver brings to a set of nets or of cells.
use Rattle.std.specs.Prelude.{ℕ, Bool, ◌&&◌, ◌||◌, eqb, ltb}
use Rattle.rules.specs.File.{Board, net_of}
use Rattle.rules.specs.Drivers.{controlled, control_for, drives, meets}

-- a set of cells with the control cell of the driver at c besides, if it is above floor
unfoldable pub with_control : Board → ℕ → ℕ → (ℕ → Bool) → ℕ → Bool
with_control b floor c f j = controlled b c && eqb (control_for b c) j && ltb floor j || f j

-- a set of cells with the control cells of net n above floor besides
unfoldable pub with_controls : Board → ℕ → ℕ → (ℕ → Bool) → ℕ → Bool
with_controls b floor n f j = drives b j n && ltb floor j || f j

-- a set of cells with the control cells above floor of the net of the driver at c besides
unfoldable pub with_sharers : Board → ℕ → ℕ → (ℕ → Bool) → ℕ → Bool
with_sharers b floor c f j = controlled b c && drives b j (net_of (b.cell c)) && ltb floor j || f j

-- the control cells above k that share a net with it
unfoldable pub partners_of : Board → ℕ → ℕ → Bool
partners_of b k j = meets b k j && ltb k j
