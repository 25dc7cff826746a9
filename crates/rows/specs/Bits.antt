-- The bits of a vector's row, over the sets of the control cells that are on and of the nets with value 1. Assumes nothing.
use Rattle.std.specs.Prelude.{ℕ, Bool, true, false, cond, not}
use Rattle.rules.specs.File.{Board}
use Rattle.rules.specs.declared.Cell.{Cell}
use Rattle.rules.specs.declared.Cell.TheVariants.{Internal, Input, Control, ThreeState, TwoState, OpenDrain}

-- a cell's bit: `lit` says that it is on where it is a control cell or an open-drain output; `cell_bit` of the rules over any sets
unfoldable pub bit_of : Bool → (ℕ → Bool) → Cell → Bool
bit_of lit nets Internal = false
bit_of lit nets (Input n) = false
bit_of lit nets (Control on) = cond lit on (not on)
bit_of lit nets (ThreeState k n) = nets n.0
bit_of lit nets (TwoState n) = nets n.0
bit_of lit nets (OpenDrain n) = cond lit (nets n.0) true

-- the net of an output, 0 for any other cell
unfoldable pub out_net : Cell → ℕ
out_net Internal = 0
out_net (Input n) = 0
out_net (Control on) = 0
out_net (ThreeState k n) = n.0
out_net (TwoState n) = n.0
out_net (OpenDrain n) = n.0

-- the bit of the cell at c
unfoldable pub bit_at : Board → (ℕ → Bool) → (ℕ → Bool) → ℕ → Bool
bit_at b on nets c = bit_of (on c) nets (b.cell c)
