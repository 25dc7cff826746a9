-- By the kind of the cell.
use Prim.Native.Nat.{ℕ}
use mathlib.Core.Path.{◌≡◌}
use mathlib.Core.Logic.{◌⊎◌, ⊎_elim}
use mathlib.Core.Bool.{Bool, false}
use Rattle.rules.specs.declared.Cell.{Cell}
use Rattle.rules.specs.declared.Cell.TheVariants.{Internal, Input, ThreeState, TwoState}
use Rattle.rules.specs.declared.Net.{Net}
use Rattle.rules.specs.declared.Position.{Position}
use Rattle.rows.specs.Bits.{bit_of, out_net}
use Rattle.rows.proofs.vectors.cell_bit.Goals as goal

-- a cell with no bit of its own
idle : (lit : Bool) (nets : ℕ → Bool) (cell : Cell) → (cell ≡ Internal) ⊎ ((n : Net) × (cell ≡ Input n)) → false ≡ bit_of lit nets cell
unfolding bit_of
idle lit nets cell h = ⊎_elim (λ (e : cell ≡ Internal). rw e) (λ (r : (n : Net) × (cell ≡ Input n)). rw r.1) h

-- an output that is not open-drain: its net, and its bit
module _ (cell : Cell) (n : Net) (h : ((k : Position) × (cell ≡ ThreeState k n)) ⊎ (cell ≡ TwoState n)) where
  driven : out_net cell ≡ n.0
  unfolding out_net
  driven = ⊎_elim (λ (r : (k : Position) × (cell ≡ ThreeState k n)). rw r.1) (λ (e : cell ≡ TwoState n). rw e) h

  driven-bit : (lit : Bool) (nets : ℕ → Bool) → nets n.0 ≡ bit_of lit nets cell
  unfolding bit_of
  driven-bit lit nets = ⊎_elim (λ (r : (k : Position) × (cell ≡ ThreeState k n)). rw r.1) (λ (e : cell ≡ TwoState n). rw e) h

pub has-requires-in-ThreeState : goal.has-requires-in-ThreeState
has-requires-in-ThreeState c = rw (driven _ _ c.in-ThreeState.is) at c.requires.1

pub has-value-requires : goal.has-value-requires
unfolding out_net
has-value-requires c = rw c.in-OpenDrain.is at c.requires.1

pub returns-in-Internal : goal.returns-in-Internal
returns-in-Internal c = idle _ _ _ c.in-Internal.is

pub returns-then-has : goal.returns-then-has
unfolding bit_of
returns-then-has c = rw (c.in-Control.is, ← c.has.ensures, c.if-has.true)

pub returns-else-has : goal.returns-else-has
unfolding bit_of
returns-else-has c = rw (c.in-Control.is, ← c.has.ensures, c.if-has.false)

pub returns-in-ThreeState : goal.returns-in-ThreeState
returns-in-ThreeState c = rw c.has-in-ThreeState.ensures (driven-bit _ _ c.in-ThreeState.is _ _)

pub returns-then-not-turn : goal.returns-then-not-turn
unfolding bit_of
returns-then-not-turn c = rw (c.in-OpenDrain.is, ← c.has-turn.ensures, c.if-not-turn.true)

pub returns-else-not-turn : goal.returns-else-not-turn
unfolding bit_of
returns-else-not-turn c = rw (c.in-OpenDrain.is, ← c.has-turn.ensures, c.if-not-turn.false) c.has-value.ensures
