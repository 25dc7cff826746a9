-- The bit decides whether the cell joins the row.
use Prim.Native.Nat.{ℕ, ◌*◌, ◌<◌}
use mathlib.Core.Path.{◌≡◌, sym, ◌∙◌, subst}
use mathlib.Core.Bool.{Bool}
use native.Mathlib.Omega.{arith}
use Rattle.rules.specs.File.{Board}
use Rattle.rules.specs.declared.Cell.{Cell}
use Rattle.words.specs.Sets.{net_words, cell_words}
use Rattle.words.proofs.SetLaws.{plus-passes, plus-fails}
use Rattle.chains.proofs.Walks.{cell-fits}
use Rattle.rows.specs.Bits.{bit_of, bit_at, out_net}
use Rattle.rows.proofs.BitLaws.{out-net-bounded}
use Rattle.rows.proofs.vectors.add_bit.Goals as goal
use Rattle.rows.proofs.vectors.add_bit.Goals.{Start}

-- a position is a cell of a set of cells
cell-within : (s : Start) → s.args.c.0 < 64 * cell_words
cell-within s = let p = s.requires.whole in cell-fits _ p.checked _ p.below

pub cell_bit-requires : goal.cell_bit-requires
cell_bit-requires c =
    let long = c.requires.on_len.0 in
    let wide = c.requires.on_len.1 in
    let within = cell-within (goal.at.cell_bit-requires c).Start in
    let n = out-net-bounded _ c.requires.whole.checked _ c.requires.whole.below in
    let m : out_net c.cell_at.result < 64 * net_words = subst (λ (x : Cell). out_net x < 64 * net_words) (sym c.cell_at.ensures) n in
    (omega arith, omega arith)

pub add-requires : goal.add-requires
add-requires c =
    let within = cell-within (goal.at.add-requires c).Start in
    let long = c.requires.on_len.2 in
    omega arith

-- the bit found is the cell's
told :
    (b : Board) (cell : Cell) (on nets : ℕ → Bool) (r a : Bool) (c : ℕ) →
    cell ≡ b.cell c →
    r ≡ bit_of (on c) nets cell →
    r ≡ a →
    bit_at b on nets c ≡ a
unfolding bit_at
told b cell on nets r a c e g h = cc

pub returns-then-cell_bit : goal.returns-then-cell_bit
returns-then-cell_bit c =
    c.add.ensures
    ∙ plus-passes _ _ _ (told _ _ _ _ _ _ _ c.cell_at.ensures c.cell_bit.ensures c.if-cell_bit.true)

pub returns-else-cell_bit : goal.returns-else-cell_bit
returns-else-cell_bit c =
    plus-fails _ _ _ (told _ _ _ _ _ _ _ c.cell_at.ensures c.cell_bit.ensures c.if-cell_bit.false)
