-- Laws of input cells: what makes a cell one, and that on a whole file its net is one of the board's.
use Prim.Native.Nat.{ℕ, ◌*◌, ◌<◌, ◌≤◌}
use mathlib.Core.Path.{◌≡◌, refl, sym, ◌∙◌, ap}
use mathlib.Core.Bool.{true, false}
use mathlib.Core.List.{List}
use native.Mathlib.Omega.{arith}
use borrow.Author.Tests.{eq-eqb, ltb-true}
use lib.Dec.{eqb}
use Rattle.std.specs.Prelude.{Some, None}
use Rattle.rules.specs.File.{Board, board_of, cells_of, nets_of, kind_of, net_of, kind_at, broken_at}
use Rattle.rules.specs.Drivers.{is_input, on_net}
use Rattle.rules.specs.Marks.{input_of}
use Rattle.rules.specs.Refusals.{judge, file_checks, Accepted}
use Rattle.rules.specs.declared.Cell.{Cell}
use Rattle.rules.specs.declared.Cell.TheVariants.{Internal, Input, Control, ThreeState, TwoState, OpenDrain}
use Rattle.rules.specs.declared.Net.{Net}
use Rattle.rules.proofs.RecordLaws.{SaysAt, record-says}
use Rattle.rules.proofs.Shape.{laid, shaped, whole-records}
use Rattle.words.specs.Sets.{net_words}
use Rattle.marks.specs.Judging.{read, Readings, reader_in}

-- what an input cell is
record Reads (cell : Cell) (n : Net) : Type 0 where
  kind : kind_of cell ≡ 1
  net : net_of cell ≡ n.0

reads_of : (cell : Cell) (n : Net) → reader_in cell ≡ Some n → Reads cell n
unfolding reader_in kind_of net_of
reads_of Internal n e = absurd cc
reads_of (Input m) n e = let p : m ≡ n = cc in record { kind = refl; net = ap (λ (x : Net). x.0) p }
reads_of (Control on) n e = absurd cc
reads_of (ThreeState k m) n e = absurd cc
reads_of (TwoState m) n e = absurd cc
reads_of (OpenDrain m) n e = absurd cc

reads_none : (cell : Cell) → reader_in cell ≡ None → eqb (kind_of cell) 1 ≡ false
unfolding reader_in kind_of
reads_none Internal e = refl
reads_none (Input m) e = absurd cc
reads_none (Control on) e = refl
reads_none (ThreeState k m) e = refl
reads_none (TwoState m) e = refl
reads_none (OpenDrain m) e = refl

module _ (b : Board) (c : ℕ) where
  pub is-input : (n : Net) → reader_in (b.cell c) ≡ Some n → (is_input b c ≡ true) × (net_of (b.cell c) ≡ n.0)
  unfolding is_input
  is-input n e = let r = reads_of (b.cell c) n e in (eq-eqb _ _ r.kind, r.net)

  pub no-input : reader_in (b.cell c) ≡ None → is_input b c ≡ false
  unfolding is_input
  no-input e = reads_none (b.cell c) e

  -- an input cell is of its own net and of no other, any other cell of none
  pub own-net : (n : Net) → reader_in (b.cell c) ≡ Some n → (m : ℕ) → on_net b m c ≡ eqb n.0 m
  unfolding on_net
  own-net n e m = rw (is-input n e).1

  pub own-input : (n : Net) → reader_in (b.cell c) ≡ Some n → (m : ℕ) → input_of b m c ≡ eqb n.0 m
  unfolding input_of
  own-input n e m = rw ((is-input n e).0, own-net n e m)

  pub no-net : reader_in (b.cell c) ≡ None → (m : ℕ) → input_of b m c ≡ false
  unfolding input_of
  no-net e m = rw (no-input e)

-- on a whole file an input cell's net is on the board, and fits a set
module _ (file : List ℕ) (ok : judge (file_checks file) ≡ Accepted) (c : ℕ) (l : c < cells_of file) (n : Net) (e : reader_in ((board_of file).cell c) ≡ Some n) where
  says : SaysAt file c ((board_of file).cell c)
  unfolding board_of broken_at
  says = record-says file c (whole-records file ok c l)

  pub net-below : n.0 < nets_of file
  net-below =
      let r = reads_of ((board_of file).cell c) n e in
      let k : kind_at file c ≡ 1 = sym says.kind-is ∙ r.kind in
      rw (← r.net, says.net-is) (ltb-true _ _ (says.has-net (rw k)))

  pub net-fits : n.0 < 64 * net_words
  net-fits = let b = net-below in let f = (laid file (shaped file ok)).nets.at_most in omega arith

-- and so does the net whose own word a cell read
pub entry-fits : (file readings : List ℕ) → Readings file readings → (c : ℕ) → c < cells_of file → read readings c ≤ 64 * net_words
entry-fits file readings r c l =
    let n = r.nets c l in
    let f = (laid file (shaped file r.checked)).nets.at_most in
    omega arith
