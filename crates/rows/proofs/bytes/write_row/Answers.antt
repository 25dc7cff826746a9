-- The place of the row holds the row's bytes, and the buffer's others are as they were.
use Prim.Native.Nat.{ℕ, ◌+◌, ◌*◌, ◌≤◌, ◌<◌}
use mathlib.Core.Path.{◌≡◌, refl, sym, ◌∙◌}
use mathlib.Core.Logic.{⊎_elim}
use mathlib.Core.Bool.{Bool, ◌&&◌}
use mathlib.Core.List.{List}
use native.Mathlib.Omega.{arith}
use Rattle.std.proofs.Common.{append_assoc}
use borrow.Author.Count.{below_more}
use borrow.Author.Rules.{rules}
use borrow.Author.Tests.{lt-ltb, le-ltb}
use borrow.Rule.Slice.PartMut.{put_mid}
use lib.Dec.{ltb}
use lib.ListN.{length, get_or}
use lib.Seq.{ext_get_or, drop-drop, get_or-set_same, get_or-set_other}
use Rattle.base.specs.Digits.{ceil, word}
use Rattle.base.proofs.BoolLaws.{order}
use Rattle.base.proofs.DigitLaws.{word_same}
use Rattle.base.proofs.ListLaws.{table_at}
use Rattle.rules.specs.Rows.{row_bytes, row_byte, row_of}
use Rattle.rules.proofs.RowLaws.{row-length}
use Rattle.words.specs.Sets.{cell_words, member}
use Rattle.rows.specs.Room.{placed, Cells}
use Rattle.rows.proofs.bytes.write_row.Goals as goal

-- a part of the buffer that holds the row is the row placed there
part-placed : (at k : ℕ) (row ys buffer : List ℕ) → ys ≡ row → k ≡ length row → put_mid at k buffer ys ≡ placed at row buffer
unfolding placed
part-placed at k row ys buffer e h = rw (e, h, drop-drop, append_assoc) refl

-- where no number from `cells` on is a member, the byte of 8 cells is that byte of the row: there is no spare bit to clear
own-byte : (cells : ℕ) (f : ℕ → Bool) → Cells cells f → (j : ℕ) → j < row_bytes cells → word 8 (λ i. f (8 * j + i)) ≡ get_or (row_of cells f) j 0
unfolding row_of row_byte
own-byte cells f own j l =
    word_same 8 _ _ (λ i q. each (8 * j + i)) ∙ sym (table_at (row_bytes cells) (row_byte cells f) 0 l)
  where
    each : (c : ℕ) → f c ≡ (ltb c cells && f c)
    each c =
        ⊎_elim
        (λ (q : c < cells). rw (lt-ltb c cells q))
        (λ (q : cells ≤ c). rw (le-ltb c cells q) (own.none c q))
        (order c cells)

-- a row has no more bytes than a set of cells
pub row_byte-requires : goal.row_byte-requires
unfolding row_bytes ceil
row_byte-requires c =
    let e : length c.args.set.words ≡ cell_words = search rules in
    omega (arith, c.row_bytes-count.ensures)

pub loop-j-preserved : goal.loop-j-preserved
loop-j-preserved c =
    let at = c.loop-j.j in
    let inside : at < length c.loop-j.byte-items = omega arith in
    let byte = c.row_byte.ensures ∙ own-byte c.args.cells (member c.args.set.words) c.requires.cells at (omega arith) in
    below_more _ _
    (λ k h. get_or-set_other _ at k _ 0 (λ e. omega arith) ∙ c.loop-j.invariant k h)
    (get_or-set_same _ at _ 0 inside ∙ byte)

pub returns : goal.returns
returns c =
    let r = row-length c.args.cells (member c.args.set.words) in
    part-placed _ _ _ _ _ (ext_get_or 0 _ _ (omega arith) (λ k h. c.loop-j.invariant k (omega arith))) (omega arith)
