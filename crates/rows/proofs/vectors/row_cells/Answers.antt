-- The row holds the cells below c whose bit is 1.
use mathlib.Core.Path.{refl, ◌∙◌, ap}
use native.Mathlib.Omega.{arith}
use borrow.Author.Rules.{rules}
use Rattle.words.specs.Sets.{cell_words, plus_if}
use Rattle.words.proofs.SetLaws.{up_none, up-grown, member-zeros}
use Rattle.chains.proofs.Walks.{cells_fit}
use Rattle.rows.proofs.vectors.row_cells.Goals as goal

pub loop-c-init : goal.loop-c-init
loop-c-init c = (member-zeros cell_words ∙ up_none _, refl)

pub overflow_cast-c : goal.overflow_cast-c
overflow_cast-c c =
    let e = c.requires.cells_value in
    let f = cells_fit _ c.requires.file_value in
    omega arith

pub loop-c-preserved : goal.loop-c-preserved
loop-c-preserved c = (c.add_bit.ensures ∙ ap (plus_if _ _) c.loop-c.invariant.0 ∙ up-grown _ _, search rules)
