-- The row holds the cells below c whose bit is 1.
use mathlib.Core.Path.{◌≡◌}
use lib.ListN.{length}
use Rattle.rules.specs.File.{board_of}
use Rattle.words.specs.Sets.{cell_words, member, up_to}
use Rattle.rows.specs.Bits.{bit_at}
use Rattle.rows.proofs.vectors.row_cells.Given as goal

abbrev pub invariant-loop-c : goal.invariant-loop-c
invariant-loop-c l = (member l.words ≡ up_to l.c (bit_at (board_of l.file) (member l.on.words) (member l.nets.words))) × (length l.words ≡ cell_words)
