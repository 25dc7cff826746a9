-- The first j bytes of the row's place are the row's.
use Prim.Native.Nat.{ℕ, ◌<◌}
use mathlib.Core.Path.{◌≡◌}
use lib.ListN.{get_or}
use Rattle.rules.specs.Rows.{row_of}
use Rattle.words.specs.Sets.{member}
use Rattle.rows.proofs.bytes.write_row.Given as goal

abbrev pub invariant-loop-j : goal.invariant-loop-j
invariant-loop-j l = (k : ℕ) → k < l.j → get_or l.byte-items k 0 ≡ get_or (row_of l.cells (member l.words)) k 0
