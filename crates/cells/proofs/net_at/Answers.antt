-- A record that is not broken means the cell that has its very net.
use Prim.Native.Nat.{ℕ, ◌+◌}
use mathlib.Core.Path.{◌≡◌, sym, ◌∙◌}
use mathlib.Core.List.{List}
use native.Mathlib.Omega.{arith}
use Rattle.rules.specs.File.{record_at, board_of, number_at, net_at, broken_at, net_of}
use Rattle.rules.proofs.RecordLaws.{record-says}
use Rattle.rules.proofs.Shape.{whole-records}
use Rattle.cells.specs.Whole.{Whole}
use Rattle.cells.proofs.WholeLaws.{whole-bounded, in-record}
use Rattle.cells.proofs.net_at.Goals as goal

as_read : (file : List ℕ) (p at : ℕ) → Whole file p → at ≡ record_at p → number_at file (at + 4) ≡ net_of ((board_of file).cell p)
unfolding board_of broken_at net_at
as_read file p at w e =
    rw e (sym (record-says file p (whole-records file w.checked p w.below)).net-is)

pub record_start-requires : goal.record_start-requires
record_start-requires c = whole-bounded _ _ c.requires

pub overflow_add-record_start : goal.overflow_add-record_start
overflow_add-record_start c = let h = in-record _ _ _ c.requires c.record_start.ensures in omega arith

pub pair-requires : goal.pair-requires
pair-requires c = let h = in-record _ _ _ c.requires c.record_start.ensures in omega arith

pub returns : goal.returns
returns c = c.pair.ensures ∙ as_read _ _ _ c.requires c.record_start.ensures
