-- The codes, those of nets, and the cells that are left.
use Rattle.std.proofs.Common.{ℕ, ◌*◌, ◌≤◌, arith}
use Rattle.base.specs.Digits.{ceil}
use Rattle.rules.specs.Rows.{row_bytes}
use Rattle.readings.proofs.CapturePlaces.{rowed}
use Rattle.readings.proofs.MappedLaws.{entries_below}
use Rattle.readings.proofs.Decoding.{captured}
use Rattle.readings.proofs.Naming.{own_entries, all_read}
use Rattle.readings.proofs.walk.read_nets.Goals as goal

-- the cells are among the bits of their row
cells_in : (cells : ℕ) → cells ≤ 8 * row_bytes cells
unfolding row_bytes ceil
cells_in cells = omega arith

pub read_codes-requires-clause-entries : goal.read_codes-requires-clause-entries
read_codes-requires-clause-entries c = entries_below _ _ _ _ c.requires.entries (cells_in _)

pub own_codes-requires : goal.own_codes-requires
own_codes-requires c = let l = c.requires.entries.long in omega (arith, cells_in c.args.cells, c.read_codes.ensures.long)

pub invariant_of-walk : goal.invariant_of-walk
invariant_of-walk c =
    let k = captured _ _ _ _ c.requires.captured c.row_bytes-bytes.ensures in
    record { rowed = rowed _ _ _ _ k; entries = own_entries _ _ _ _ _ _ _ k c.requires.entries c.read_codes.ensures c.own_codes.ensures }

pub clear-requires-clause-cells_in_bounds : goal.clear-requires-clause-cells_in_bounds
clear-requires-clause-cells_in_bounds c =
    let f = c.requires.captured.cells-bounded in
    let l = c.requires.entries.long in
    omega (arith, cells_in c.args.cells, c.read_codes.ensures.long, c.own_codes.ensures.long)

pub returns : goal.returns
returns c =
    let k = captured _ _ _ _ c.requires.captured c.row_bytes-bytes.ensures in
    all_read _ _ _ _ _ _ _ _ _ k c.requires.entries c.read_codes.ensures c.own_codes.ensures c.check_all.ensures c.clear.ensures
