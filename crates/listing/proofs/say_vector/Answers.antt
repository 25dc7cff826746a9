-- The row has room for any board's.
use Rattle.std.proofs.Common.{arith}
use Rattle.listing.proofs.Short.{cells-within, row-short}
use Rattle.listing.proofs.say_vector.Goals as goal

pub write_vector-group-requires : goal.write_vector-group-requires
write_vector-group-requires g c =
    let p = c.requires in
    let short = row-short _ (cells-within _ _ _ p.ready p.cells_value) in
    record { ready = p.ready; cells_are = p.cells_value; planned = p.plan_of; below = p.t_bound; long = short }

pub row_bytes-bytes-requires : goal.row_bytes-bytes-requires
row_bytes-bytes-requires g c = let l = cells-within _ _ _ c.requires.ready c.requires.cells_value in omega arith

pub slice_bounds-say_row-end : goal.slice_bounds-say_row-end
slice_bounds-say_row-end g c =
    let short = row-short _ (cells-within _ _ _ c.requires.ready c.requires.cells_value) in
    let e = c.row_bytes-bytes.ensures in
    omega arith

pub say_row-requires : goal.say_row-requires
say_row-requires g c =
    let short = row-short _ (cells-within _ _ _ c.requires.ready c.requires.cells_value) in
    let e = c.row_bytes-bytes.ensures in
    omega arith
