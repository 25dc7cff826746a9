-- Entry by entry.
use Rattle.std.proofs.Common.{rules}
use Rattle.readings.proofs.MappedLaws.{mapped_as, byte_inside}
use Rattle.readings.proofs.walk.clear.Goals as goal

pub map_entries-requires : goal.map_entries-requires
map_entries-requires c =
    let few = c.requires.scanned.cells-bounded in
    record { cells_in_bounds = c.requires.cells_in_bounds; callable = λ d l. let inside = byte_inside _ _ _ _ c.requires.scanned l in search rules }

pub returns : goal.returns
returns c = mapped_as c.map_entries.ensures (λ d e x p. search rules)
