-- The table of an admitted board is its own.
use Rattle.std.proofs.Common.{sym}
use Rattle.listing.proofs.list.Goals as goal

pub say_vectors-requires : goal.say_vectors-requires
say_vectors-requires g c = (c.in-Ok.ensures.admitted (sym c.in-Ok.ensures.value)).ready
