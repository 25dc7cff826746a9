-- Entry by entry.
use Rattle.std.proofs.Common.{rules}
use Rattle.readings.proofs.MappedLaws.{mapped_as}
use Rattle.readings.proofs.codes.own_codes.Goals as goal

pub returns : goal.returns
returns c = mapped_as c.map_entries.ensures (λ d e x p. search rules)
