-- The function's own table is blank.
use Rattle.chains.proofs.TableLaws.{blank}
use Rattle.rigcandle.proofs.groups.Goals as goal

pub ask_groups-requires : goal.ask_groups-requires
ask_groups-requires c = blank
