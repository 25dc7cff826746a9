-- The function's own table is blank.
use Rattle.chains.proofs.TableLaws.{blank}
use Rattle.rigcandle.proofs.vector.Goals as goal

pub ask_vector-requires : goal.ask_vector-requires
ask_vector-requires c = blank
