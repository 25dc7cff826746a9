-- The program's own table is blank.
use Rattle.chains.proofs.TableLaws.{blank}
use Rattle.listing.proofs.main.Goals as goal

pub list-requires : goal.list-requires
list-requires c = blank
