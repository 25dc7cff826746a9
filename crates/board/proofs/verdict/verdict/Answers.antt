-- The function's own table is blank.
use Rattle.chains.proofs.TableLaws.{blank}
use Rattle.board.proofs.verdict.verdict.Goals as goal

pub examine-requires : goal.examine-requires
examine-requires c = blank

pub returns : goal.returns
returns c = c.examine.ensures.value
