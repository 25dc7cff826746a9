-- One store; the number fits, since it is below the most cells.
use borrow.Author.Rules.{rules}
use Rattle.chains.specs.Table.{one_more}
use Rattle.chains.proofs.count_driver.Goals as goal

pub returns : goal.returns
unfolding one_more
returns c = search rules
