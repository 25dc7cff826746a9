-- Two stores, as the definition has them.
use borrow.Author.Rules.{rules}
use Rattle.chains.specs.Table.{spliced}
use Rattle.chains.proofs.splice.Goals as goal

pub returns : goal.returns
unfolding spliced
returns c = search rules
