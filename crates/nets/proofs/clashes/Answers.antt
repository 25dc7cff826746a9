-- A lone output clashes with none.
use Rattle.nets.proofs.Clashing.{alone-clear}
use Rattle.nets.proofs.clashes.Goals as goal

pub returns-else-not-alone : goal.returns-else-not-alone
returns-else-not-alone c = rw c.if-not-alone.false (alone-clear _ _ (c.alone.ensures.alone c.if-not-alone.false))
