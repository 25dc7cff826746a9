-- The first group, and then the later ones.
use Rattle.readings.proofs.Following.{left-lost}
use Rattle.readings.proofs.walk.Walk.check_all.Goals as goal

pub returns : goal.returns
returns c = left-lost _ _ _ _ _ c.check_first-first.ensures.value c.check_first-first.ensures.left c.check_later.ensures
