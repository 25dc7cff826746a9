-- Vector by vector (left-later).
use Rattle.readings.proofs.LeftLaws.{left-zero}
use Rattle.readings.proofs.Following.{left-later}
use Rattle.readings.proofs.walk.Walk.check_later.Goals as goal

pub loop-u-init : goal.loop-u-init
loop-u-init c = left-zero _ _ _

pub loop-u-preserved : goal.loop-u-preserved
loop-u-preserved c = left-later _ _ _ _ _ _ c.empty-none.ensures c.loop-u.invariant c.check_rows.ensures
