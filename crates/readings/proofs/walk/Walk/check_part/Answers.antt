-- Where nothing is inserted all stay.
use Rattle.std.proofs.Common.{arith}
use Rattle.readings.proofs.Following.{left-part, left-bare}
use Rattle.readings.proofs.walk.Walk.check_part.Goals as goal

pub returns-then-span-eq0 : goal.returns-then-span-eq0
returns-then-span-eq0 c = left-bare _ _ _ _ _ _ _ _ _ c.requires.part c.if-span-eq0.true

pub returns : goal.returns
returns c = left-part _ _ _ _ _ _ _ c.requires.part (omega arith) c.check_inserted.ensures
