-- The highest drivers below c, grown position by position.
use native.Mathlib.Omega.{arith}
use Rattle.select.proofs.Ordering.{ready-fits, ordered-none}
use Rattle.select.proofs.order.fill_order.Goals as goal

pub loop-c-init : goal.loop-c-init
loop-c-init c = ordered-none _ _ c.requires.ready

pub overflow_cast-c : goal.overflow_cast-c
overflow_cast-c c = let f = ready-fits _ _ c.requires.ready in omega arith
