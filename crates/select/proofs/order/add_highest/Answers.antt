-- By the test: the position comes last (ordered-add), or is left out (ordered-skip).
use mathlib.Core.Path.{sym}
use native.Mathlib.Omega.{arith}
use Rattle.select.proofs.Ordering.{room-more, ordered-add, ordered-skip}
use Rattle.select.proofs.order.add_highest.Goals as goal

pub set_spare-requires : goal.set_spare-requires
set_spare-requires c = room-more _ _ _ _ c.requires.ordered c.requires.c_bound

pub overflow_add-result : goal.overflow_add-result
overflow_add-result c =
    let r = room-more _ _ _ _ c.requires.ordered c.requires.c_bound in
    omega arith

pub returns-then-is_highest : goal.returns-then-is_highest
returns-then-is_highest c =
    rw c.set_spare.ensures (ordered-add _ _ _ _ c.requires.ordered (sym c.if-is_highest.ensures) c.requires.c_bound)

pub returns : goal.returns
returns c = ordered-skip _ _ _ _ c.requires.ordered (sym c.if-is_highest.ensures)
