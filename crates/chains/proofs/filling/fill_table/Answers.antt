-- A blank table is that of no position; the invariant: that of the positions below c. One position more is enter's.
use native.Mathlib.Omega.{arith}
use Rattle.chains.proofs.Entering.{enter-first}
use Rattle.chains.proofs.Walks.{cells_fit}
use Rattle.chains.proofs.filling.fill_table.Goals as goal

pub overflow_cast-c : goal.overflow_cast-c
overflow_cast-c c =
    let e = c.requires.cells_are in
    let f = cells_fit _ c.requires.checked in
    let t = c.loop-c-test.true in
    omega arith

pub loop-c-init : goal.loop-c-init
loop-c-init c = enter-first _ c.requires.checked _ c.requires.blank
