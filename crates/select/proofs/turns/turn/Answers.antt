-- Each way out is one case of what the pass does where it stops (to-marked, to-joined).
use native.Mathlib.Omega.{arith}
use Rattle.rules.proofs.DriverLaws.{control-below}
use Rattle.chains.proofs.SharingLaws.{net-fits, control-fits}
use Rattle.select.proofs.Passing.{whole_at, holds_same, to-marked, to-joined, marked-told, reached-told}
use Rattle.select.proofs.turns.turn.Goals as goal

pub has-requires : goal.has-requires
has-requires c =
    let at = c.requires.on_board in
    (omega arith, net-fits _ _ (whole_at c.requires.ready at.1) _ _ at.2)

pub returns-then-has : goal.returns-then-has
returns-then-has c on h =
    let at = c.requires.on_board in
    holds_same (to-marked _ on _ (marked-told _ _ c.requires.ready _ at.1 _ at.2 on _ _ h.covered-are c.has.ensures c.if-has.true)) h

pub nets_of-nets-requires-clause-k_bound : goal.nets_of-nets-requires-clause-k_bound
nets_of-nets-requires-clause-k_bound c =
    let at = c.requires.on_board in
    control-below _ c.requires.ready.by-control.checked _ at.1 _ _ at.2

pub turn_on-requires : goal.turn_on-requires
turn_on-requires c =
    let at = c.requires.on_board in
    let long = c.requires.on_len in
    let fits = control-fits _ _ (whole_at c.requires.ready at.1) _ _ at.2 in
    omega arith

pub returns : goal.returns
returns c on h =
    let at = c.requires.on_board in
    holds_same (to-joined _ on _ (reached-told _ _ c.requires.ready _ at.1 _ at.2 on)) (c.turn_on.ensures _ c.nets_of-nets.ensures on h)
