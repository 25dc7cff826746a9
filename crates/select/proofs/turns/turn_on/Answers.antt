-- Where its nets meet those that are covered, nothing changes; else the cell joins the list, and its nets those that are covered.
use Rattle.select.proofs.Passing.{on-grown, covered-grown, not-joined, joins, holds_same}
use Rattle.select.proofs.turns.turn_on.Goals as goal

pub returns-then-meets : goal.returns-then-meets
returns-then-meets c b n on h =
    holds_same (not-joined _ _ _ _ _ _ n h.covered-are c.meets.ensures c.if-meets.true) h

pub returns : goal.returns
returns c b n on h =
    holds_same
    (joins _ _ _ _ _ _ n h.covered-are c.meets.ensures c.if-meets.false)
    (record {
      on-are = on-grown _ _ _ _ h.on-are c.add.ensures;
      covered-are = covered-grown _ _ _ _ _ _ n h.covered-are c.union.ensures;
    })
