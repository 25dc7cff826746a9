-- An input cell's net fits a set (net-fits). What the cell is and what it read decide which sets grow (grown-none, grown-own, grown-other).
use Rattle.std.proofs.Common.{refl, arith}
use Rattle.marks.proofs.InputLaws.{net-fits, entry-fits}
use Rattle.marks.proofs.TestedLaws.{grown-none, grown-own, grown-other}
use Rattle.marks.proofs.add_reading.Goals as goal

pub returns-in_default : goal.returns-in_default
returns-in_default c = grown-none _ _ _ _ c.requires.tested_below cc

pub with-seen-requires : goal.with-seen-requires
with-seen-requires c = (omega arith, net-fits _ c.requires.readings.checked _ c.requires.c_bound _ cc)

pub overflow_add-net : goal.overflow_add-net
overflow_add-net c = let f = net-fits _ c.requires.readings.checked _ c.requires.c_bound c.in-Some.net (cc) in omega arith

pub returns-then-entry-net : goal.returns-then-entry-net
returns-then-entry-net c =
    grown-own _ _ _ _ c.requires.tested_below _ (cc) _ c.with-seen.ensures refl refl c.if-entry-net.true

pub with-failed-requires : goal.with-failed-requires
with-failed-requires c = (omega arith, net-fits _ c.requires.readings.checked _ c.requires.c_bound _ cc)

pub with_read-twice-requires : goal.with_read-twice-requires
with_read-twice-requires c = entry-fits _ _ c.requires.readings _ c.requires.c_bound

pub returns : goal.returns
returns c =
    grown-other _ _ _ _ c.requires.tested_below _ (cc) _ c.with-seen.ensures c.with-failed.ensures c.with_read-twice.ensures c.if-entry-net.false
