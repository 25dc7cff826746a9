-- The marks of the nets below n stand in the bytes lent and are counted. One net more is one byte more of both.
use Rattle.std.proofs.Common.{take}
use Rattle.marks.specs.Judging.{Marked}
use Rattle.marks.proofs.write_marks.Given as goal

abbrev pub invariant-loop-n : goal.invariant-loop-n
invariant-loop-n l = Marked l.tests l.n (take l.nets l.fn.out) l.byte-items l.counts
