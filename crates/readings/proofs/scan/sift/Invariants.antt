-- Digit by digit.
use Rattle.std.proofs.Common.{◌≡◌}
use Rattle.base.specs.Digits.{word}
use Rattle.words.specs.Sets.{member}
use Rattle.readings.specs.Readings.{staying}
use Rattle.readings.proofs.scan.sift.Given as goal

abbrev pub invariant-loop-i : goal.invariant-loop-i
invariant-loop-i l = l.kept ≡ word l.i (staying l.left l.unlike (member l.changing.words) l.entries)
