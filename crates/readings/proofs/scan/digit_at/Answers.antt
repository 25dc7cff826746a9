-- The byte shifted down by i, and its lowest digit, is digit i.
use Rattle.base.proofs.WordLaws.{read-digit}
use Rattle.readings.proofs.scan.digit_at.Goals as goal

pub returns : goal.returns
returns c = read-digit c.args.byte c.args.i
