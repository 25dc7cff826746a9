-- Where no cell is both left and unlike, the byte stays (byte-stays).
use Rattle.std.proofs.Common.{arith}
use Rattle.readings.proofs.LeftLaws.{byte-stays}
use Rattle.readings.proofs.scan.sift_byte.Goals as goal

pub returns-then-byte-unlike-eq0 : goal.returns-then-byte-unlike-eq0
returns-then-byte-unlike-eq0 c = let f = c.type_inv.left c.args.j in byte-stays _ _ _ _ _ (omega arith) c.if-byte-unlike-eq0.true
