-- `words::Set::empty` meets its contract: words that are zero have no member.
use native.Mathlib.Omega.{arith}
use Rattle.words.proofs.SetLaws.{member-zero}
use Rattle.words.proofs.Set.empty.Goals as goal

pub returns : goal.returns
returns g c = member-zero g.row.W _ (omega arith)
