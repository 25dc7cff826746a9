-- The digits of N + 1 are counted by what is left of 64 above them.
use native.Mathlib.Omega.{arith}
use Rattle.plan.proofs.WidthLaws.{digits-width}
use Rattle.plan.proofs.codes.width.Goals as goal

pub returns : goal.returns
returns c = digits-width 64 c.args.nets (omega arith)
