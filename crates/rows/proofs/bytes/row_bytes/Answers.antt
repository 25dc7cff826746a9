-- The library's division rounded up is `ceil`.
use native.Mathlib.Omega.{arith}
use Rattle.base.specs.Digits.{ceil}
use Rattle.rules.specs.Rows.{row_bytes}
use Rattle.rows.proofs.bytes.row_bytes.Goals as goal

pub returns : goal.returns
unfolding row_bytes ceil
returns c = omega (arith, c.div_ceil.ensures)
