-- `blocks::zeros` meets its contract: the digits are none exactly where each byte so far is zero.
use Rattle.std.proofs.Common.{◌≡◌, ◌-◌, ◌≤◌, eqb}
use Rattle.rules.specs.File.{zeros}
use Rattle.blocks.proofs.zeros.Given as goal

-- the loop does not run where `to` is not past `from`
abbrev pub invariant-loop-at : goal.invariant-loop-at
invariant-loop-at l = (l.at - l.from ≤ l.to - l.from) × (eqb l.digits 0 ≡ zeros l.file l.from l.at)
