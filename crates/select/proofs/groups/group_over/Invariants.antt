-- The cells of groups 1 to j - 1, group by group.
use Prim.Native.Nat.{◌-◌}
use mathlib.Core.Path.{◌≡◌}
use Rattle.rules.specs.File.{board_of}
use Rattle.rules.specs.Groups as Groups
use Rattle.words.specs.Sets.{member}
use Rattle.select.specs.Turns.{listed}
use Rattle.select.proofs.groups.group_over.Given as goal

abbrev pub invariant-loop-j : goal.invariant-loop-j
invariant-loop-j l = member l.earlier.words ≡ listed (Groups.earlier (board_of l.file) (l.j - 1))
