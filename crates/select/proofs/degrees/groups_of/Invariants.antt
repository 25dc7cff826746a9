-- G of the nets below n, grown by net n.
use mathlib.Core.Path.{◌≡◌}
use Rattle.select.proofs.Largest.{so_far}
use Rattle.select.proofs.degrees.groups_of.Given as goal

abbrev pub invariant-loop-n : goal.invariant-loop-n
invariant-loop-n l = l.most ≡ so_far l.file l.n
