-- The cells and the nets of a whole file fit the table: the rule that the source's attribute names.
use Prim.Native.Nat.{ℕ, ◌≤◌}
use mathlib.Core.Path.{◌≡◌}
use mathlib.Core.List.{List}
use Rattle.rules.specs.File.{nets_of}
use Rattle.rules.specs.Refusals.{judge, file_checks, most_nets, Accepted}
use Rattle.rules.proofs.Shape.{laid, shaped}
use Rattle.chains.proofs.Walks.{cells_fit}

pub nets_fit : (file : List ℕ) → judge (file_checks file) ≡ Accepted → nets_of file ≤ most_nets
nets_fit file ok = (laid file (shaped file ok)).nets.at_most

pub ruleset fits = (cells_fit, nets_fit)
