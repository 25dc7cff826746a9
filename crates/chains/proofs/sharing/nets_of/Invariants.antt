-- A walk along k's chain that gathers the nets of its drivers.
use Rattle.std.specs.Prelude.{ℕ, Bool, List}
use Rattle.rules.specs.File.{board_of, cells_of}
use Rattle.words.specs.Sets.{member, nothing}
use Rattle.chains.specs.Table.{ControlCell, entry_of}
use Rattle.chains.specs.Chains.{keyed}
use Rattle.chains.proofs.Gathering.{Gathered}
use Rattle.chains.proofs.Brought.{brings}
use Rattle.chains.proofs.sharing.nets_of.Given as goal

-- the nets of k, gathered down to `at`
abbrev pub Nets : List ℕ → ℕ → (ℕ → Bool) → ℕ → Type 0
Nets file k so_far at = Gathered (keyed (board_of file) ControlCell k) (brings (board_of file) k) nothing so_far (cells_of file) at

abbrev pub invariant-loop-at : goal.invariant-loop-at
invariant-loop-at l = Nets l.file l.fn.k.0 (member l.words) (entry_of l.at)

abbrev pub decreases-loop-at : goal.decreases-loop-at
decreases-loop-at l = entry_of l.at
