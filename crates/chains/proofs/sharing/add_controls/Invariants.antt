-- A walk along n's chain that gathers the control cells of its drivers.
use Rattle.rules.specs.File.{board_of, cells_of}
use Rattle.words.specs.Sets.{member}
use Rattle.chains.specs.Table.{NetOf, entry_of}
use Rattle.chains.specs.Chains.{keyed}
use Rattle.chains.proofs.Gathering.{Gathered}
use Rattle.chains.proofs.Brought.{brings_above}
use Rattle.chains.proofs.sharing.add_controls.Given as goal

-- the control cells of n above floor, gathered down to `at`
abbrev pub invariant-loop-at : goal.invariant-loop-at
invariant-loop-at l =
    Gathered (keyed (board_of l.file) NetOf l.fn.n.0) (brings_above (board_of l.file) l.floor.0 l.fn.n.0)
    (member l.fn.met.words) (member l.more.words) (cells_of l.file) (entry_of l.at)

abbrev pub decreases-loop-at : goal.decreases-loop-at
decreases-loop-at l = entry_of l.at
