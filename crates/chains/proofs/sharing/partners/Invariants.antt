-- A walk along k's chain that gathers the control cells of its drivers' nets.
use Rattle.rules.specs.File.{board_of, cells_of}
use Rattle.words.specs.Sets.{member, nothing}
use Rattle.chains.specs.Table.{ControlCell, entry_of}
use Rattle.chains.specs.Chains.{keyed}
use Rattle.chains.proofs.Gathering.{Gathered}
use Rattle.chains.proofs.Brought.{shares_above}
use Rattle.chains.proofs.sharing.partners.Given as goal

abbrev pub invariant-loop-at : goal.invariant-loop-at
invariant-loop-at l =
    Gathered (keyed (board_of l.file) ControlCell l.k.0) (shares_above (board_of l.file) l.k.0) nothing (member l.set.words) (cells_of l.file)
    (entry_of l.at)

abbrev pub decreases-loop-at : goal.decreases-loop-at
decreases-loop-at l = entry_of l.at
