-- A walk along n's outputs that gathers their control cells (Met): one that is always on, or a control cell met again, is the clash.
use Rattle.std.proofs.Common.{◌≤◌}
use Rattle.rules.specs.File.{board_of, cells_of}
use Rattle.words.specs.Sets.{member}
use Rattle.chains.specs.Table.{entry_of}
use Rattle.nets.proofs.Clashing.{Met}
use Rattle.nets.proofs.several_clash.Given as goal

abbrev pub invariant-loop-at : goal.invariant-loop-at
invariant-loop-at l = record {
  meeting : Met (board_of l.file) l.fn.n.0 (entry_of l.at) (member l.met);
  under : entry_of l.at ≤ cells_of l.file;
}

abbrev pub decreases-loop-at : goal.decreases-loop-at
decreases-loop-at l = entry_of l.at
