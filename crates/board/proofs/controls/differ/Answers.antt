-- An empty chain has no pair; else each driver is held against the highest.
use Rattle.std.proofs.Common.{sym, ◌∙◌}
use Rattle.chains.specs.Table.{ControlCell}
use Rattle.chains.proofs.Walks.{Named, cell-fits, named-head}
use Rattle.chains.proofs.Brought.{keyed-controlled}
use Rattle.board.proofs.ControlChecks.{unequal-by, idle-equal}
use Rattle.board.proofs.controls.differ.Goals as goal
use Rattle.board.proofs.controls.differ.Goals.{In-Some}

-- the highest driver is one of the file's, and k's
highest : (c : In-Some) → Named c.args.board.now.file.now ControlCell c.args.k.0 c.in-Some.highest.0
highest c =
    named-head _ _ _ c.args.board.now.filled.by-control _ (cell-fits _ c.args.board.now.filled.by-control.checked _ c.requires) _ _ c.head.ensures c.in-Some.is

pub head-requires : goal.head-requires
head-requires c = cell-fits _ c.args.board.now.filled.by-control.checked _ c.requires

pub returns-in_default : goal.returns-in_default
returns-in_default c = sym (idle-equal _ _ c.args.board.now.filled.by-control _ c.requires (sym c.in_default.ensures))

pub drivers_at-first-requires : goal.drivers_at-first-requires
drivers_at-first-requires c = ((highest c).below, keyed-controlled _ _ _ (highest c).on)

pub returns : goal.returns
returns c =
    let h = highest (goal.at.returns c).In-Some in
    c.differs.ensures ∙ unequal-by _ c.args.board.now.filled.by-control.checked _ _ _ h.below h.on c.drivers_at-first.ensures
