-- A block is 8 bytes longer than its 84 records, so the two ways to count agree.
use native.Mathlib.Omega.{arith}
use Rattle.rules.specs.File.{record_at, block_at}
use Rattle.cells.proofs.record_start.Goals as goal

pub returns : goal.returns
unfolding record_at block_at
returns c = let b = c.block_of.ensures in omega arith

pub block_of-requires : goal.block_of-requires
block_of-requires c = c.requires
