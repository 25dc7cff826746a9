-- `blocks::shape_verdict` meets its contract: what the blocks hold of their heads goes along to check 5. The rest is the search's.
use Rattle.std.proofs.Common.{sym}
use Rattle.blocks.specs.Places.{Headed}
use Rattle.blocks.proofs.Shaping.{accepted-length, heads-positive}
use Rattle.blocks.proofs.shape_verdict.Goals as goal

pub layout_verdict-requires : goal.layout_verdict-requires
layout_verdict-requires c =
    let told : Headed c.args.file.now c.in_ok-heads.heads = record { right = accepted-length _ c.in_ok-length_verdict.ensures; heads-are = c.in_ok-heads.ensures.1 } in
    record { headed = told; header = heads-positive _ _ told (sym c.in_ok-header_verdict.ensures); told = c.read_sizes.ensures.cells }
