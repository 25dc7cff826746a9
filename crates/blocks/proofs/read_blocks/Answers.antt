-- `blocks::read_blocks` meets its contract: the block that reading refuses is the lowest. The rest is the search's.
use Rattle.std.proofs.Common.{[], arith}
use Rattle.std.proofs.lemmas.Result.{err_from_is_err_and}
use Rattle.rules.specs.File.{blocks_in}
use Rattle.rules.proofs.CheckLaws.{found}
use Rattle.blocks.proofs.ReadingLaws.{refused}
use Rattle.blocks.proofs.read_blocks.Goals as goal

pub returns-in_err-head : goal.returns-in_err-head
unfolding blocks_in
returns-in_err-head c =
    let r = refused _ _ c.in_err-head.ensures in
    let given = err_from_is_err_and c.from_residual.result c.from_residual.ensures.1 in
    rw (given.1, given.2, r.1) (found 2 [] c.loop-i.invariant.0 (omega arith) r.0)
