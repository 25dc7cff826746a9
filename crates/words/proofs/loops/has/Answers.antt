-- `words::loops::has` meets its contract: the word shifted down by k, and its lowest digit, is digit k.
use Prim.Native.Nat.{◌/◌, ◌%◌}
use lib.ListN.{get_or}
use Rattle.base.proofs.WordLaws.{read-digit}
use Rattle.words.specs.Sets.{member}
use Rattle.words.proofs.loops.has.Goals as goal

pub returns : goal.returns
unfolding member
returns c =
    let i = c.args.i in
    read-digit (get_or c.args.words.now (i / 64) 0) (i % 64)
