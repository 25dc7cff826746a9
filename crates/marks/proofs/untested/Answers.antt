-- Three times the set of nothing: before the first cell no test is passed.
use Rattle.base.specs.Tests.{any}
use Rattle.marks.proofs.untested.Goals as goal

pub returns : goal.returns
unfolding any
returns c b readings =
    let e = c.empty-none.ensures in
    record { seen = λ n. rw e; failed = λ n. rw e; twice = λ n. rw e }
