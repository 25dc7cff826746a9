-- One net more is one byte more in the bytes lent and one mark more among those counted (marked_more); the loop's end is marked-all.
use Rattle.std.proofs.Common.{◌≡◌, ◌∙◌, ap, arith}
use Rattle.std.proofs.lemmas.List.{length-take-le}
use Rattle.rules.specs.Marks.{byte_of}
use Rattle.marks.proofs.MarkedLaws.{marked-none, marked_more, marked-all, marked-bounded}
use Rattle.marks.proofs.write_marks.Goals as goal

pub loop-n-init : goal.loop-n-init
loop-n-init c = let zero = c.default-counts.ensures in marked-none _ _ _ zero.0 zero.1.0 zero.1.1

pub count_mark-counts-requires : goal.count_mark-counts-requires
count_mark-counts-requires c =
    let long = length-take-le _ _ c.requires.nets_in_bounds in
    marked-bounded _ _ c.loop-n.invariant (omega arith)

pub loop-n-preserved : goal.loop-n-preserved
loop-n-preserved c =
    marked_more _ _ c.loop-n.invariant c.loop-n-test.true _ _ (c.from.ensures ∙ ap byte_of c.mark_of-mark.ensures) (c.count_mark-counts.ensures ∙ cc)

pub returns : goal.returns
returns c =
    let long = length-take-le _ _ c.requires.nets_in_bounds in
    let done : c.loop-n.n ≡ c.args.nets = omega arith in
    marked-all _ _ (rw done at c.loop-n.invariant) c.requires.nets_in_bounds
