-- `rules::each` meets its contract, by the laws of the search for a check's lowest place.
use Rattle.std.proofs.Common.{◌<◌, sym, ◌∙◌, [], arith}
use Rattle.base.proofs.TestLaws.{search-next}
use Rattle.rules.proofs.CheckLaws.{found, ended}
use Rattle.rules.proofs.each.Goals as goal

pub returns-then-fails : goal.returns-then-fails
returns-then-fails g c test computes =
    let l : c.loop-place.place < c.args.places = omega arith in
    c.refuse.ensures ∙ sym (found _ [] (c.loop-place.invariant test computes) l (sym (computes _ _ l c.fails.ensures) ∙ c.if-fails.true))

pub loop-place-preserved : goal.loop-place-preserved
loop-place-preserved g c test computes =
    let l : c.loop-place.place < c.args.places = omega arith in
    search-next (c.loop-place.invariant test computes) l (sym (computes _ _ l c.fails.ensures) ∙ c.if-fails.false)

pub returns : goal.returns
returns g c test computes = sym (ended _ (c.loop-place.invariant test computes) (omega arith))
