-- One entry more is one call of f.
use Rattle.std.proofs.Common.{◌≡◌, ◌<◌, ℕ, arith, subst}
use Rattle.std.proofs.lemmas.List.{length-take-le}
use Rattle.readings.proofs.MappedLaws.{mapped-none, entry_old, mapped-more, mapped-all}
use Rattle.readings.proofs.codes.map_entries.Goals as goal

pub loop-c-init : goal.loop-c-init
loop-c-init g c = mapped-none _

pub f-requires : goal.f-requires
f-requires g c =
    let long = length-take-le _ _ c.requires.cells_in_bounds in
    let below : c.loop-c.c < c.args.cells = omega arith in
    subst (λ (e : ℕ). goal.F-pre g c.args.f c.loop-c.c e) (entry_old _ _ _ _ c.loop-c.invariant below) (c.requires.callable _ below)

pub loop-c-preserved : goal.loop-c-preserved
loop-c-preserved g c = mapped-more c.loop-c.invariant c.loop-c-test.true _ c.f.ensures

pub returns : goal.returns
returns g c =
    let long = length-take-le _ _ c.requires.cells_in_bounds in
    let done : c.loop-c.c ≡ c.args.cells = omega arith in
    mapped-all _ _ _ (rw done at c.loop-c.invariant) c.requires.cells_in_bounds
