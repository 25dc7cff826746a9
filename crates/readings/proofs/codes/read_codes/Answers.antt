-- Vector t is one of the plan's (first-in), and an entry has a bit for each base vector so far (code-bounded, code-more).
use Rattle.std.proofs.Common.{◌≤◌, ◌<◌, length, arith}
use Rattle.rules.specs.Refusals.{most_width}
use Rattle.rules.specs.Vectors.{steps_of}
use Rattle.plan.specs.Plans.{bases_for}
use Rattle.plan.proofs.StepLaws.{extra-bounded}
use Rattle.readings.specs.Readings.{code_from, most_half}
use Rattle.readings.proofs.MappedLaws.{mapped-id, mapped-bounded}
use Rattle.readings.proofs.CapturePlaces.{starts_none, starts-next, rowed, row-scanned, place-bounded}
use Rattle.readings.proofs.Decoding.{first-in, code-bounded, code-more}
use Rattle.readings.proofs.codes.read_codes.Goals as goal
use Rattle.readings.proofs.codes.read_codes.Goals.{In-loop-j}

inside : (d : In-loop-j) → d.loop-j.t < length (steps_of (bases_for d.args.plan))
inside d = first-in d.args.plan _ _ d.loop-j-test.true d.loop-j.invariant.begins

pub loop-j-init : goal.loop-j-init
unfolding code_from
loop-j-init c = record { begins = starts_none _; codes = mapped-id _ _ }

pub overflow_mul-t : goal.overflow_mul-t
overflow_mul-t c = let m = place-bounded _ _ _ (rowed _ _ _ _ c.requires.captured) _ (inside c) in omega arith

pub add_row-requires-clause-scanned : goal.add_row-requires-clause-scanned
add_row-requires-clause-scanned c = row-scanned _ _ _ _ c.requires.captured _ (inside (goal.at.add_row-requires-clause-scanned c).In-loop-j)

pub add_row-requires-clause-entries : goal.add_row-requires-clause-entries
add_row-requires-clause-entries c =
    let n = c.requires.captured.narrow in
    let narrow : c.loop-j.j ≤ most_width = omega arith in
    mapped-bounded most_half 0 c.requires.entries (λ x e z. code-bounded _ _ _ _ x e narrow z) c.loop-j.invariant.codes

pub overflow_add-t : goal.overflow_add-t
overflow_add-t c = omega (arith, c.extra_after.ensures, extra-bounded c.args.plan c.loop-j.j)

pub overflow_add-t-in-loop-j : goal.overflow_add-t-in-loop-j
overflow_add-t-in-loop-j c =
    let t = inside (goal.at.overflow_add-t-in-loop-j c).In-loop-j in
    let v = c.requires.captured.vectors in
    omega (arith, c.extra_after.ensures, extra-bounded c.args.plan c.loop-j.j)

pub loop-j-preserved : goal.loop-j-preserved
loop-j-preserved c =
    let inv = c.loop-j.invariant in
    record {
      begins = starts-next _ _ _ _ inv.begins c.extra_after.ensures;
      codes = code-more _ _ _ _ _ inv.begins inv.codes c.add_row.ensures;
    }
