-- Every t below the total is a vector's number, and each vector leaves the table ready for the next.
use Rattle.std.proofs.Common.{◌≡◌}
use Rattle.rules.specs.File.{board_of, cells_of}
use Rattle.rules.specs.Vectors.{total_of}
use Rattle.select.specs.Turns.{Ready}
use Rattle.plan.specs.Planning.{PlanOf}
use Rattle.listing.proofs.say_vectors.Given as goal

abbrev pub invariant-loop-t : goal.invariant-loop-t
invariant-loop-t g l =
    Ready l.file l.table × (l.cells ≡ cells_of l.file) × PlanOf (board_of l.file) l.plan × (l.vectors ≡ total_of (board_of l.file))
