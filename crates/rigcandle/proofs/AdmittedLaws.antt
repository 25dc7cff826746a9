-- The numbers of an admitted board are small.
use Prim.Native.Nat.{ℕ, ◌≤◌}
use mathlib.Core.Path.{◌≡◌, ◌∙◌}
use mathlib.Core.List.{List}
use native.Mathlib.Omega.{arith}
use borrow.Author.Tests.{ltb-false}
use lib.ListN.{length}
use Rattle.rules.specs.File.{board_of, cells_of, most_number}
use Rattle.rules.specs.Refusals.{judge, board_checks, count_checks, most_cells, most_vectors, Accepted}
use Rattle.rules.specs.Vectors.{steps_of, total_of}
use Rattle.rules.proofs.Verdicts.{all_pass, append-pass}
use Rattle.chains.proofs.Walks.{cells_fit}
use Rattle.plan.specs.declared.numbers.Plan.{Plan}
use Rattle.plan.specs.Plans.{bases_for}
use Rattle.plan.specs.Planning.{PlanOf}
use Rattle.plan.proofs.PlanningLaws.{total-is, whole-file}

pub cells-within : (file : List ℕ) {cells : ℕ} → judge (board_checks file) ≡ Accepted → cells ≡ cells_of file → cells ≤ most_cells
cells-within file ok e = let f = cells_fit file (whole-file file ok) in omega arith

pub total-bounded : (file : List ℕ) → judge (count_checks file) ≡ Accepted → total_of (board_of file) ≤ most_vectors
unfolding count_checks
total-bounded file ok =
    ltb-false most_vectors (total_of (board_of file)) ((append-pass (board_checks file) _ (all_pass (count_checks file) ok)).1.0 0 (omega arith))

pub vectors-bounded : (file : List ℕ) (p : Plan) (t : ℕ) → judge (count_checks file) ≡ Accepted → PlanOf (board_of file) p → t ≡ length (steps_of (bases_for p)) → t ≤ most_number
vectors-bounded file p t ok h e = let l = total-bounded file ok in omega (arith, e ∙ total-is (board_of file) p h)

pub width_fits : (p : Plan) → p.wide ≤ most_number
width_fits p = let l = p.small.narrow in omega arith
