-- A board's plan, and a board that has one. Assumes nothing.
use Rattle.std.specs.Prelude.{ℕ, ◌≡◌, List}
use Rattle.rules.specs.File.{Board}
use Rattle.rules.specs.Drivers.{groups_of}
use Rattle.rules.specs.Refusals.{judge, count_checks, Accepted}
use Rattle.rules.specs.Vectors.{width_of}
use Rattle.select.specs.Turns.{Ready}
use Rattle.plan.specs.declared.numbers.Plan.{Plan}

-- the plan's four numbers are the board's N, p, G and SSOL
pub record PlanOf (b : Board) (p : Plan) : Type 0 where
  pub nets-are : p.nets ≡ b.nets
  pub wide-are : p.wide ≡ width_of b
  pub groups-are : p.groups ≡ groups_of b
  pub limit-are : p.limit ≡ b.limit

-- checks 1 to 12 accept the file, and the table is its own
pub record Admitted (file t : List ℕ) : Type 0 where
  pub counted : judge (count_checks file) ≡ Accepted
  pub ready : Ready file t
