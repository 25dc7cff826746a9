-- The order of the checks: the file's, and then the nets' and the control cells', each row as its first check and then the rest.
use Prim.Native.Nat.{ℕ, ◌<◌}
use mathlib.Core.Path.{◌≡◌, sym, ◌∙◌}
use mathlib.Core.Bool.{false}
use mathlib.Core.List.{List, [], ◌∷◌, ◌++◌, append_assoc}
use Rattle.rules.specs.File.{Board, board_of, cells_of, broken_at}
use Rattle.rules.specs.Drivers.{drivers}
use Rattle.rules.specs.Refusals.{judge, each, crossing, crossed, unequal, shape_checks, file_checks, net_checks, control_checks, early_checks, board_checks, Accepted}
use Rattle.rules.proofs.Verdicts.{Then, then_append, judge-passes}
use Rattle.nesting.specs.Bearing.{Settled}
use Rattle.nesting.proofs.LevelLaws.{settled-equal}

module _ (file : List ℕ) where
  -- the file's checks: its shape, then its records
  pub row-shape : Then (judge (shape_checks file)) (judge (each 6 (cells_of file) (broken_at file) ∷ [])) (judge (file_checks file))
  unfolding file_checks
  row-shape = then_append (shape_checks file) (each 6 (cells_of file) (broken_at file) ∷ [])

  -- all of the board's: the file's, then the rest
  pub row-file : Then (judge (file_checks file)) (judge (net_checks (board_of file) ++ control_checks (board_of file))) (judge (board_checks file))
  unfolding board_checks early_checks
  row-file =
      rw append_assoc (then_append (file_checks file) (net_checks (board_of file) ++ control_checks (board_of file)))

-- the control cells' checks, after the nets'
module _ (b : Board) where
  pub row-nets : Then (judge (net_checks b)) (judge (control_checks b)) (judge (net_checks b ++ control_checks b))
  row-nets = then_append (net_checks b) (control_checks b)

  pub row-crossed : Then (judge (crossing b ∷ [])) (judge (each 11 b.size (unequal b) ∷ [])) (judge (control_checks b))
  unfolding control_checks
  row-crossed = then_append (crossing b ∷ []) (each 11 b.size (unequal b) ∷ [])

  -- a board that is settled passes both, and one whose control cells do not cross the first
  pub settled-accepted : Settled b (drivers b) → Accepted ≡ judge (control_checks b)
  unfolding control_checks judge
  settled-accepted s =
      sym (judge-passes (crossing b) (each 11 b.size (unequal b) ∷ []) s.uncrossed ∙ judge-passes (each 11 _ _) [] (settled-equal b s))

  pub uncrossed-next : ((i : ℕ) → i < b.size → crossed b i ≡ false) → judge (control_checks b) ≡ judge (each 11 b.size (unequal b) ∷ [])
  unfolding control_checks
  uncrossed-next none = judge-passes (crossing b) (each 11 b.size (unequal b) ∷ []) none
