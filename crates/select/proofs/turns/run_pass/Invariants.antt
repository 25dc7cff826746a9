-- From every list that the sets hold at first: what is on now, and what is left of the pass over the highest drivers gives the whole.
use Prim.Native.Nat.{ℕ}
use mathlib.Core.Path.{◌≡◌}
use mathlib.Core.Bool.{Bool}
use mathlib.Core.List.{List}
use Rattle.rules.specs.File.{board_of}
use Rattle.select.specs.Turns.{Tells, wanted_in, turned_as, Holds}
use Rattle.select.specs.Highest.{backwards, pass_over}
use Rattle.select.proofs.turns.run_pass.Given as goal

-- the pass over the first i entries of the order
abbrev pub over : List ℕ → List ℕ → (ℕ → Bool) → (ℕ → Bool) → ℕ → List ℕ → List ℕ
over file t wanted allowed i on = pass_over (board_of file) (wanted_in (board_of file) wanted) allowed (backwards t i) on

abbrev pub invariant-loop-i : goal.invariant-loop-i
invariant-loop-i g at =
    (wanted allowed : ℕ → Bool) → Tells (goal.F-post g at.stops) wanted allowed
    → (l : List ℕ) → Holds (board_of at.file) l (turned_as at.initial.on at.initial.nets)
    → (now : List ℕ) × Holds (board_of at.file) now (turned_as at.on at.nets)
    × (over at.file at.table wanted allowed at.i now ≡ over at.file at.table wanted allowed at.found l)
