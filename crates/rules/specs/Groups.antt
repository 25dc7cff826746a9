-- "Groups": the control cells that are on in each group, and the groups' rows. Assumes nothing.
use Rattle.std.specs.Prelude.{ℕ, zero, suc, Bool, true, false, cond, not, ◌&&◌, ◌||◌, List, [], ◌∷◌, ◌++◌, ltb, leb, eqb}
use Rattle.base.specs.Lists.{has}
use Rattle.rules.specs.Rows.{row_of}
use Rattle.rules.specs.File.{Board, net_of}
use Rattle.rules.specs.Drivers.{controlled, control_for, degree, meets}

-- "mark every control cell that shares a net with it, itself included": k is marked by the cells that are on
unfoldable pub marked : Board → List ℕ → ℕ → Bool
marked b [] k = false
marked b (t ∷ on) k = eqb t k || meets b t k || marked b on k

-- one position of a pass: at a controlled driver whose net is wanted, whose control cell is allowed and unmarked, turn that control cell on;
-- these are the kind 3 outputs and, by request [3], the open-drain ones: "both passes stop at it"
unfoldable pub turn : Board → (ℕ → Bool) → (ℕ → Bool) → ℕ → List ℕ → List ℕ
turn b wanted allowed c on =
    cond
    (controlled b c && wanted (net_of (b.cell c)) && allowed (control_for b c) && not (marked b on (control_for b c)))
    (control_for b c ∷ on)
    on

-- "positions from highest to lowest": the positions below c, with what is on so far
unfoldable pub pass : Board → (ℕ → Bool) → (ℕ → Bool) → ℕ → List ℕ → List ℕ
pass b wanted allowed zero on = on
pass b wanted allowed (suc c) on = pass b wanted allowed c (turn b wanted allowed c on)

-- "First pass ..: at a kind 3 output whose net has degree g or more, whose control cell is unmarked and was on in no earlier group"
unfoldable pub first_pass : Board → ℕ → List ℕ → List ℕ
first_pass b g earlier = pass b (λ n. leb g (degree b n)) (λ k. not (has k earlier)) b.size []

-- "Second pass, same order: at a kind 3 output whose net has degree below g ..; earlier groups don't matter here"
unfoldable pub second_pass : Board → ℕ → List ℕ → List ℕ
second_pass b g on = pass b (λ n. ltb (degree b n) g) (λ k. true) b.size on

-- the control cells that group g turns on, after the earlier ones
unfoldable pub selected : Board → ℕ → List ℕ → List ℕ
selected b g earlier = second_pass b g (first_pass b g earlier)

-- every control cell that was on in one of groups 1 to j
unfoldable pub earlier : Board → ℕ → List ℕ
earlier b zero = []
earlier b (suc j) = selected b (suc j) (earlier b j) ++ earlier b j

-- "For each group g from 1 to G": the control cells that are on in it
unfoldable pub group : Board → ℕ → List ℕ
group b zero = []
group b (suc j) = selected b (suc j) (earlier b j)

unfoldable pub on_in : Board → ℕ → ℕ → Bool
on_in b g k = has k (group b g)

-- "the bit at a position is 1 for a control cell that is on"; an open-drain output's "group bit stands at its own position"
unfoldable pub group_row : Board → ℕ → List ℕ
group_row b g = row_of b.size (on_in b g)

-- the rows of groups 1 to g
unfoldable pub group_rows : Board → ℕ → List ℕ
group_rows b zero = []
group_rows b (suc g) = group_rows b g ++ group_row b (suc g)
