-- Source 000's example circuit: of its table 3 the procedure as printed gives the degrees of table 4 and all of table 5, which antt computes.
use Prim.Native.Nat.{ℕ, suc}
use mathlib.Core.Path.{◌≡◌, refl}
use mathlib.Core.Bool.{Bool, true}
use mathlib.Core.List.{List, [], ◌∷◌, map}
use lib.ListN.{get_or}
use Rattle.base.specs.Tests.{digit, any}
use Rattle.base.specs.Counting.{count}
use Rattle.base.specs.Lists.{has}
use Rattle.rules.specs.File.{Board, net_of}
use Rattle.rules.specs.Drivers.{driver_in, driver_at, is_driver, control_in, controlled, control_for, on_net, driver_of, drives}
use Rattle.rules.specs.Published.{Arrays, related, degree_of, initialized, activate, first_test, second_test, loop, rows_after, used_up_to, published}
use Rattle.rules.specs.declared.Cell.{Cell}
use Rattle.rules.specs.declared.Cell.TheVariants.{Internal, Input, Control, ThreeState}

abbrev switched : ℕ → ℕ → Cell
switched control net = ThreeState (record { 0 = control }) (record { 0 = net })

abbrev reads : ℕ → Cell
reads net = Input (record { 0 = net })

-- table 3 from cell 0 on, with "the 5s" at "cells 7 and 6, the 0s" at "4 to 1", as document 01 corrects our copy
cells : List Cell
cells =
    Control true ∷ switched 0 0 ∷ switched 0 1 ∷ switched 0 2 ∷ switched 0 3 ∷
    Control true ∷ switched 5 0 ∷ switched 5 1 ∷
    reads 0 ∷ reads 1 ∷ reads 2 ∷ reads 3 ∷
    Control true ∷ switched 12 4 ∷ switched 12 5 ∷
    Control true ∷ switched 15 1 ∷
    Control true ∷ switched 17 3 ∷
    switched 20 2 ∷ Control true ∷
    switched 22 0 ∷ Control true ∷
    Control true ∷ switched 23 5 ∷ switched 23 4 ∷
    Control true ∷ switched 26 2 ∷ switched 26 3 ∷
    []

circuit : Board
circuit = record { size = 29; nets = 6; limit = 6; cell = λ p. get_or cells p Internal }

-- a row at these columns: 1 where the test passes, else 0
row : (ℕ → Bool) → List ℕ → List ℕ
row test columns = map (λ k. digit (test k)) columns

-- the tables' columns
controls : List ℕ
controls = 26 ∷ 23 ∷ 22 ∷ 20 ∷ 17 ∷ 15 ∷ 12 ∷ 5 ∷ 0 ∷ []

nets : List ℕ
nets = 0 ∷ 1 ∷ 2 ∷ 3 ∷ 4 ∷ 5 ∷ []

-- group j + 1's rows of the output array, the "net is processed" array and the "cell is processed" array
rows : ℕ → List (List ℕ)
rows j =
    let s : Arrays = rows_after circuit (suc j) (used_up_to circuit j) in
    row (λ k. has k (published circuit (suc j))) controls ∷ row s.net_processed nets ∷ row s.cell_processed controls ∷ []

-- table 4's degrees
degrees : map (degree_of circuit) nets ≡ (3 ∷ 3 ∷ 3 ∷ 3 ∷ 2 ∷ 2 ∷ [])
unfolding nets degree_of count related drives any driver_of on_net controlled control_for driver_at driver_in is_driver control_in net_of circuit cells
degrees = refl

-- all of table 5
ones : List ℕ
ones = 1 ∷ 1 ∷ 1 ∷ 1 ∷ 1 ∷ 1 ∷ []

arrays :
    (rows 0 ≡ ((1 ∷ 1 ∷ 1 ∷ 0 ∷ 0 ∷ 1 ∷ 0 ∷ 0 ∷ 0 ∷ []) ∷ ones ∷ (1 ∷ 1 ∷ 1 ∷ ones) ∷ []))
    × (rows 1 ≡ ((0 ∷ 0 ∷ 0 ∷ 1 ∷ 1 ∷ 0 ∷ 1 ∷ 1 ∷ 0 ∷ []) ∷ ones ∷ (1 ∷ 1 ∷ 1 ∷ ones) ∷ []))
    × (rows 2 ≡ ((0 ∷ 1 ∷ 0 ∷ 0 ∷ 0 ∷ 0 ∷ 0 ∷ 0 ∷ 1 ∷ []) ∷ ones ∷ (1 ∷ 1 ∷ 1 ∷ ones) ∷ []))
unfolding
    rows row controls nets ones published used_up_to rows_after loop first_test second_test activate initialized degree_of count related drives any has
    driver_of on_net controlled control_for driver_at driver_in is_driver control_in net_of circuit cells
arrays = (refl, refl, refl)
