-- The groups' rows, row by row, in a buffer.
use Prim.Native.Nat.{ℕ, zero, suc, ◌+◌, ◌*◌, ◌-◌, ◌≤◌, ◌<◌}
use mathlib.Core.Path.{◌≡◌, sym, ◌∙◌, ap, ap₂}
use mathlib.Core.Bool.{Bool}
use mathlib.Core.List.{List}
use native.Mathlib.Nat.{suc-mul, zero-mul, le_trans, mul-le-mul_left, mul-le-mul_right}
use native.Mathlib.Numerals.{sub-one}
use native.Mathlib.Omega.{arith}
use lib.ListN.{length, length-append}
use Rattle.base.specs.Digits.{ceil}
use Rattle.base.proofs.BoolLaws.{fails-if}
use Rattle.rules.specs.Answers.{over}
use Rattle.rules.specs.Rows.{row_bytes, row_of}
use Rattle.rules.specs.File.{Board, board_of, cells_of, most_number, number_values}
use Rattle.rules.specs.Groups.{on_in, group_row, group_rows}
use Rattle.rules.specs.Refusals.{judge, board_checks, most_cells, most_bytes, Accepted}
use Rattle.rules.proofs.RowLaws.{row-length}
use Rattle.rules.proofs.Selection.{sound}
use Rattle.rules.proofs.GroupsDriven.{on-cell}
use Rattle.rows.specs.Room.{placed, Cells}
use Rattle.rows.proofs.PlacedLaws.{over-more}

length-rows : (b : Board) (g : ℕ) → length (group_rows b g) ≡ g * row_bytes b.size
unfolding group_rows group_row
length-rows b zero = sym (zero-mul (row_bytes b.size))
length-rows b (suc g) =
    length-append (group_rows b g) (group_row b (suc g)) ∙ ap₂ ◌+◌ (length-rows b g) (row-length b.size (on_in b (suc g))) ∙ sym (suc-mul g (row_bytes b.size))

-- the control cells that are on are cells of the board
pub on-own : (file : List ℕ) (g size : ℕ) (on : ℕ → Bool) → judge (board_checks file) ≡ Accepted → size ≡ cells_of file → on ≡ on_in (board_of file) g → Cells size on
unfolding board_of
on-own file g size on ok s e =
    record { none = λ c l. fails-if (on c) (λ h. let k = (on-cell (board_of file) (sound file ok) g c (sym (ap (λ (f : ℕ → Bool). f c) e) ∙ h)).3.on-board in absurd (omega arith)) }

-- a row more fits, where all do
rows_fit : (g groups row long : ℕ) → g < groups → groups * row ≤ long → suc g * row ≤ long
rows_fit g groups row long l h = let m = mul-le-mul_right {m = suc g} {n = groups} row l in omega arith

pub row_fits : (g groups bytes row at long : ℕ) → g < groups → bytes ≡ row → groups * row ≤ long → at ≡ g * bytes → at + row ≤ long
row_fits g groups bytes row at long l e h a =
    omega (arith, rows_fit g groups row long l h, suc-mul g row, a ∙ ap (λ (x : ℕ). g * x) e)

-- the rows of groups 1 to g stand in the buffer, where those before g do and the row of g is placed behind them
pub written_next :
    (b : Board) (g groups bytes at size : ℕ) (on : ℕ → Bool) (before after more : List ℕ) →
    0 < g →
    g ≤ groups →
    after ≡ over (group_rows b (g - 1)) before →
    at ≡ (g - 1) * bytes →
    bytes ≡ row_bytes size →
    groups * row_bytes size ≤ length before →
    size ≡ b.size →
    on ≡ on_in b g →
    more ≡ placed at (row_of size on) after →
    more ≡ over (group_rows b g) before
unfolding group_rows group_row
written_next b zero groups bytes at size on before after more p l w a e h s o m = absurd (omega arith)
written_next b (suc g) groups bytes at size on before after more p l w a e h s o m =
    m
    ∙ ap₂ (λ (x : ℕ) (r : List ℕ). placed x r after) start (ap₂ row_of s o)
    ∙ ap (placed (length (group_rows b g)) (group_row b (suc g))) (rw sub-one at w)
    ∙ over-more (group_rows b g) (group_row b (suc g)) before room
  where
    start : at ≡ length (group_rows b g)
    start = (rw sub-one at a) ∙ ap (λ (x : ℕ). g * x) (e ∙ ap row_bytes s) ∙ sym (length-rows b g)

    room : length (group_rows b g) + length (group_row b (suc g)) ≤ length before
    room =
        let fits : suc g * row_bytes b.size ≤ length before = rw (← s) (rows_fit g groups (row_bytes size) (length before) l h) in
        omega (arith, fits, length-rows b g, row-length b.size (on_in b (suc g)), suc-mul g (row_bytes b.size))

-- a place is a small number
pub place-small : (g bytes : ℕ) → g ≤ most_number → bytes ≤ most_bytes → g * bytes + bytes ≤ number_values * most_bytes
place-small g bytes l short = let all = le_trans (mul-le-mul_left g short) (mul-le-mul_right most_bytes l) in omega arith

pub place-bounded : (g bytes cells at : ℕ) → g ≤ most_number → cells ≤ most_cells → bytes ≡ row_bytes cells → at ≡ g * bytes → at + bytes ≤ number_values * most_bytes
unfolding row_bytes ceil
place-bounded g bytes cells at l m e a = omega (arith, a, place-small g bytes l (omega (arith, e)))
