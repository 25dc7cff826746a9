-- Document 01's figures marked P, and one of each of requests [1] and [3], as one table with one claim, which antt computes. Boards E, D and
-- X are files' bytes.
use Prim.Native.Nat.{ℕ, zero, suc, ◌-◌, ◌/◌, ◌%◌}
use mathlib.Core.Path.{◌≡◌, refl}
use mathlib.Core.Bool.{Bool, true, false, cond, xor, ◌&&◌}
use mathlib.Core.List.{List, [], ◌∷◌, ◌++◌, map}
use lib.Dec.{eqb}
use lib.ListN.{length, get_or, replicate}
use Rattle.base.specs.Tests.{any, all, largest, seek, least}
use Rattle.base.specs.Counting.{count, among}
use Rattle.base.specs.Lists.{table, has}
use Rattle.base.specs.Digits.{ceil, bit, word}
use Rattle.base.specs.Weave.{weave}
use Rattle.rules.specs.Rows.{row_bytes, row_byte, row_of, row_bit}
use Rattle.rules.specs.File.{byte_at, number_at, added, summed, sums_from, sums_of, blocks_in, block_at, sums_right, zeros, head_right, header_right}
use Rattle.rules.specs.File.{cells_of, nets_of, limit_of, records_in, cell_block_right, record_at, kind_at, on_at, control_at, net_at, none}
use Rattle.rules.specs.File.{of_kind2, table_of, record_of, broken_at, kind_of, on_value_of, control_of, net_of, Board, board_of}
use Rattle.rules.specs.declared.Sums.{Sums}
use Rattle.rules.specs.declared.Cell.{Cell}
use Rattle.rules.specs.declared.Cell.TheVariants.{Internal, Control, ThreeState}
use Rattle.rules.specs.Drivers.{driver_in, driver_at, is_driver, control_in, controlled, control_for, open_drain, is_control, always_on, is_input}
use Rattle.rules.specs.Drivers.{on_net, output_of, driver_of, drives, drivers, controls, degree, meets, inside, crosses, groups_of}
use Rattle.rules.specs.Groups.{marked, turn, pass, first_pass, second_pass, selected, earlier, group, on_in}
use Rattle.rules.specs.Vectors.{code_width, code_bit, width_of, pattern_of, bases_of, differs, changes, inserted_after, between, steps_of}
use Rattle.rules.specs.Vectors.{vector_of, plan_of, total_of, vector_at, cell_bit, vector_row}
use Rattle.rules.specs.Lines.{switched_on, acts_as, acts, level}
use Rattle.rules.specs.Marks.{read_at, own_at, differs_at, input_of, unseen, failed, read_twice, rows_of, first_given, mark_of, byte_of, marks_of}
use Rattle.rules.specs.Refusals.{Verdict, judge, number_of, place_of, second_of, wrong_length, within, outside, blocks_for, block_wrong}
use Rattle.rules.specs.Refusals.{undriven, clash, clashing, crowded, crossed_by, crossed, crosser, unequal}
use Rattle.rules.specs.Refusals.{shape_checks, file_checks, net_checks, control_checks, early_checks, board_checks}

-- a number's two bytes
two : ℕ → List ℕ
two n = n % 256 ∷ n / 256 ∷ []

-- a block: its bytes, zeros to 507, and its two sums
block : List ℕ → List ℕ
block bytes =
    let whole : List ℕ = bytes ++ replicate (summed - length bytes) 0 in
    let sums : Sums = sums_of whole in
    whole ++ two sums.a ++ two sums.b

record4 : ℕ → ℕ → ℕ → ℕ → List ℕ
record4 kind on control net = kind ∷ on ∷ two control ++ two net

-- a file of one cell block
file_of : ℕ → ℕ → ℕ → List ℕ → List ℕ
file_of cells nets limit records =
    block (two 0 ++ (1 ∷ 0 ∷ 66 ∷ 83 ∷ 73 ∷ 78 ∷ 1 ∷ 0 ∷ []) ++ two cells ++ two nets ++ two limit) ++ block (two 1 ++ (2 ∷ cells ∷ []) ++ records)

-- board E with the given SSOL, as a file
file_e : ℕ → List ℕ
file_e limit =
    file_of 11 3 limit
    (record4 2 1 none none ++
    record4 3 0 0 0 ++
    record4 3 0 0 1 ++
    record4 2 0 none none ++
    record4 3 0 3 0 ++
    record4 2 1 none none ++
    record4 3 0 5 1 ++
    record4 4 0 none 2 ++
    record4 1 0 none 0 ++
    record4 1 0 none 1 ++
    record4 1 0 none 2)

-- the numbers below n that pass, in order
members : ℕ → (ℕ → Bool) → List ℕ
members zero f = []
members (suc n) f = members n f ++ cond (f n) (n ∷ []) []

board_e : Board
board_e = board_of (file_e 2)

-- board D, one net: control cell 0 switches the three-state output 1; 2 and 3 are open-drain outputs, 4 is an input
file_d : List ℕ
file_d =
    file_of 5 1 1
    (record4 2 1 none none ++
    record4 3 0 0 0 ++
    record4 5 0 none 0 ++
    record4 5 0 none 0 ++
    record4 1 0 none 0)

board_d : Board
board_d = board_of file_d

-- board X: control cell 1 has nets 0 and 1; 4, with net 1, lies inside it; 6, with nets 1 and 2, and 9, with nets 0 and 3, cross it
file_x : List ℕ
file_x =
    file_of 12 4 1
    (record4 1 0 none 0 ++
    record4 2 1 none none ++
    record4 3 0 1 0 ++
    record4 3 0 1 1 ++
    record4 2 1 none none ++
    record4 3 0 4 1 ++
    record4 2 1 none none ++
    record4 3 0 6 1 ++
    record4 3 0 6 2 ++
    record4 2 1 none none ++
    record4 3 0 9 0 ++
    record4 3 0 9 3)

abbrev switched : ℕ → ℕ → Cell
switched control net = ThreeState (record { 0 = control }) (record { 0 = net })

-- a net of degree 2, switched by control cells 0 and 2, and one of degree 1, switched by control cell 4
lopsided : List Cell
lopsided = Control true ∷ switched 0 0 ∷ Control true ∷ switched 2 0 ∷ Control true ∷ switched 4 1 ∷ []

board_l : Board
board_l = record { size = 6; nets = 2; limit = 2; cell = λ p. get_or lopsided p Internal }

-- one figure: what the document says, and what the definitions compute
record Figure : Type 0 where
  said : List ℕ
  computed : List ℕ

figure : List ℕ → List ℕ → Figure
figure said computed = record { said = said; computed = computed }

-- what the inputs of nets 0, 1 and 2 read in each of three vectors, twice over: a capture of board E
capture : ℕ → ℕ → ℕ → List ℕ
capture x y z =
    let once : List ℕ = 0 ∷ x ∷ 0 ∷ y ∷ 0 ∷ z ∷ [] in
    once ++ once

digits : ℕ → (ℕ → Bool) → List ℕ
digits n f = table n (λ m. cond (f m) 1 0)

verdict_on : List ℕ → List ℕ
verdict_on file =
    let verdict : Verdict = judge (board_checks file) in
    number_of verdict ∷ place_of verdict ∷ second_of verdict ∷ []

-- each of the first n vectors of a board: its group and its row
listing : Board → ℕ → List ℕ
listing b zero = []
listing b (suc n) = listing b n ++ ((vector_at b n).group ∷ vector_row b (vector_at b n))

zero_sums : Sums
zero_sums = sums_of (replicate 508 0)

-- the level of board D's line, with this row in the chain
level_d : ℕ → ℕ
level_d row = cond (level board_d (row ∷ []) 0) 1 0

figures : List Figure
figures =
    -- E is accepted, with SSOL 2 and with SSOL 1
    figure (0 ∷ 0 ∷ 0 ∷ []) (verdict_on (file_e 2)) ∷
    figure (0 ∷ 0 ∷ 0 ∷ []) (verdict_on (file_e 1)) ∷
    -- E's groups are {3, 5} and {0}
    figure (3 ∷ 5 ∷ []) (members 11 (on_in board_e 1)) ∷
    figure (0 ∷ []) (members 11 (on_in board_e 2)) ∷
    -- where G is 2, a net of degree 1 is driven in group 2 as well
    figure (2 ∷ 4 ∷ []) (members 6 (on_in board_l 1)) ∷
    figure (0 ∷ 4 ∷ []) (members 6 (on_in board_l 2)) ∷
    -- N = 1, 2, 3, 6, 7, 254, 255, 256 give p = 2, 2, 3, 3, 4, 8, 9, 9
    figure (2 ∷ 2 ∷ 3 ∷ 3 ∷ 4 ∷ 8 ∷ 9 ∷ 9 ∷ [])
    (map code_width (1 ∷ 2 ∷ 3 ∷ 6 ∷ 7 ∷ 254 ∷ 255 ∷ 256 ∷ [])) ∷
    -- E with SSOL 1 has 11 vectors; nets of vector 1 are 0, 1, 0
    figure (11 ∷ []) (total_of (board_of (file_e 1)) ∷ []) ∷
    figure (0 ∷ 1 ∷ 0 ∷ []) (digits 3 (vector_at (board_of (file_e 1)) 1).value) ∷
    -- 508 zero bytes give a = 1, b = 508
    figure (1 ∷ 508 ∷ []) (zero_sums.a ∷ zero_sums.b ∷ []) ∷
    -- E, nets 0 and 2 tied as wired-AND: marks 3, 0, 1
    figure (3 ∷ 0 ∷ 1 ∷ []) (marks_of board_e (capture 0 2 5)) ∷
    -- E, nets 0 and 1 tied as wired-AND: 1, 1, 0; as wired-OR: 1, 1, 3
    figure (1 ∷ 1 ∷ 0 ∷ []) (marks_of board_e (capture 0 4 4)) ∷
    figure (1 ∷ 1 ∷ 3 ∷ []) (marks_of board_e (capture 0 7 7)) ∷
    -- and E's listing: for each vector its group and its row
    figure
    (1 ∷ 0x20 ∷ 0x00 ∷ 1 ∷ 0xE4 ∷ 0x00 ∷ 1 ∷ 0xB2 ∷ 0x00 ∷ 2 ∷ 0x09 ∷ 0x00 ∷ 2 ∷ 0xCD ∷ 0x00 ∷ 2 ∷ 0x9B ∷ 0x00 ∷ [])
    (listing board_e (total_of board_e)) ∷
    -- D is accepted; its groups are {3}, {2} and {0}; and an open-drain output off its turn is loaded with 1
    figure (0 ∷ 0 ∷ 0 ∷ []) (verdict_on file_d) ∷
    figure (3 ∷ []) (members 5 (on_in board_d 1)) ∷
    figure (2 ∷ []) (members 5 (on_in board_d 2)) ∷
    figure (0 ∷ []) (members 5 (on_in board_d 3)) ∷
    figure
    (1 ∷ 0x04 ∷ 1 ∷ 0x0E ∷ 2 ∷ 0x08 ∷ 2 ∷ 0x0E ∷ 3 ∷ 0x0D ∷ 3 ∷ 0x0F ∷ [])
    (listing board_d (total_of board_d)) ∷
    -- its line is low in each group's first vector and high in the second; it is low too where a cell pulls out of its turn
    figure (0 ∷ 1 ∷ 0 ∷ 1 ∷ 0 ∷ 1 ∷ 0 ∷ []) (map level_d (0x04 ∷ 0x0E ∷ 0x08 ∷ 0x0E ∷ 0x0D ∷ 0x0F ∷ 0x0B ∷ [])) ∷
    -- X is refused for 1 and 6, the smallest larger position that crosses it
    figure (10 ∷ 1 ∷ 6 ∷ []) (verdict_on file_x) ∷
    []

same : List ℕ → List ℕ → Bool
same [] [] = true
same [] (y ∷ ys) = false
same (x ∷ xs) [] = false
same (x ∷ xs) (y ∷ ys) = eqb x y && same xs ys

-- each figure is what the definitions compute
right : List Figure → Bool
right [] = true
right (f ∷ fs) = same f.said f.computed && right fs

claim : right figures ≡ true
unfolding
    right same listing level_d lopsided board_l board_d file_d file_x file_of figures figure capture digits verdict_on zero_sums members board_e file_e block record4 two
    any all largest seek least count among table has ceil bit word weave xor
    byte_at number_at added sums_from sums_of blocks_in block_at sums_right zeros head_right header_right
    cells_of nets_of limit_of records_in cell_block_right record_at kind_at on_at control_at net_at
    of_kind2 table_of record_of broken_at kind_of on_value_of control_of net_of board_of
    driver_in driver_at is_driver control_in controlled control_for open_drain is_control always_on is_input
    on_net output_of driver_of drives drivers controls degree meets inside crosses groups_of
    marked turn pass first_pass second_pass selected earlier group on_in
    code_width code_bit width_of pattern_of bases_of differs changes inserted_after between steps_of vector_of
    plan_of total_of vector_at cell_bit vector_row switched_on acts_as acts level row_bytes row_byte row_of row_bit
    read_at own_at differs_at input_of unseen failed read_twice rows_of first_given mark_of byte_of marks_of
    judge number_of place_of second_of wrong_length within outside blocks_for block_wrong
    undriven clash clashing crowded crossed_by crossed crosser unequal
    shape_checks file_checks net_checks control_checks early_checks board_checks
claim = refl
