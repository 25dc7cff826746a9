-- "Numbered refusals": the table as a list of checks with their places, and the list that each question uses. Assumes nothing.
use Rattle.std.specs.Prelude.{Result, Ok, Err, ⊤, ℕ, zero, suc, ◌+◌, ◌*◌, ◌/◌, ◌%◌, Bool, cond, not, ◌&&◌, ◌||◌, List, [], ◌∷◌, ◌++◌, ltb, leb, eqb, length}
use Rattle.base.specs.Tests.{any, least}
use Rattle.base.specs.Digits.{ceil}
use Rattle.rules.specs.Rows.{row_bytes}
use Rattle.rules.specs.File.{Board, block_size, block_records, blocks_in, sums_right, header_right, cells_of, nets_of, limit_of, cell_block_right, broken_at, board_of}
use Rattle.rules.specs.Drivers.{always_on, controlled, control_for, output_of, drivers, drives, crosses, is_control, groups_of}
use Rattle.rules.specs.Vectors.{total_of}
use Rattle.rules.specs.declared.Refusal.{Refusal}

-- "Limits: C 1 to 1,024; N 1 to 256; SSOL 1 to 1,024; at most 16 controlled drivers on a net; at most 4,096 vectors"; a file has at most 14 blocks
abbrev pub most_cells : ℕ
most_cells = 1024

abbrev pub most_nets : ℕ
most_nets = 256

abbrev pub most_limit : ℕ
most_limit = 1024

abbrev pub most_drivers : ℕ
most_drivers = 16

abbrev pub most_vectors : ℕ
most_vectors = 4096

abbrev pub most_blocks : ℕ
most_blocks = 14

-- what follows from these: R is at most `row_bytes most_cells`, and p at most `code_width most_nets` (`Derived` in proofs/)
abbrev pub most_bytes : ℕ
most_bytes = (most_cells + 7) / 8

abbrev pub most_width : ℕ
most_width = 9

-- what checking answers: accepted, or the refusal that applies
abbrev pub Verdict : Type 0
Verdict = Result ⊤ Refusal

abbrev pub Accepted : Verdict
Accepted = Ok tt

abbrev pub Refused : Refusal → Verdict
Refused r = Err r

-- a row of the table: how many places it looks at (from 0), at which of them it applies, and the refusal that it says of a place
pub record Check : Type 0 where
  pub places : ℕ
  pub fails : ℕ → Bool
  pub says : ℕ → Refusal

-- "A refusal returns number and place", and since request [1] a second place
abbrev pub paired : ℕ → ℕ → ℕ → Refusal
paired number place second = record { number = number; place = place; second = second }

-- what every row but 10 says: its number, the place at which it applies, and no second place ("all other refusals return 0 there")
abbrev pub numbered : ℕ → ℕ → Refusal
numbered number place = paired number place 0

abbrev pub refuse : ℕ → ℕ → Verdict
refuse number place = Refused (numbered number place)

-- "Checked in ascending order; the first that applies is given", at its lowest place
unfoldable pub judge : List Check → Verdict
judge [] = Accepted
judge (check ∷ checks) =
    let rest : Verdict = judge checks in
    let place : ℕ = least check.places check.fails in
    cond (ltb place check.places) (Refused (check.says place)) rest

-- a verdict's number and places: "An accepted call returns 0 for number and place"
unfoldable pub number_of : Verdict → ℕ
number_of (Ok t) = 0
number_of (Err r) = r.number

unfoldable pub place_of : Verdict → ℕ
place_of (Ok t) = 0
place_of (Err r) = r.place

unfoldable pub second_of : Verdict → ℕ
second_of (Ok t) = 0
second_of (Err r) = r.second

-- 1: "file empty, not a multiple of 512, or over 14 blocks"
unfoldable pub wrong_length : List ℕ → Bool
wrong_length file = eqb (length file) 0 || not (eqb (length file % block_size) 0) || ltb (block_size * most_blocks) (length file)

-- 4: "C, N or SSOL outside its limits"
unfoldable pub within : ℕ → ℕ → Bool
within most n = leb 1 n && leb n most

unfoldable pub outside : List ℕ → Bool
outside file = not (within most_cells (cells_of file) && within most_nets (nets_of file) && within most_limit (limit_of file))

-- "There are 1 + ceil(C / 84) blocks"
unfoldable pub blocks_for : ℕ → ℕ
blocks_for cells = 1 + ceil cells block_records

-- 5: "wrong number of blocks (place 0), or a cell block differs from its layout outside the records"
unfoldable pub block_wrong : List ℕ → ℕ → Bool
block_wrong file zero = not (eqb (blocks_in file) (blocks_for (cells_of file)))
block_wrong file (suc i) = not (cell_block_right file (suc i))

-- 7: "a net has no kind 3 or 4 output"; request [3]: "7 and 8 count it as an output"
unfoldable pub undriven : Board → ℕ → Bool
undriven b n = not (any b.size (output_of b n))

-- 8: "a net has a kind 4 output and another output, or two outputs of one control cell": c and d are two outputs of the net, and so
unfoldable pub clash : Board → ℕ → ℕ → ℕ → Bool
clash b n c d =
    not (eqb c d) && output_of b n c && output_of b n d && (always_on b c || (controlled b c && controlled b d && eqb (control_for b c) (control_for b d)))

unfoldable pub clashing : Board → ℕ → Bool
clashing b n = any b.size (λ c. any b.size (clash b n c))

-- 9: "a net has over 16 controlled drivers"; request [3]: "9 and 11 as a controlled driver"
unfoldable pub crowded : Board → ℕ → Bool
crowded b n = ltb most_drivers (drivers b n)

-- 10: i and j are "such a pair", and i "the smaller"; request [3]: "10 and 11 as a control cell"
unfoldable pub crossed_by : Board → ℕ → ℕ → Bool
crossed_by b i j = ltb i j && crosses b i j

-- "lowest position that is the smaller of such a pair"
unfoldable pub crossed : Board → ℕ → Bool
crossed b i = any b.size (crossed_by b i)

-- request [1]: "the smallest larger position that crosses it"
unfoldable pub crosser : Board → ℕ → ℕ
crosser b i = least b.size (crossed_by b i)

-- 11: "a control cell's nets differ in number of controlled drivers"
unfoldable pub unequal : Board → ℕ → Bool
unequal b k =
    is_control b k && any b.nets (λ n. any b.nets (λ m. drives b k n && drives b k m && not (eqb (drivers b n) (drivers b m))))

-- a check that looks at one place, 0
abbrev pub once : ℕ → Bool → Check
once number fails = record { places = 1; fails = λ place. fails; says = numbered number }

-- a check that looks at each of so many places
abbrev pub each : ℕ → ℕ → (ℕ → Bool) → Check
each number places fails = record { places = places; fails = fails; says = numbered number }

-- 10 says what it finds "as a second place" (request [1])
abbrev pub crossing : Board → Check
crossing b = record { places = b.size; fails = crossed b; says = λ place. paired 10 place (crosser b place) }

-- refusals 1 to 5: the file's blocks
unfoldable pub shape_checks : List ℕ → List Check
shape_checks file =
    once 1 (wrong_length file) ∷
    each 2 (blocks_in file) (λ i. not (sums_right file i)) ∷
    once 3 (not (header_right file)) ∷
    once 4 (outside file) ∷
    each 5 (blocks_in file) (block_wrong file) ∷
    []

-- refusals 1 to 6: the file
unfoldable pub file_checks : List ℕ → List Check
file_checks file = shape_checks file ++ (each 6 (cells_of file) (broken_at file) ∷ [])

-- refusals 7 to 9: the nets
unfoldable pub net_checks : Board → List Check
net_checks b =
    each 7 b.nets (undriven b) ∷
    each 8 b.nets (clashing b) ∷
    each 9 b.nets (crowded b) ∷
    []

-- refusals 10 and 11: the control cells
unfoldable pub control_checks : Board → List Check
control_checks b =
    crossing b ∷
    each 11 b.size (unequal b) ∷
    []

-- refusals 1 to 9
unfoldable pub early_checks : List ℕ → List Check
early_checks file = file_checks file ++ net_checks (board_of file)

-- refusals 1 to 11: the board
unfoldable pub board_checks : List ℕ → List Check
board_checks file = early_checks file ++ control_checks (board_of file)

-- 12: "over 4,096 vectors"
unfoldable pub count_checks : List ℕ → List Check
count_checks file = board_checks file ++ (once 12 (ltb most_vectors (total_of (board_of file))) ∷ [])

-- 15: "lent buffer too short"
abbrev pub short : List ℕ → ℕ → Check
short buffer needed = once 15 (ltb (length buffer) needed)

unfoldable pub groups_checks : List ℕ → List ℕ → List Check
groups_checks file buffer =
    count_checks file ++ (short buffer (groups_of (board_of file) * row_bytes (cells_of file)) ∷ [])

-- 13: "vector number not below the count"
unfoldable pub vector_checks : List ℕ → ℕ → List ℕ → List Check
vector_checks file number buffer =
    count_checks file ++ (once 13 (leb (total_of (board_of file)) number) ∷ short buffer (row_bytes (cells_of file)) ∷ [])

-- 14: "capture is not vectors × R bytes"
unfoldable pub marks_checks : List ℕ → List ℕ → List ℕ → List Check
marks_checks file capture buffer =
    count_checks file ++ (once 14 (not (eqb (length capture) (total_of (board_of file) * row_bytes (cells_of file)))) ∷ short buffer (nets_of file) ∷ [])
