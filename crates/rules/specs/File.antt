-- "The board file": bytes, blocks, the two sums, the header, the records, and the board that they say. Assumes nothing.
use Rattle.std.specs.Option.{unwrap_or}
use Rattle.std.specs.Prelude.{Option, Some, None, is_none, ℕ, ◌+◌, ◌*◌, ◌-◌, ◌/◌, ◌%◌, min, Bool, cond, ◌&&◌, List, [], ◌∷◌, ltb, eqb, length, get_or, take, drop}
use Rattle.base.specs.Tests.{all}
use Rattle.rules.specs.declared.Cell.{Cell}
use Rattle.rules.specs.declared.Cell.TheVariants.{Internal, Input, Control, ThreeState, TwoState, OpenDrain}
use Rattle.rules.specs.declared.Sums.{Sums}

-- "Blocks of 512 bytes", the first 508 of them summed
abbrev pub block_size : ℕ
block_size = 512

abbrev pub summed : ℕ
summed = 508

-- "up to 84 cell records of 6 bytes from byte 4"
abbrev pub block_records : ℕ
block_records = 84

abbrev pub record_size : ℕ
record_size = 6

abbrev pub head_size : ℕ
head_size = 4

-- how many values a byte has, and a number of two bytes: 256 and 65,536
abbrev pub byte_values : ℕ
byte_values = 256

abbrev pub number_values : ℕ
number_values = byte_values * byte_values

-- the largest number of two bytes, 65,535: no place and no C is above it
abbrev pub most_number : ℕ
most_number = number_values - 1

-- "65,535 means none"
abbrev pub none : ℕ
none = most_number

-- byte i of the file; past its end, 0
unfoldable pub byte_at : List ℕ → ℕ → ℕ
byte_at file i = get_or file i 0

-- "numbers little-endian": the two bytes from i on
unfoldable pub number_at : List ℕ → ℕ → ℕ
number_at file i = byte_at file i + byte_values * byte_at file (i + 1)

-- "both sums wrapping at 65,536"
abbrev pub wrapped : ℕ → ℕ
wrapped n = n % number_values

-- "add the byte to a, then a to b"
unfoldable pub added : Sums → ℕ → Sums
added s byte =
    let a : ℕ = wrapped (s.a + byte) in
    record { a = a; b = wrapped (s.b + a) }

unfoldable pub sums_from : Sums → List ℕ → Sums
sums_from s [] = s
sums_from s (byte ∷ bytes) = sums_from (added s byte) bytes

-- "Start a = 1, b = 0; for each of bytes 0 to 507 .."
unfoldable pub sums_of : List ℕ → Sums
sums_of bytes = sums_from (record { a = 1; b = 0 }) bytes

-- how many whole blocks the file has
unfoldable pub blocks_in : List ℕ → ℕ
blocks_in file = length file / block_size

-- where block i begins
unfoldable pub block_at : ℕ → ℕ
block_at i = block_size * i

-- "Bytes 508-509 hold a, 510-511 hold b"
unfoldable pub sums_right : List ℕ → ℕ → Bool
sums_right file i =
    let sums : Sums = sums_of (take summed (drop (block_at i) file)) in
    eqb (number_at file (block_at i + summed)) sums.a && eqb (number_at file (block_at i + summed + 2)) sums.b

-- bytes `from` up to `to`, and not `to` itself, are zero
unfoldable pub zeros : List ℕ → ℕ → ℕ → Bool
zeros file from to = all (to - from) (λ j. eqb (byte_at file (from + j)) 0)

-- "Bytes 0-1 are the block's number from 0, byte 2 its kind, byte 3 its record count"
unfoldable pub head_right : List ℕ → ℕ → ℕ → ℕ → Bool
head_right file i kind records =
    eqb (number_at file (block_at i)) i && eqb (byte_at file (block_at i + 2)) kind && eqb (byte_at file (block_at i + 3)) records

-- "Block 0: kind 1, count 0; bytes 4-7 "BSIN"; byte 8 version 1; byte 9 zero; 10-11 cells C; 12-13 nets N; 14-15 SSOL; 16-507 zero"
unfoldable pub header_right : List ℕ → Bool
header_right file =
    head_right file 0 1 0
    && eqb (byte_at file 4) 66 && eqb (byte_at file 5) 83 && eqb (byte_at file 6) 73 && eqb (byte_at file 7) 78
    && eqb (byte_at file 8) 1 && eqb (byte_at file 9) 0 && zeros file 16 summed

unfoldable pub cells_of : List ℕ → ℕ
cells_of file = number_at file 10

unfoldable pub nets_of : List ℕ → ℕ
nets_of file = number_at file 12

unfoldable pub limit_of : List ℕ → ℕ
limit_of file = number_at file 14

-- "each block full but the last": the records of cell block i, from 1
unfoldable pub records_in : ℕ → ℕ → ℕ
records_in cells i = min block_records (cells - block_records * (i - 1))

-- "Blocks 1 on: kind 2, up to 84 cell records of 6 bytes from byte 4 ..; the rest to 507 zero"
unfoldable pub cell_block_right : List ℕ → ℕ → Bool
cell_block_right file i =
    let records : ℕ = records_in (cells_of file) i in
    head_right file i 2 records && zeros file (block_at i + head_size + record_size * records) (block_at i + summed)

-- where the record of position p begins
unfoldable pub record_at : ℕ → ℕ
record_at p = block_at (1 + p / block_records) + head_size + record_size * (p % block_records)

-- "A record: cell kind (1 byte), on value (1), control position (2), net (2)"
unfoldable pub kind_at : List ℕ → ℕ → ℕ
kind_at file p = byte_at file (record_at p)

unfoldable pub on_at : List ℕ → ℕ → ℕ
on_at file p = byte_at file (record_at p + 1)

unfoldable pub control_at : List ℕ → ℕ → ℕ
control_at file p = number_at file (record_at p + 2)

unfoldable pub net_at : List ℕ → ℕ → ℕ
net_at file p = number_at file (record_at p + 4)

-- one choice for each kind of the table, and one for any other number
abbrev pub by_kind {ℓ} : {A : Type ℓ} → ℕ → A → A → A → A → A → A → A → A
by_kind kind internal input control three_state two_state open_drain other =
    cond (eqb kind 0) internal
    (cond (eqb kind 1) input
    (cond (eqb kind 2) control
    (cond (eqb kind 3) three_state
    (cond (eqb kind 4) two_state
    (cond (eqb kind 5) open_drain other)))))

-- "position of a kind 2 cell"
unfoldable pub of_kind2 : List ℕ → ℕ → Bool
of_kind2 file k = ltb k (cells_of file) && eqb (kind_at file k) 2

-- the cell, where the columns are as the table has them
abbrev pub means : Bool → Cell → Option Cell
means fits cell = cond fits (Some cell) None

-- the table: for each kind its on value, control and net; `switched` says that the control is the position of a kind 2 cell, `connected`
-- that the net is below N. Request [3]: "New cell kind 5: control none, on value 0, net below N"
unfoldable pub table_of : ℕ → ℕ → ℕ → ℕ → Bool → Bool → Option Cell
table_of kind on control net switched connected =
    by_kind kind
    (means (eqb on 0 && eqb control none && eqb net none) Internal)
    (means (eqb on 0 && eqb control none && connected) (Input (record { 0 = net })))
    (means (ltb on 2 && eqb control none && eqb net none) (Control (eqb on 1)))
    (means (eqb on 0 && switched && connected) (ThreeState (record { 0 = control }) (record { 0 = net })))
    (means (eqb on 0 && eqb control none && connected) (TwoState (record { 0 = net })))
    (means (eqb on 0 && eqb control none && connected) (OpenDrain (record { 0 = net })))
    None

-- what the record of position p means: a cell, or nothing that the table allows
unfoldable pub record_of : List ℕ → ℕ → Option Cell
record_of file p =
    table_of (kind_at file p) (on_at file p) (control_at file p) (net_at file p) (of_kind2 file (control_at file p)) (ltb (net_at file p) (nets_of file))

-- the table's columns for each case: kind, on value, control, net
unfoldable pub kind_of : Cell → ℕ
kind_of Internal = 0
kind_of (Input n) = 1
kind_of (Control on) = 2
kind_of (ThreeState k n) = 3
kind_of (TwoState n) = 4
kind_of (OpenDrain n) = 5

unfoldable pub on_value_of : Cell → ℕ
on_value_of Internal = 0
on_value_of (Input n) = 0
on_value_of (Control on) = cond on 1 0
on_value_of (ThreeState k n) = 0
on_value_of (TwoState n) = 0
on_value_of (OpenDrain n) = 0

unfoldable pub control_of : Cell → ℕ
control_of Internal = none
control_of (Input n) = none
control_of (Control on) = none
control_of (ThreeState k n) = k.0
control_of (TwoState n) = none
control_of (OpenDrain n) = none

unfoldable pub net_of : Cell → ℕ
net_of Internal = none
net_of (Input n) = n.0
net_of (Control on) = none
net_of (ThreeState k n) = n.0
net_of (TwoState n) = n.0
net_of (OpenDrain n) = n.0

-- a broken record has no cell; the check of records refuses it before anything asks
abbrev pub cell_of : Option Cell → Cell
cell_of means = unwrap_or means Internal

-- "a record breaks the table above"
unfoldable pub broken_at : List ℕ → ℕ → Bool
broken_at file p = is_none (record_of file p)

-- the board: C, N, SSOL, and the cell at each position. All later definitions are over a board, never over bytes
pub record Board : Type 0 where
  pub size : ℕ
  pub nets : ℕ
  pub limit : ℕ
  pub cell : ℕ → Cell

unfoldable pub board_of : List ℕ → Board
board_of file =
    record { size = cells_of file; nets = nets_of file; limit = limit_of file; cell = λ p. cell_of (record_of file p) }
