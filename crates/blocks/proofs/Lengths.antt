-- What refusal 1 leaves of a file's length, and how large a number of two bytes is at most.
use Rattle.std.proofs.Common.{◌≡◌, ℕ, ◌+◌, ◌/◌, ◌<◌, ◌≤◌, false, List, length, get_or, arith}
use Rattle.rules.specs.File.{block_size, block_records, blocks_in, byte_values, most_number, byte_at, number_at, cells_of, records_in}
use Rattle.rules.specs.Refusals.{most_blocks, wrong_length}
use Rattle.rules.proofs.Shape.{whole-blocks}

-- the file has at least one block, and at most 14
pub has-header : (file : List ℕ) → wrong_length file ≡ false → block_size ≤ length file
unfolding blocks_in
has-header file h = let b = whole-blocks file h in omega arith

pub few-blocks : (file : List ℕ) → wrong_length file ≡ false → length file / block_size ≤ most_blocks
unfolding blocks_in
few-blocks file h = (whole-blocks file h).2

-- what the search takes where refusal 1 has passed
pub ruleset lengths = (has-header, few-blocks)

-- "numbers little-endian", two bytes
pub number-bounded : (file : List ℕ) (i : ℕ) → ((j : ℕ) → get_or file j 0 < byte_values) → number_at file i ≤ most_number
unfolding number_at byte_at
number-bounded file i h = omega (arith, h i, h (i + 1))

-- so C is one too, and no block has more than 84 records
pub cells-bounded : (file : List ℕ) → ((j : ℕ) → get_or file j 0 < byte_values) → cells_of file ≤ most_number
unfolding cells_of
cells-bounded file h = number-bounded file 10 h

pub records-bounded : (cells i : ℕ) → records_in cells i ≤ block_records
unfolding records_in
records-bounded cells i = omega arith
