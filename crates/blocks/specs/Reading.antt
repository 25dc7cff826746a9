-- What reading a block of a board file gives, and the sizes in its header. Assumes nothing.
use Rattle.std.specs.Prelude.{Result, Ok, Err, ◌≡◌, ℕ, zero, suc, ◌+◌, ◌<◌, ◌≤◌, Bool, true, false, cond, not, ◌&&◌, List, [], ◌∷◌, ◌==◌}
use Rattle.rules.specs.File.{byte_at, number_at, block_at, blocks_in, records_in, sums_right, cells_of, nets_of, limit_of}
use Rattle.rules.specs.declared.Refusal.{Refusal}
use Rattle.rules.specs.Refusals.{Check, judge, each, numbered, Accepted}
use Rattle.blocks.specs.declared.Head.{Head}
use Rattle.blocks.specs.declared.Sizes.{Sizes}

-- "Bytes 0-1 are the block's number from 0, byte 2 its kind, byte 3 its record count", as read
unfoldable pub head_of : List ℕ → ℕ → Head
head_of file i =
    record { number = number_at file (block_at i); kind = byte_at file (block_at i + 2); records = byte_at file (block_at i + 3) }

-- a head of this number, kind and count
unfoldable pub head_is : Head → ℕ → ℕ → ℕ → Bool
head_is head number kind records = head.number == number && head.kind == kind && head.records == records

-- the head that the layout gives block i of a file of so many cells
unfoldable pub head_laid : Head → ℕ → ℕ → Bool
head_laid head cells zero = head_is head 0 1 0
head_laid head cells (suc i) = head_is head (suc i) 2 (records_in cells (suc i))

-- block i of the file has that head
unfoldable pub head_right_at : List ℕ → ℕ → Bool
head_right_at file i = head_laid (head_of file i) (cells_of file) i

-- so many of the i lowest blocks have it, from 0 on, and then one has not
pub record RightTo (file : List ℕ) (i right : ℕ) : Type 0 where
  pub inside : right ≤ i
  pub lower : (j : ℕ) → j < right → head_right_at file j ≡ true
  pub stops : right < i → head_right_at file right ≡ false

-- "Reading a block gives either its contents or a refusal with its place": refusal 2 where a sum is wrong
unfoldable pub block_of : List ℕ → ℕ → Result Head Refusal
block_of file i = cond (sums_right file i) (Ok (head_of file i)) (Err (numbered 2 i))

-- check 2, and what reading all blocks gives: how many of their heads are right, or the refusal that check 2 gives
abbrev pub sums_check : List ℕ → List Check
sums_check file = each 2 (blocks_in file) (λ i. not (sums_right file i)) ∷ []

abbrev pub BlocksOf : List ℕ → Result ℕ Refusal → Type 0
BlocksOf file (Ok heads) = (judge (sums_check file) ≡ Accepted) × RightTo file (blocks_in file) heads
BlocksOf file (Err refusal) = judge (sums_check file) ≡ Err refusal

-- "bytes 4-7 "BSIN"; byte 8 version 1; byte 9 zero"
unfoldable pub signature_right : List ℕ → Bool
signature_right file =
    (byte_at file 4 == 66) && byte_at file 5 == 83 && byte_at file 6 == 73 && byte_at file 7 == 78 && byte_at file 8 == 1 && byte_at file 9 == 0

-- C, N and SSOL as the header has them
pub record SizesOf (file : List ℕ) (sizes : Sizes) : Type 0 where
  pub cells : sizes.cells ≡ cells_of file
  pub nets : sizes.nets ≡ nets_of file
  pub limit : sizes.limit ≡ limit_of file
