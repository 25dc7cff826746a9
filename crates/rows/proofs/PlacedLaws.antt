-- Laws of bytes placed in a buffer, and of rows of tests that agree. The idea: one run of bytes after another is one longer run.
use Prim.Native.Nat.{ℕ, ◌+◌, ◌*◌, ◌≤◌, ◌<◌}
use mathlib.Core.Path.{◌≡◌, ap}
use mathlib.Core.Logic.{⊎_elim}
use mathlib.Core.Bool.{Bool, ◌&&◌}
use mathlib.Core.List.{List, ◌++◌}
use native.Mathlib.Nat.{zero-add}
use native.Mathlib.Omega.{arith}
use borrow.Author.Tests.{lt-ltb, le-ltb}
use lib.Dec.{ltb}
use lib.ListN.{length, length-append, length-drop}
use lib.Seq.{take-append_seam, drop-append-add, drop-drop}
use Rattle.base.proofs.BoolLaws.{order}
use Rattle.base.proofs.DigitLaws.{word_same}
use Rattle.base.proofs.ListLaws.{table_same}
use Rattle.rules.specs.Rows.{row_bytes, row_byte, row_of}
use Rattle.rules.specs.Answers.{over}
use Rattle.rows.specs.Room.{placed}

-- from 0 on, bytes are placed as the answers write them
pub over-is : (bytes buffer : List ℕ) → placed 0 bytes buffer ≡ over bytes buffer
unfolding placed
over-is bytes buffer = rw zero-add

-- what is written keeps the buffer as long as it was
pub length_over : (bytes buffer : List ℕ) → length bytes ≤ length buffer → length (over bytes buffer) ≡ length buffer
length_over bytes buffer h = rw (length-append, length-drop) (omega arith)

-- bytes placed after others are the others with them
pub over-more : (xs ys buffer : List ℕ) → length xs + length ys ≤ length buffer → placed (length xs) ys (over xs buffer) ≡ over (xs ++ ys) buffer
unfolding placed
over-more xs ys buffer h =
    rw (take-append_seam, drop-append-add, drop-drop, length-append)

-- tests that agree below size have the same row
pub row_same : (size : ℕ) (f g : ℕ → Bool) → ((c : ℕ) → c < size → f c ≡ g c) → row_of size f ≡ row_of size g
unfolding row_of row_byte
row_same size f g h =
    table_same (row_bytes size) (row_byte size f) (row_byte size g) (λ j l. word_same 8 _ _ (λ i q. cut (8 * j + i)))
  where
    cut : (c : ℕ) → (ltb c size && f c) ≡ (ltb c size && g c)
    cut c =
        ⊎_elim
        (λ (l : c < size). ap (λ (b : Bool). ltb c size && b) (h c l))
        (λ (l : size ≤ c). rw (le-ltb c size l))
        (order c size)

-- what a test says from size on does not count
pub row_cut : (size : ℕ) (f : ℕ → Bool) → row_of size (λ c. ltb c size && f c) ≡ row_of size f
row_cut size f = row_same size (λ c. ltb c size && f c) f (λ c l. rw (lt-ltb c size l))
