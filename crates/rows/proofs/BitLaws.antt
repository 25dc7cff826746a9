-- Laws of the bits of a vector's row: an output's net fits a set, and the bits are those of the definition.
use Prim.Native.Nat.{ℕ, ◌*◌, ◌<◌}
use mathlib.Core.Path.{◌≡◌, refl, ◌∙◌, ap}
use mathlib.Core.Bool.{Bool, true, ◌||◌}
use mathlib.Core.List.{List}
use native.Mathlib.Omega.{arith}
use borrow.Author.Tests.{le-ltb}
use Rattle.rules.specs.Answers.{over}
use Rattle.rules.specs.Rows.{row_of}
use Rattle.rules.specs.File.{Board, board_of, cells_of, net_of}
use Rattle.rules.specs.Drivers.{controlled, always_on}
use Rattle.rules.specs.Groups.{on_in}
use Rattle.rules.specs.Refusals.{judge, file_checks, Accepted}
use Rattle.rules.specs.Vectors.{Vector, cell_bit, vector_row}
use Rattle.rules.specs.declared.Cell.{Cell}
use Rattle.rules.specs.declared.Cell.TheVariants.{Internal, Input, Control, ThreeState, TwoState, OpenDrain}
use Rattle.rules.proofs.DriverLaws.{output-is, kept-net}
use Rattle.rules.proofs.Shape.{laid, shaped, whole-records}
use Rattle.words.specs.Sets.{net_words, up_to}
use Rattle.rows.specs.Room.{placed, Cells}
use Rattle.rows.specs.Bits.{bit_of, bit_at, out_net}
use Rattle.rows.proofs.PlacedLaws.{over-is, row_same, row_cut}

-- an output's net is one of the board, so it fits
module _ (file : List ℕ) (ok : judge (file_checks file) ≡ Accepted) (c : ℕ) (l : c < cells_of file) where
  below : (controlled (board_of file) c || always_on (board_of file) c) ≡ true → net_of ((board_of file).cell c) < 64 * net_words
  unfolding board_of
  below h =
      let n = kept-net file (whole-records file ok) c l h in
      let f = (laid file (shaped file ok)).nets.at_most in
      omega arith

  pub out-net-bounded : out_net ((board_of file).cell c) < 64 * net_words
  unfolding out_net net_of
  out-net-bounded = go ((board_of file).cell c) refl
    where
      go : (cell : Cell) → (board_of file).cell c ≡ cell → out_net cell < 64 * net_words
      go Internal e = omega arith
      go (Input n) e = omega arith
      go (Control on) e = omega arith
      go (ThreeState k n) e = let h = below (output-is _ c _ e) in rw e at h
      go (TwoState n) e = let h = below (output-is _ c _ e) in rw e at h
      go (OpenDrain n) e = let h = below (output-is _ c _ e) in rw e at h

-- the definition's bit
bit_is : (b : Board) (v : Vector) (c : ℕ) (cell : Cell) → bit_of (on_in b v.group c) v.value cell ≡ cell_bit b v c cell
unfolding bit_of cell_bit
bit_is b v c Internal = refl
bit_is b v c (Input n) = refl
bit_is b v c (Control on) = refl
bit_is b v c (ThreeState k n) = refl
bit_is b v c (TwoState n) = refl
bit_is b v c (OpenDrain n) = refl

-- the cells below C whose bit is 1 make the vector's row
row_is :
    (b : Board) (v : Vector) (size : ℕ) (on nets : ℕ → Bool) →
    size ≡ b.size →
    on ≡ on_in b v.group →
    nets ≡ v.value →
    row_of size (up_to size (bit_at b on nets)) ≡ vector_row b v
unfolding vector_row up_to bit_at
row_is b v size on nets s e f =
    row_cut size (bit_at b on nets)
    ∙ row_same size (bit_at b on nets) (λ c. cell_bit b v c (b.cell c)) (λ c l. rw (e, f) (bit_is b v c (b.cell c)))
    ∙ ap (λ (x : ℕ). row_of x (λ c. cell_bit b v c (b.cell c))) s

pub own-cells : (size : ℕ) (f : ℕ → Bool) → Cells size (up_to size f)
unfolding up_to
own-cells size f = record { none = λ c l. rw (le-ltb c size l) }

pub vector-written :
    (b : Board) (v : Vector) (size g : ℕ) (on nets row : ℕ → Bool) (before after : List ℕ) →
    size ≡ b.size →
    g ≡ v.group →
    on ≡ on_in b g →
    nets ≡ v.value →
    row ≡ up_to size (bit_at b on nets) →
    after ≡ placed 0 (row_of size row) before →
    after ≡ over (vector_row b v) before
vector-written b v size g on nets row before after s e o n r w =
    w
    ∙ over-is (row_of size row) before
    ∙ ap (λ (f : ℕ → Bool). over (row_of size f) before) r
    ∙ ap (λ (l : List ℕ). over l before) (row_is b v size on nets s (o ∙ ap (on_in b) e) n)
