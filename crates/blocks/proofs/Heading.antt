-- The heads of the blocks, from block 0 on: how many are right so far, and what that says of the header's and of each cell block's.
use Rattle.std.proofs.Common.{◌≡◌, ℕ, zero, suc, ◌+◌, ◌<◌, ◌≤◌, Bool, true, false, ◌&&◌, ltb, ◌⊎◌, List, sym, refl, ◌∙◌, ⊎_elim, arith, le-ltb, lt-ltb, below_more}
use mathlib.Core.Bool.{false≢true}
use Rattle.base.proofs.TestLaws.{Searched}
use Rattle.base.proofs.BoolLaws.{order, left, passes-not}
use Rattle.rules.specs.File.{blocks_in, cells_of, records_in, head_right, header_right, cell_block_right, summed, zeros}
use Rattle.rules.specs.Refusals.{block_wrong}
use Rattle.rules.proofs.Shape.{whole-blocks}
use Rattle.blocks.specs.Reading.{head_of, head_is, head_laid, head_right_at, RightTo, signature_right}
use Rattle.blocks.proofs.Lengths.{has-header, records-bounded}
use Rattle.blocks.specs.Places.{Headed}
use Rattle.blocks.specs.declared.Head.{Head}

-- the definition's test of a head is that of the head as it was read
pub header-head : (file : List ℕ) → head_right_at file 0 ≡ head_right file 0 1 0
unfolding head_right_at head_laid head_is head_of head_right
header-head file = refl

pub cell-head : (file : List ℕ) (i : ℕ) → 1 ≤ i → head_right_at file i ≡ head_right file i 2 (records_in (cells_of file) i)
unfolding head_right_at head_laid head_is head_of head_right
cell-head file zero l = absurd (omega arith)
cell-head file (suc i) l = refl

module _ (file : List ℕ) where
  -- one block more: it goes on from those before it, or it does not
  pub right-one-more : (i heads : ℕ) → RightTo file i heads → heads ≡ i → head_right_at file i ≡ true → RightTo file (i + 1) (heads + 1)
  right-one-more i heads s e h = record { inside = omega arith; lower = below_more _ _ s.lower (rw e h); stops = λ l. absurd (omega arith) }

  pub right-no-more : (i heads : ℕ) → RightTo file i heads → (heads ≡ i → head_right_at file i ≡ false) → RightTo file (i + 1) heads
  right-no-more i heads s h = record { inside = (let l = s.inside in omega arith); lower = s.lower; stops = λ l. grind (arith, s.stops, s.inside, h) }

  -- the test of the head that was read of block i is that of the block
  pub head-right :
      (i : ℕ) {head : Head} {cells : ℕ} {laid answer : Bool} →
      head ≡ head_of file i →
      cells ≡ cells_of file →
      laid ≡ head_laid head cells i →
      laid ≡ answer →
      head_right_at file i ≡ answer
  unfolding head_right_at
  head-right i h c l e = rw (← h, ← c, ← l) e

  -- block i is among them exactly where its head is right, if every lower one is
  pub next-right : (n right i : ℕ) → i < n → RightTo file n right → ((j : ℕ) → j < i → head_right_at file j ≡ true) → ltb i right ≡ head_right_at file i
  next-right n right i l s lower =
      ⊎_elim
      (λ (x : i < right). lt-ltb i right x ∙ sym (s.lower i x))
      (λ (x : right ≤ i). le-ltb i right x ∙ sym (stops x (order right i)))
      (order i right)
    where
      stops : right ≤ i → (right < i) ⊎ (i ≤ right) → head_right_at file i ≡ false
      stops x =
          ⊎_elim
          (λ (y : right < i). absurd (false≢true (sym (s.stops (omega arith)) ∙ lower right y)))
          (λ (y : i ≤ right). let is : right ≡ i = omega arith in rw is at (s.stops (omega arith)))

  -- the blocks that check 5 has passed have their heads, and so has the header
  pub lower-right :
      (n right i : ℕ) →
      RightTo file n right →
      0 < right →
      Searched n (block_wrong file) i →
      (j : ℕ) →
      j < i →
      head_right_at file j ≡ true
  unfolding block_wrong cell_block_right
  lower-right n right i s positive found zero l = s.lower 0 positive
  lower-right n right i s positive found (suc j) l =
      cell-head file (suc j) (omega arith) ∙ left (head_right file (suc j) 2 (records_in (cells_of file) (suc j))) _ (passes-not _ (found.lower (suc j) l))

-- so where refusal 1 has passed, the header's head is right exactly where at least one is
pub headed-first : (file : List ℕ) (heads : ℕ) → Headed file heads → ltb 0 heads ≡ head_right file 0 1 0
headed-first file heads h =
    let positive = (whole-blocks file h.right).1 in
    next-right file (blocks_in file) heads 0 positive h.heads-are (λ j l. absurd (omega arith)) ∙ header-head file

-- the header is its head, its signature and zeros
grouped : (a b c d e f g h : Bool) → (a && b && c && d && e && f && g && h) ≡ (a && (b && c && d && e && f && g) && h)
grouped true b c d e f g h = refl
grouped false b c d e f g h = refl

pub header-parts : (file : List ℕ) → header_right file ≡ (head_right file 0 1 0 && signature_right file && zeros file 16 summed)
unfolding header_right signature_right
header-parts file = grouped (head_right file 0 1 0) _ _ _ _ _ _ _

-- what the search takes for a cell block's layout and the header's
pub ruleset laid = (headed-first, header-parts, cell-head, records-bounded, has-header)
