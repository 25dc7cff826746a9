-- Walks along the chains of a whole file, from a head or a link down to the last: what each step of such a loop needs.
use Prim.Native.Nat.{ℕ, suc, ◌-◌, ◌<◌, ◌≤◌}
use mathlib.Core.Path.{◌≡◌, refl, sym, ◌∙◌, ap}
use mathlib.Core.Bool.{Bool, true, false}
use mathlib.Core.List.{List}
use native.Mathlib.Omega.{arith}
use Rattle.std.specs.Prelude.{Option, None, Some}
use Rattle.base.specs.Tests.{any}
use Rattle.base.proofs.TestLaws.{any_none}
use Rattle.rules.specs.File.{board_of, cells_of, nets_of}
use Rattle.rules.specs.Refusals.{judge, file_checks, most_cells, most_nets, Accepted}
use Rattle.rules.specs.declared.Position.{Position}
use Rattle.rules.proofs.Shape.{laid, shaped}
use Rattle.cells.specs.Whole.{Sized}
use Rattle.chains.specs.Table.{By, room, entry_of, head_in, link_in}
use Rattle.chains.specs.Chains.{keyed, Chains}
use Rattle.chains.proofs.Chaining.{last-le, Walking, walk_start, walk-next, walk-found, walk-ended, walk-member}

-- the cells and the nets of a whole file fit the table
pub cell-fits : (file : List ℕ) → judge (file_checks file) ≡ Accepted → (c : ℕ) → c < cells_of file → c < most_cells
cell-fits file ok c l = let f = (laid file (shaped file ok)).cells.at_most in omega arith

pub net-fits : (file : List ℕ) → judge (file_checks file) ≡ Accepted → (n : ℕ) → n < nets_of file → n < most_nets
net-fits file ok n l = let f = (laid file (shaped file ok)).nets.at_most in omega arith

pub cells_fit : (file : List ℕ) → judge (file_checks file) ≡ Accepted → cells_of file ≤ most_cells
cells_fit file ok = (laid file (shaped file ok)).cells.at_most

pub sized-fits : (file : List ℕ) (cells nets : ℕ) → judge (file_checks file) ≡ Accepted → Sized file cells nets → nets ≤ most_nets
sized-fits file cells nets ok sized = let f = (laid file (shaped file ok)).nets.at_most in let e = sized.nets-are in omega arith

-- 1 + (at - 1) is at
pub above : (at : ℕ) → 0 < at → suc (at - 1) ≡ at
above at h = omega arith

-- the cell that a walk has come to lies below what it started from
pub below-named : (n : ℕ) (at : Option Position) (cell : Position) → entry_of at ≤ n → at ≡ Some cell → cell.0 < n
below-named n at cell under named = let e = ap entry_of named in omega arith

-- a cell of the file that has key k
pub record Named (file : List ℕ) (by : By) (k cell : ℕ) : Type 0 where
  pub below : cell < cells_of file
  pub on : keyed (board_of file) by k cell ≡ true

module _ (file : List ℕ) (by : By) (t : List ℕ) (chains : Chains file by t) where
  -- a head or a link is no higher than it may be
  pub head-bounded : (k : ℕ) → k < room by → head_in by t k ≤ cells_of file
  head-bounded k l = rw (chains.linked.head k l) (last-le (cells_of file) (keyed (board_of file) by k))

  pub link-bounded : (c : ℕ) → c < cells_of file → link_in by t c ≤ c
  link-bounded c l = chains.linked.lower c (cell-fits file chains.checked c l)

  -- so a walk goes down
  pub walk-falls :
      (at : Option Position) (cell : Position) (next : Option Position) → cell.0 < cells_of file → at ≡ Some cell → entry_of next ≡ link_in by t cell.0 →
      entry_of next < entry_of at
  walk-falls at cell next l named e = let bounded = link-bounded cell.0 l in let f = ap entry_of named in omega arith

  module _ (k : ℕ) (q : ℕ → Bool) (only : (c : ℕ) → q c ≡ true → keyed (board_of file) by k c ≡ true) where
    abbrev pub Walk : ℕ → ℕ → Type 0
    Walk n at = Walking (keyed (board_of file) by k) q n at

    -- from a head: all positions of the key
    pub from-head : k < room by → (at : ℕ) → at ≡ head_in by t k → Walk (cells_of file) at
    from-head l at e = walk_start _ q only (cells_of file) at (e ∙ chains.linked.head k l)

    -- the step's cell, which `at` names, is on the chain
    pub on_chain : (n : ℕ) (at : Option Position) (cell : Position) → Walk n (entry_of at) → at ≡ Some cell → keyed (board_of file) by k cell.0 ≡ true
    on_chain n at cell w named = walk-member _ q only n cell.0 (rw named at w)

    -- one step further
    pub step :
        (n : ℕ) (at : Option Position) (cell : Position) (next : Option Position) → n ≤ cells_of file → Walk n (entry_of at) → at ≡ Some cell →
        q cell.0 ≡ false → entry_of next ≡ link_in by t cell.0 → Walk n (entry_of next)
    step n at cell next l w named f g =
        let up : Walk n (suc cell.0) = rw named at w in
        let u = up.under in
        walk-next _ q only n cell.0 _ up f (g ∙ chains.linked.link cell.0 k (omega arith) (walk-member _ q only n cell.0 up))

    pub hit : (n : ℕ) (at : Option Position) (cell : Position) → Walk n (entry_of at) → at ≡ Some cell → q cell.0 ≡ true → any n q ≡ true
    hit n at cell w named h = walk-found _ q only n cell.0 (rw named at w) h

    pub missed : (n : ℕ) (at : Option Position) → Walk n (entry_of at) → at ≡ None → any n q ≡ false
    missed n at w ended = walk-ended _ q only n (rw ended at w)

  -- what a head names
  pub named-head :
      (k : ℕ) → k < room by → (at : Option Position) (cell : Position) → entry_of at ≡ head_in by t k → at ≡ Some cell → Named file by k cell.0
  named-head k l at cell e named =
      let bounded = head-bounded k l in
      let f = ap entry_of named in
      let own : ℕ → Bool = keyed (board_of file) by k in
      record { below = omega arith; on = on_chain k own (λ d h. h) _ at cell (from-head k own (λ d h. h) l _ e) named }

  -- a head that is none: no position has the key
  pub none-keyed : (k : ℕ) → k < room by → head_in by t k ≡ 0 → (c : ℕ) → c < cells_of file → keyed (board_of file) by k c ≡ false
  none-keyed k l z c m =
      let own : ℕ → Bool = keyed (board_of file) by k in
      any_none _ _ (missed k own (λ d h. h) (cells_of file) None (from-head k own (λ d h. h) l 0 (sym z)) refl) m
