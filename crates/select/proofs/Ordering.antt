-- The highest drivers in the table's spare room: how they are filled in, and that the pass over them is the pass. There is room for one number
-- a cell, so for each of them.
use Prim.Native.Nat.{ℕ, zero, suc, ◌+◌, ◌-◌, ◌<◌, ◌≤◌}
use mathlib.Core.Path.{◌≡◌, refl, ◌∙◌, ap, ap₂}
use mathlib.Core.Logic.{⊎_elim}
use mathlib.Core.Bool.{Bool, true, false}
use mathlib.Core.List.{List, ◌∷◌}
use native.Mathlib.Numerals.{add-one, sub-one}
use native.Mathlib.Omega.{arith}
use lib.ListN.{set, length-set}
use lib.Seq.{get_or-set_same, get_or-set_other}
use Rattle.base.specs.Counting.{count}
use Rattle.base.proofs.BoolLaws.{below_suc}
use Rattle.base.proofs.CountingLaws.{count-le}
use Rattle.rules.specs.File.{Board, board_of, cells_of}
use Rattle.rules.specs.Groups.{turn, pass}
use Rattle.rules.specs.Refusals.{most_cells}
use Rattle.rules.proofs.Selection.{sound}
use Rattle.chains.specs.Table.{spare_from, spare_in}
use Rattle.chains.proofs.Walks.{cells_fit}
use Rattle.chains.proofs.Entering.{spare-control, spare-counts}
use Rattle.select.specs.Turns.{wanted_in, Ready}
use Rattle.select.specs.Highest.{highest, highest_drivers, pass_over, backwards, Ordered, Order}
use Rattle.select.proofs.Highest.{pass-highest, settled-none}

-- the number of cells of a ready table's file fits the table
pub ready-fits : (file t : List ℕ) → Ready file t → cells_of file ≤ most_cells
ready-fits file t ready = cells_fit file ready.by-control.checked

-- an entry of the spare room leaves the table ready
ready-set : (file t : List ℕ) (i v : ℕ) → i < most_cells → Ready file t → Ready file (set t (spare_from + i) v)
ready-set file t i v l ready =
    record {
      accepted = ready.accepted;
      long = length-set t (spare_from + i) v ∙ ready.long;
      by-control = spare-control i v t l file ready.by-control;
      counted = spare-counts i v t l file ready.counted;
    }

-- and the entries below it
backwards-set : (t : List ℕ) (j v i : ℕ) → i ≤ j → backwards (set t (spare_from + j) v) i ≡ backwards t i
unfolding backwards
backwards-set t j v zero l = refl
backwards-set t j v (suc i) l =
    ap₂ ◌∷◌
    (get_or-set_other t (spare_from + j) (spare_from + i) v 0 (λ (e : spare_from + i ≡ spare_from + j). omega arith))
    (backwards-set t j v i (omega arith))

-- none yet
pub ordered-none : (file t : List ℕ) → Ready file t → Ordered file 0 t 0
unfolding count backwards highest_drivers
ordered-none file t ready =
    record {
      ready = ready;
      found-are = refl;
      below = λ i m. absurd (omega arith);
      entries = refl;
    }

module _ (file : List ℕ) (c : ℕ) (t : List ℕ) (found : ℕ) (o : Ordered file c t found) where
  -- there are no more than positions
  pub found-bounded : found ≤ c
  found-bounded = let e = o.found-are in let l = count-le c (highest (board_of file)) in omega arith

  -- so each has its place
  pub place : c ≤ cells_of file → (i : ℕ) → i < found → i < most_cells
  place l i m = let f = ready-fits file t o.ready in let bounded = found-bounded in omega arith

  -- and there is room for one more
  pub room-more : c < cells_of file → found < most_cells
  room-more l = let f = ready-fits file t o.ready in let bounded = found-bounded in omega arith

  -- a position that is no highest driver is left out
  pub ordered-skip : highest (board_of file) c ≡ false → Ordered file (c + 1) t found
  unfolding count highest_drivers
  ordered-skip h =
      rw (add-one c)
      (record {
        ready = o.ready;
        found-are = rw h (let e = o.found-are in omega arith);
        below = λ i l. let m = o.below i l in omega arith;
        entries = rw h o.entries;
      })

  -- one that is comes last
  pub ordered-add : highest (board_of file) c ≡ true → c < cells_of file → Ordered file (c + 1) (set t (spare_from + found) c) (found + 1)
  unfolding count highest_drivers backwards
  ordered-add h l =
      rw (add-one c, add-one found)
      (record {
        ready = ready-set file t found c (room-more l) o.ready;
        found-are = rw h (let e = o.found-are in omega arith);
        below = below;
        entries = rw h (ap₂ ◌∷◌ here (backwards-set t found c found (omega arith) ∙ o.entries));
      })
    where
      here : spare_in (set t (spare_from + found) c) found ≡ c
      here = let r = room-more l in let long = o.ready.long in get_or-set_same t (spare_from + found) c 0 (omega arith)

      below : (i : ℕ) → i < suc found → spare_in (set t (spare_from + found) c) i < suc c
      below i m =
          ⊎_elim
          (λ (e : i ≡ found). rw (e, here) (omega arith))
          (λ (m : i < found). rw (get_or-set_other t (spare_from + found) (spare_from + i) c 0 (λ (e : spare_from + i ≡ spare_from + found). omega arith)) (let b = o.below i m in omega arith))
          (below_suc m)

-- the pass over the first i entries, from the last down
module _ (b : Board) (wanted allowed : ℕ → Bool) (t : List ℕ) where
  pub over-end : (i : ℕ) (on : List ℕ) → i ≤ 0 → pass_over b wanted allowed (backwards t i) on ≡ on
  unfolding pass_over backwards
  over-end zero on h = refl
  over-end (suc i) on h = absurd (omega arith)

  pub over-step :
      (i c : ℕ) (on : List ℕ) → 0 < i → c ≡ spare_in t (i - 1) →
      pass_over b wanted allowed (backwards t i) on ≡ pass_over b wanted allowed (backwards t (i - 1)) (turn b wanted allowed c on)
  unfolding pass_over backwards
  over-step zero c on h e = absurd (omega arith)
  over-step (suc i) c on h e = rw (e, sub-one)

-- all of it is the pass
module _ (file t : List ℕ) (found : ℕ) (o : Order file t found) (wanted allowed : ℕ → Bool) (on : List ℕ) where
  pub over-all : pass_over (board_of file) (wanted_in (board_of file) wanted) allowed (backwards t found) on ≡ pass (board_of file) (wanted_in (board_of file) wanted) allowed (cells_of file) on
  unfolding board_of
  over-all =
      let s = sound file o.ready.accepted in
      ap (λ (cs : List ℕ). pass_over (board_of file) (wanted_in (board_of file) wanted) allowed cs on) o.entries
      ∙ pass-highest (board_of file) s wanted allowed (cells_of file) on (omega arith) (settled-none (board_of file) s wanted allowed on)
