-- Source 000, figures 3 and 4: the procedure that chooses the control cells, as printed, each line of its pseudo code above what stands for
-- it. Document 01's own two passes are in Groups; PublishedLaws compares the two. Assumes nothing.
use Rattle.std.specs.Prelude.{ℕ, zero, suc, Bool, false, cond, not, ◌&&◌, ◌||◌, List, [], ◌∷◌, ◌++◌, ltb}
use Rattle.base.specs.Tests.{any}
use Rattle.base.specs.Counting.{count}
use Rattle.base.specs.Lists.{has}
use Rattle.rules.specs.File.{Board, net_of}
use Rattle.rules.specs.Drivers.{controlled, control_for, drives}

-- figure 3: "If cell is not simple output then mark the corresponding net (row) and control cell (column) of net-vs-control_cell array": net n's
-- row is marked at k where some such cell is on n and has the control cell k
unfoldable pub related : Board → ℕ → ℕ → Bool
related b n k = drives b k n

-- "If element of the net-vs-control_cell array is marked then increase degree"
unfoldable pub degree_of : Board → ℕ → ℕ
degree_of b n = count b.size (related b n)

-- figure 4: a group's row of the three arrays. The output array's is the list of the control cells that are activated in it, the last first
pub record Arrays : Type 0 where
  pub active : List ℕ
  pub net_processed : ℕ → Bool
  pub cell_processed : ℕ → Bool

-- "Initialize output array as "all disabled""; "Initialize auxiliary arrays as "not processed""
unfoldable pub initialized : Arrays
initialized = record { active = []; net_processed = λ n. false; cell_processed = λ k. false }

-- "Activate control cell in output array in this group; For every net controlled by the control cell loop: Mark the net as processed for this
-- group; For every control cell related to the net loop: Mark the control cell as processed for this group"
unfoldable pub activate : Board → ℕ → Arrays → Arrays
activate b k s =
    record {
      active = k ∷ s.active;
      net_processed = λ n. related b n k || s.net_processed n;
      cell_processed = λ j. any b.nets (λ n. related b n k && related b n j) || s.cell_processed j;
    }

-- "If cell is not simple output and net degree is not lower than group and net is not processed and control cell is not processed and control
-- cell has not been previously used then"; not simple is a cell that has a control cell, so each controlled driver, and previously used is
-- one that "has been previously activated in another group"
unfoldable pub first_test : Board → ℕ → List ℕ → Arrays → ℕ → Bool
first_test b g previous s c =
    controlled b c
    && not (ltb (degree_of b (net_of (b.cell c))) g)
    && not (s.net_processed (net_of (b.cell c)))
    && not (s.cell_processed (control_for b c))
    && not (has (control_for b c) previous)

-- "If cell is not simple output and net is not processed and control cell is not processed then"
unfoldable pub second_test : Board → Arrays → ℕ → Bool
second_test b s c =
    controlled b c
    && not (s.net_processed (net_of (b.cell c)))
    && not (s.cell_processed (control_for b c))

-- "For each cell loop": the cells below c, "numbered from BRL-1 to 0", so from the highest on, with the arrays as they are so far
unfoldable pub loop : Board → (Arrays → ℕ → Bool) → ℕ → Arrays → Arrays
loop b test zero s = s
loop b test (suc c) s = loop b test c (cond (test s c) (activate b (control_for b c) s) s)

-- "For each group of control cells loop": group g's rows after both inner loops, where `previous` were activated in the groups before; each
-- group has rows of its own, so it begins anew
unfoldable pub rows_after : Board → ℕ → List ℕ → Arrays
rows_after b g previous = loop b (second_test b) b.size (loop b (first_test b g previous) b.size initialized)

-- the control cells that were activated in one of groups 1 to j
unfoldable pub used_up_to : Board → ℕ → List ℕ
used_up_to b zero = []
used_up_to b (suc j) = (rows_after b (suc j) (used_up_to b j)).active ++ used_up_to b j

-- the control cells that are activated in group g, from 1
unfoldable pub published : Board → ℕ → List ℕ
published b zero = []
published b (suc j) = (rows_after b (suc j) (used_up_to b j)).active
