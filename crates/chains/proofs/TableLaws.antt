-- Laws of the table's parts: what a store changes, and what it leaves.
use Prim.Native.Nat.{ℕ, ◌+◌, ◌<◌, ◌≤◌}
use mathlib.Core.Path.{◌≡◌, ◌∙◌}
use mathlib.Core.List.{List}
use native.Mathlib.Omega.{arith}
use lib.ListN.{length, get_or, set, length-set, replicate, length-replicate}
use lib.Seq.{get_or-set_same, get_or-set_other}
use Rattle.base.proofs.ListLaws.{zero-at}
use Rattle.rules.specs.Refusals.{most_cells, most_nets}
use Rattle.chains.specs.Table.{counts_from, table_size, spliced, one_more, count_in, Blank, Same}

-- a table of zeros is blank
pub blank : Blank (replicate table_size 0)
blank = record { long = length-replicate {A = ℕ} table_size 0; zero-at = zero-at table_size }

-- what splicing changes: the new head and its link; all else stays
module _ (from c k : ℕ) (t : List ℕ) where
  -- the link is stored first
  abbrev linked : List ℕ
  linked = set t (from + c) (get_or t (from + (most_cells + k)) 0)

  pub spliced_long : length (spliced from c k t) ≡ length t
  unfolding spliced
  spliced_long = length-set linked (from + (most_cells + k)) (c + 1) ∙ length-set t (from + c) (get_or t (from + (most_cells + k)) 0)

  pub spliced-head : from + (most_cells + k) < length t → get_or (spliced from c k t) (from + (most_cells + k)) 0 ≡ c + 1
  unfolding spliced
  spliced-head l = get_or-set_same linked (from + (most_cells + k)) (c + 1) 0 (rw length-set l)

  pub spliced-link : c < most_cells → from + (most_cells + k) < length t → get_or (spliced from c k t) (from + c) 0 ≡ get_or t (from + (most_cells + k)) 0
  unfolding spliced
  spliced-link m l =
      get_or-set_other linked (from + (most_cells + k)) (from + c) (c + 1) 0 (λ (s : from + c ≡ from + (most_cells + k)). omega arith)
      ∙ get_or-set_same t (from + c) (get_or t (from + (most_cells + k)) 0) 0 (omega arith)

  pub spliced-other : (i : ℕ) → (i ≡ from + c → ⊥) → (i ≡ from + (most_cells + k) → ⊥) → get_or (spliced from c k t) i 0 ≡ get_or t i 0
  unfolding spliced
  spliced-other i p q =
      get_or-set_other linked (from + (most_cells + k)) i (c + 1) 0 q ∙ get_or-set_other t (from + c) i (get_or t (from + (most_cells + k)) 0) 0 p

  -- a part that lies apart from the family stays
  pub spliced-apart : (a z keys : ℕ) → c < most_cells → k < keys → ((i : ℕ) → a ≤ i → i < z → from ≤ i → i < from + (most_cells + keys) → ⊥) → Same a z t (spliced from c k t)
  spliced-apart a z keys l m apart =
      record {
        entry = λ i p q. spliced-other i
            (λ (e : i ≡ from + c). apart i p q (omega arith) (omega arith))
            (λ (e : i ≡ from + (most_cells + k)). apart i p q (omega arith) (omega arith));
      }

-- one driver more
module _ (n : ℕ) (t : List ℕ) where
  pub more-long : length (one_more n t) ≡ length t
  unfolding one_more
  more-long = length-set t (counts_from + n) (count_in t n + 1)

  pub more-here : n < most_nets → length t ≡ table_size → count_in (one_more n t) n ≡ count_in t n + 1
  unfolding one_more
  more-here l e = get_or-set_same t (counts_from + n) (count_in t n + 1) 0 (omega arith)

  pub more-other : (i : ℕ) → (i ≡ counts_from + n → ⊥) → get_or (one_more n t) i 0 ≡ get_or t i 0
  unfolding one_more
  more-other i p = get_or-set_other t (counts_from + n) i (count_in t n + 1) 0 p

  -- the parts before the numbers of drivers stay
  pub more-before : (a z : ℕ) → z ≤ counts_from → Same a z t (one_more n t)
  more-before a z l = record { entry = λ i p q. more-other i (λ (e : i ≡ counts_from + n). omega arith) }
