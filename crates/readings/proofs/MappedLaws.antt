-- A table that is written entry by entry.
use Prim.Native.Nat.{ℕ, ◌+◌, ◌-◌, ◌/◌, ◌≤◌, ◌<◌}
use mathlib.Core.Path.{◌≡◌, refl, sym, ◌∙◌, ap, subst}
use mathlib.Core.Logic.{◌≢◌}
use mathlib.Core.List.{List, ◌++◌}
use native.Mathlib.Omega.{arith}
use borrow.Author.Count.{below_more}
use lib.ListN.{length, get_or, take, drop, set, length-set, length-drop, length-append, get_or-append}
use lib.Seq.{get_or-set_same, get_or-set_other, get_or-drop}
use Rattle.std.proofs.lemmas.List.{get_or-take, get_or-append_right, length-take-le}
use Rattle.base.specs.Digits.{ceil}
use Rattle.rules.specs.Rows.{row_bytes}
use Rattle.readings.specs.Readings.{Mapped, MappedBy, Scanned, Entries}

-- entry by entry, in the part of a table that `map_entries` lends to its loop
module _ {P : ℕ → ℕ → ℕ → Type 0} where
  pub mapped-none : (before : List ℕ) → MappedBy P before 0 before
  mapped-none before = record { long = refl; done = λ c l. absurd (omega arith); rest = λ c l. refl }

  -- the next entry is still as it was
  pub entry_old : (table after : List ℕ) (n c : ℕ) → MappedBy P (take n table) c after → c < n → get_or table c 0 ≡ get_or after c 0
  entry_old table after n c m l = sym (m.rest c (omega arith) ∙ get_or-take n table c 0 l)

  pub mapped-more :
      {before after : List ℕ} {n : ℕ} → MappedBy P before n after → n < length before → (x : ℕ) → P n (get_or after n 0) x → MappedBy P before (n + 1) (set after n x)
  mapped-more {before} {after} {n} m l x h =
      let in_after : n < length after = omega (arith, m.long) in
      record {
        long = length-set after n x ∙ m.long;
        done = below_more _ n
            (λ c s. let ne : c ≢ n = omega arith in rw get_or-set_other (m.done c s))
            (rw (get_or-set_same after n x 0 in_after) (subst (λ (e : ℕ). P n e x) (m.rest n (omega arith)) h));
        rest = λ c q. get_or-set_other after n c x 0 (λ t. omega arith) ∙ m.rest c (omega arith);
      }

  -- with all n entries, the rest of the table stands behind them
  pub mapped-all : (table after : List ℕ) (n : ℕ) → MappedBy P (take n table) n after → n ≤ length table → MappedBy P table n (after ++ drop n table)
  mapped-all table after n m l =
      let long : length after ≡ n = m.long ∙ length-take-le n table l in
      record {
        long = simp (length-append, length-drop) (omega arith);
        done = λ c q. rw (get_or-append after (drop n table) 0 c (omega arith), ← get_or-take n table c 0 q) (m.done c q);
        rest = λ c q. get_or-append_right after (drop n table) n c 0 long q ∙ get_or-drop n table (c - n) 0 ∙ ap (λ (i : ℕ). get_or table i 0) (omega arith);
      }

-- where what P allows is f's value, the entries are f's
pub mapped_as :
    {P : ℕ → ℕ → ℕ → Type 0} {f : ℕ → ℕ → ℕ} {before after : List ℕ} {n : ℕ} → MappedBy P before n after → ((c e x : ℕ) → P c e x → x ≡ f c e) → Mapped f before n after
mapped_as m h = record { long = m.long; done = λ c l. h _ _ _ (m.done c l); rest = m.rest }

-- a cell's byte lies in the row
pub byte_inside : (capture : List ℕ) (at cells c : ℕ) → Scanned capture at cells → c < cells → at + c / 8 < length capture
unfolding row_bytes ceil
byte_inside capture at cells c s l = omega (arith, s.inside)

-- one map after another, maps that agree, and bounds of what a map leaves
pub mapped-then :
    {f g : ℕ → ℕ → ℕ} {before between after : List ℕ} {n : ℕ} →
    Mapped f before n between →
    Mapped g between n after →
    Mapped (λ c e. g c (f c e)) before n after
mapped-then {g = g} m k =
    record {
      long = k.long ∙ m.long;
      done = λ c l. k.done c l ∙ ap (g c) (m.done c l);
      rest = λ c l. k.rest c l ∙ m.rest c l;
    }

pub mapped-same :
    {f g : ℕ → ℕ → ℕ} {before after : List ℕ} {n : ℕ} →
    ((c e : ℕ) → f c e ≡ g c e) →
    Mapped f before n after →
    Mapped g before n after
mapped-same h m = record { long = m.long; done = λ c l. m.done c l ∙ h c _; rest = m.rest }

pub mapped-bounded :
    {f : ℕ → ℕ → ℕ} {before after : List ℕ} {n : ℕ} (most less : ℕ) →
    Entries less n before →
    ((c e : ℕ) → e ≤ less → f c e ≤ most) →
    Mapped f before n after →
    Entries most n after
mapped-bounded {f} {before} {n = n} most less h k m =
    record {
      long = (let a = h.long in omega (arith, m.long));
      entries-bounded = λ c l. rw (m.done c l) (k c (get_or before c 0) (h.entries-bounded c l));
    }

pub mapped-id : (before : List ℕ) (n : ℕ) → Mapped (λ c e. e) before n before
mapped-id before n = record { long = refl; done = λ c l. refl; rest = λ c l. refl }

-- fewer entries are as low
pub entries_below : (most n m : ℕ) (table : List ℕ) → Entries most m table → n ≤ m → Entries most n table
entries_below most n m table h l =
    record { long = (let a = h.long in omega arith); entries-bounded = λ c q. h.entries-bounded c (omega arith) }
