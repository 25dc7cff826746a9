-- What the contracts say of the table, they say once: two tables that hold the chains of one file by one kind of key have the same heads, and the same
-- links of the cells that have a key; two that hold its numbers of drivers have the same numbers. The links of cells that have no key are left open, and
-- nothing else of a filled table is: two that agree there are equal. The idea: every entry of the table is a link, a head or a number.
use Prim.Native.Nat.{ℕ, ◌+◌, ◌-◌, ◌≤◌, ◌<◌}
use mathlib.Core.Path.{◌≡◌, refl, sym, ◌∙◌, ap}
use mathlib.Core.Logic.{⊎_elim}
use mathlib.Core.Bool.{true, false}
use mathlib.Core.List.{List}
use native.Mathlib.Omega.{arith}
use Rattle.std.specs.Prelude.{Option, Some, None, option_map}
use borrow.Author.Tests.{eq-eqb}
use lib.ListN.{length, get_or}
use lib.Seq.{ext_get_or}
use Rattle.base.proofs.BoolLaws.{order}
use Rattle.rules.specs.File.{board_of, cells_of}
use Rattle.rules.specs.Refusals.{most_cells, most_nets}
use Rattle.rules.specs.declared.Position.{Position}
use Rattle.rules.specs.declared.Net.{Net}
use Rattle.chains.specs.Table.{By, ControlCell, NetOf, room, links_from, counts_from, spare_from, table_size, entry_of, head_in, link_in, count_in, Same}
use Rattle.chains.specs.Chains.{key_at, is_key, keyed, Chains}
use Rattle.chains.specs.Counts.{Counted}
use Rattle.chains.specs.Filling.{Filled}

module _ (file : List ℕ) (by : By) (t t' : List ℕ) (h : Chains file by t) (k : Chains file by t') where
  -- every key's head
  pub heads-once : (key : ℕ) → key < room by → head_in by t key ≡ head_in by t' key
  heads-once key l = h.linked.head key l ∙ sym (k.linked.head key l)

  -- the link of a cell that has a key
  pub links-once : (c key : ℕ) → c < cells_of file → keyed (board_of file) by key c ≡ true → link_in by t c ≡ link_in by t' c
  links-once c key l e = h.linked.link c key l e ∙ sym (k.linked.link c key l e)

-- every net's number of drivers
pub counts-once : (file : List ℕ) (n : ℕ) (t t' : List ℕ) → Counted file n t → Counted file n t' → (m : ℕ) → m < most_nets → count_in t m ≡ count_in t' m
counts-once file n t t' h k m l = h.counted m l ∙ sym (k.counted m l)

-- a position that has no key: its cell has none, or it is past the board's last
abbrev pub Keyless : List ℕ → By → ℕ → Type 0
Keyless file by c = (key : ℕ) → c < cells_of file → keyed (board_of file) by key c ≡ false

-- the links of one kind that are left open
abbrev pub SameLinks : List ℕ → By → List ℕ → List ℕ → Type 0
SameLinks file by t t' = (c : ℕ) → c < most_cells → Keyless file by c → link_in by t c ≡ link_in by t' c

-- two tables that agree there have the same links
links-all :
    (file : List ℕ) (by : By) (t t' : List ℕ) → Chains file by t → Chains file by t' → SameLinks file by t t' →
    (c : ℕ) → c < most_cells → link_in by t c ≡ link_in by t' c
unfolding keyed is_key
links-all file by t t' h k same c l =
    ⊎_elim
    (λ (m : c < cells_of file). by_key m (key_at (board_of file) by c) refl)
    (λ (m : cells_of file ≤ c). same c l (λ key n. absurd (omega arith)))
    (order c (cells_of file))
  where
    by_key : c < cells_of file → (key : Option ℕ) → key_at (board_of file) by c ≡ key → link_in by t c ≡ link_in by t' c
    by_key m (Some n) e = links-once file by t t' h k c n m (rw e (eq-eqb n n refl))
    by_key m None e = same c l (λ key n. rw e refl)

-- the entry at i, by where it stands
at_place : (t t' : List ℕ) (i j : ℕ) → i ≡ j → get_or t j 0 ≡ get_or t' j 0 → get_or t i 0 ≡ get_or t' i 0
at_place t t' i j e s = rw e s

-- two tables with the chains by control cell and the numbers of drivers of one file are equal, where the open links and the chains by net are
module _
    (file t t' : List ℕ)
    (long : length t ≡ table_size)
    (long' : length t' ≡ table_size)
    (h : Chains file ControlCell t)
    (k : Chains file ControlCell t')
    (n : Counted file (cells_of file) t)
    (n' : Counted file (cells_of file) t')
    (links-same : SameLinks file ControlCell t t')
    (nets-same : Same spare_from counts_from t t') where
  entry-same : (i : ℕ) → i < table_size → get_or t i 0 ≡ get_or t' i 0
  entry-same i l =
      ⊎_elim link (λ a. ⊎_elim (head a) (λ b. ⊎_elim (λ c. sym (nets-same.entry i b c)) number (order i counts_from)) (order i spare_from)) (order i most_cells)
    where
      link : i < most_cells → get_or t i 0 ≡ get_or t' i 0
      link m = at_place t t' i (links_from ControlCell + i) (omega arith) (links-all file ControlCell t t' h k links-same i m)

      head : most_cells ≤ i → i < spare_from → get_or t i 0 ≡ get_or t' i 0
      head a m =
          at_place t t' i (links_from ControlCell + (most_cells + (i - most_cells))) (omega arith)
          (heads-once file ControlCell t t' h k (i - most_cells) (omega arith))

      number : counts_from ≤ i → get_or t i 0 ≡ get_or t' i 0
      number a =
          at_place t t' i (counts_from + (i - counts_from)) (omega arith) (counts-once file (cells_of file) t t' n n' (i - counts_from) (omega arith))

  pub tables-once : t ≡ t'
  tables-once = ext_get_or 0 t t' (long ∙ sym long') (λ i l. entry-same i (omega (arith, long)))

-- two filled tables are equal, where the open links are
module _
    (file t t' : List ℕ)
    (h : Filled file t)
    (k : Filled file t')
    (links-same : SameLinks file ControlCell t t')
    (net-links-same : SameLinks file NetOf t t') where
  nets-entry : (i : ℕ) → spare_from ≤ i → i < counts_from → get_or t i 0 ≡ get_or t' i 0
  nets-entry i a l = ⊎_elim link head (order i (spare_from + most_cells))
    where
      link : i < spare_from + most_cells → get_or t i 0 ≡ get_or t' i 0
      link m =
          at_place t t' i (links_from NetOf + (i - spare_from)) (omega arith)
          (links-all file NetOf t t' h.by-net k.by-net net-links-same (i - spare_from) (omega arith))

      head : spare_from + most_cells ≤ i → get_or t i 0 ≡ get_or t' i 0
      head m =
          at_place t t' i (links_from NetOf + (most_cells + (i - (spare_from + most_cells)))) (omega arith)
          (heads-once file NetOf t t' h.by-net k.by-net (i - (spare_from + most_cells)) (omega arith))

  pub filled-once : t ≡ t'
  filled-once =
      tables-once file t t' h.long k.long h.by-control k.by-control h.counted k.counted links-same (record { entry = λ i a l. sym (nets-entry i a l) })

-- an entry of the spare room is one position; one of the chains names one position, or none; and a cell is on one net, or on none
pub spare-once : (entry : ℕ) (r s : Position) → r.0 ≡ entry → s.0 ≡ entry → r ≡ s
spare-once entry r s h k = λ i. record { 0 = (h ∙ sym k) i }

pub named-once : (entry : ℕ) (r s : Option Position) → entry_of r ≡ entry → entry_of s ≡ entry → r ≡ s
named-once entry None None h k = refl
named-once entry None (Some d) h k = absurd (omega arith)
named-once entry (Some c) None h k = absurd (omega arith)
named-once entry (Some c) (Some d) h k = ap Some (spare-once c.0 c d refl (omega arith))

pub key-once : (key : Option ℕ) (r s : Option Net) → option_map (λ n. n.0) r ≡ key → option_map (λ n. n.0) s ≡ key → r ≡ s
key-once key None None h k = refl
key-once key None (Some d) h k = cc
key-once key (Some c) None h k = cc
key-once key (Some c) (Some d) h k = let e : c.0 ≡ d.0 = cc in λ i. Some (record { 0 = e i })
