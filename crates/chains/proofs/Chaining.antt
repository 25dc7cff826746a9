-- Laws of chains: what `last` gives, and what one more output does to a head and a link.
use Prim.Native.Nat.{ℕ, zero, suc, ◌+◌, ◌<◌, ◌≤◌}
use mathlib.Core.Path.{◌≡◌, refl, sym, ◌∙◌}
use mathlib.Core.Logic.{⊎_elim}
use mathlib.Core.Bool.{Bool, true, false, cond, ◌&&◌, ◌||◌, false≢true, and-true, and-false}
use mathlib.Core.List.{List}
use native.Mathlib.Numerals.{add-one}
use native.Mathlib.Omega.{arith}
use Rattle.std.specs.Prelude.{Some, None}
use Rattle.std.proofs.lemmas.Option.{cond_some}
use borrow.Author.Tests.{eqb-true, eq-eqb}
use lib.Dec.{eqb}
use lib.ListN.{length, get_or, set}
use lib.Seq.{get_or-set_same, get_or-set_other}
use Rattle.base.specs.Tests.{any}
use Rattle.base.proofs.BoolLaws.{decided, fails-if, clashes, below_suc}
use Rattle.rules.specs.File.{Board, board_of, cells_of, net_of, broken_at}
use Rattle.rules.specs.Drivers.{controlled, control_for, always_on, on_net, output_of}
use Rattle.rules.specs.Refusals.{judge, file_checks, most_cells, Accepted}
use Rattle.rules.proofs.Shape.{laid, shaped, whole-records}
use Rattle.rules.proofs.DriverLaws.{kept-control, kept-net}
use Rattle.chains.specs.Table.{By, ControlCell, NetOf, links_from, room, head_in, link_in, spliced, Same}
use Rattle.chains.specs.Chains.{last, key_at, is_key, keyed, Linked}
use Rattle.chains.proofs.TableLaws.{spliced-head, spliced-link, spliced-other}

-- one more number: it is the last where it passes, else the last stays
pub last-passes : (n : ℕ) (p : ℕ → Bool) → p n ≡ true → last (suc n) p ≡ suc n
unfolding last
last-passes n p h = rw h

pub last-fails : (n : ℕ) (p : ℕ → Bool) → p n ≡ false → last (suc n) p ≡ last n p
unfolding last
last-fails n p h = rw h

pub last-le : (n : ℕ) (p : ℕ → Bool) → last n p ≤ n
unfolding last
last-le zero p = omega arith
last-le (suc n) p = go (p n) (last-le n p)
  where
    go : (a : Bool) → last n p ≤ n → cond a (suc n) (last n p) ≤ suc n
    go true l = omega arith
    go false l = omega arith

-- what it gives passes
pub last-member : (n : ℕ) (p : ℕ → Bool) (c : ℕ) → last n p ≡ suc c → p c ≡ true
unfolding last
last-member zero p c e = absurd (omega arith)
last-member (suc n) p c e = go (p n) refl e (last-member n p c)
  where
    go : (a : Bool) → p n ≡ a → cond a (suc n) (last n p) ≡ suc c → (last n p ≡ suc c → p c ≡ true) → p c ≡ true
    go true h q r = let s : n ≡ c = omega arith in rw s at h
    go false h q r = r q

-- and nothing above it does
pub last-above : (n : ℕ) (p : ℕ → Bool) (c : ℕ) → last n p ≤ c → c < n → p c ≡ false
unfolding last
last-above zero p c l m = absurd (omega arith)
last-above (suc n) p c l m = go (p n) refl l (last-above n p c)
  where
    go : (a : Bool) → p n ≡ a → cond a (suc n) (last n p) ≤ c → (last n p ≤ c → c < n → p c ≡ false) → p c ≡ false
    go true e h r = absurd (omega arith)
    go false e h r = ⊎_elim (λ (q : c ≡ n). rw q e) (λ (q : c < n). r h q) (below_suc m)

-- for a test that passes only where p does, some number below n is some number below the last
pub any_last : (n : ℕ) (p q : ℕ → Bool) → ((c : ℕ) → c < n → q c ≡ true → p c ≡ true) → any n q ≡ any (last n p) q
unfolding last any
any_last zero p q h = refl
any_last (suc n) p q h = go (p n) refl (any_last n p q (λ c l. h c (omega arith)))
  where
    go : (a : Bool) → p n ≡ a → any n q ≡ any (last n p) q → (q n || any n q) ≡ any (cond a (suc n) (last n p)) q
    go true e r = refl
    go false e r = rw (fails-if (q n) (λ t. clashes (h n (omega arith) t) e)) r

-- nothing has a key below 0
pub linked-none : (b : Board) (by : By) (t : List ℕ) → ((i : ℕ) → get_or t i 0 ≡ 0) → Linked b by 0 t
unfolding last
linked-none b by t z =
    record {
      head = λ k l. z (links_from by + (most_cells + k));
      link = λ c k l. absurd (omega arith);
      lower = λ c l. let e = z (links_from by + c) in omega arith;
    }

-- another table that has the same family has the same chains
pub linked-same : (b : Board) (by : By) (n : ℕ) (t t' : List ℕ) → n ≤ most_cells → Same (links_from by) (links_from by + (most_cells + room by)) t t' → Linked b by n t → Linked b by n t'
linked-same b by n t t' bounded same l =
    record {
      head = λ k m. same.entry (links_from by + (most_cells + k)) (omega arith) (omega arith) ∙ l.head k m;
      link = λ c k m h. same.entry (links_from by + c) (omega arith) (omega arith) ∙ l.link c k m h;
      lower = λ c m. let e = same.entry (links_from by + c) (omega arith) (omega arith) in let o = l.lower c m in omega arith;
    }

module _ (b : Board) (by : By) (c : ℕ) (t : List ℕ) (so_far : Linked b by c t) where
  -- a cell with no key changes nothing
  pub linked-skip : key_at b by c ≡ None → Linked b by (c + 1) t
  unfolding keyed is_key
  linked-skip e =
      rw (add-one c)
      (record {
        head = λ k l. so_far.head k l ∙ sym (last-fails c (keyed b by k) (rw e));
        link = λ d k l h. ⊎_elim (λ (q : d ≡ c). absurd (false≢true (rw (q, e) at h))) (λ (q : d < c). so_far.link d k q h) (below_suc l);
        lower = so_far.lower;
      })

  -- a cell with key x: its link is the old head, the new head is the cell
  pub linked-add : (x : ℕ) → key_at b by c ≡ Some x → x < room by → c < most_cells → links_from by + (most_cells + room by) ≤ length t → Linked b by (c + 1) (spliced (links_from by) c x t)
  unfolding keyed is_key
  linked-add x e lx lc long = rw (add-one c) (record { head = heads-are; link = links-are; lower = lower-are })
    where
      fits : links_from by + (most_cells + x) < length t
      fits = omega arith

      here : link_in by (spliced (links_from by) c x t) c ≡ last c (keyed b by x)
      here = spliced-link (links_from by) c x t lc fits ∙ so_far.head x lx

      there : (d : ℕ) → (d ≡ c → ⊥) → d < most_cells → link_in by (spliced (links_from by) c x t) d ≡ link_in by t d
      there d p m =
          spliced-other (links_from by) c x t (links_from by + d)
          (λ (s : links_from by + d ≡ links_from by + c). p (omega arith))
          (λ (s : links_from by + d ≡ links_from by + (most_cells + x)). omega arith)

      keyed-c : (k : ℕ) → keyed b by k c ≡ eqb x k
      keyed-c k = rw e

      lower-are : (d : ℕ) → d < most_cells → link_in by (spliced (links_from by) c x t) d ≤ d
      lower-are d m =
          ⊎_elim
          (λ (q : eqb d c ≡ true). let s = eqb-true d c q in let h = here in let o = last-le c (keyed b by x) in rw s (omega arith))
          (λ (q : eqb d c ≡ false). let h = there d (λ s. clashes (eq-eqb d c s) q) m in let o = so_far.lower d m in omega arith)
          (decided (eqb d c))

      heads-are : (k : ℕ) → k < room by → head_in by (spliced (links_from by) c x t) k ≡ last (suc c) (keyed b by k)
      heads-are k l =
          ⊎_elim
          (λ (q : eqb x k ≡ true). let s = eqb-true x k q in rw (← s) (spliced-head (links_from by) c x t fits) ∙ add-one c ∙ sym (last-passes c (keyed b by k) (keyed-c k ∙ q)))
          (λ (q : eqb x k ≡ false). spliced-other (links_from by) c x t (links_from by + (most_cells + k))
          (λ (s : links_from by + (most_cells + k) ≡ links_from by + c). omega arith)
          (λ (s : links_from by + (most_cells + k) ≡ links_from by + (most_cells + x)). clashes (eq-eqb x k (omega arith)) q)
          ∙ so_far.head k l ∙ sym (last-fails c (keyed b by k) (keyed-c k ∙ q)))
          (decided (eqb x k))

      links-are : (d k : ℕ) → d < suc c → keyed b by k d ≡ true → link_in by (spliced (links_from by) c x t) d ≡ last d (keyed b by k)
      links-are d k l h =
          ⊎_elim
          (λ (q : d ≡ c). let s = eqb-true x k (sym (keyed-c k) ∙ (rw q at h)) in rw (q, ← s) here)
          (λ (q : d < c). there d (λ (s : d ≡ c). omega arith) (omega arith) ∙ so_far.link d k q h)
          (below_suc l)

-- the link of a cell with no key is free: any number no higher than the cell may stand there
pub linked-free : (b : Board) (by : By) (n : ℕ) (t : List ℕ) (c v : ℕ) → key_at b by c ≡ None → c < most_cells → v ≤ c → links_from by + c < length t
    → Linked b by n t → Linked b by n (set t (links_from by + c) v)
unfolding keyed is_key
linked-free b by n t c v e bounded no-higher fits l =
    record {
      head = λ k m. get_or-set_other t (links_from by + c) (links_from by + (most_cells + k)) v 0 (λ (s : links_from by + (most_cells + k) ≡ links_from by + c). omega arith) ∙ l.head k m;
      link = λ d k m h. there d (λ (s : d ≡ c). false≢true (rw (s, e) at h)) ∙ l.link d k m h;
      lower = lower-are;
    }
  where
    there : (d : ℕ) → (d ≡ c → ⊥) → link_in by (set t (links_from by + c) v) d ≡ link_in by t d
    there d p = get_or-set_other t (links_from by + c) (links_from by + d) v 0 (λ (s : links_from by + d ≡ links_from by + c). p (omega arith))

    lower-are : (d : ℕ) → d < most_cells → link_in by (set t (links_from by + c) v) d ≤ d
    lower-are d m =
        ⊎_elim
        (λ (q : eqb d c ≡ true). let s = eqb-true d c q in let h = get_or-set_same t (links_from by + c) v 0 fits in rw s (omega arith))
        (λ (q : eqb d c ≡ false). let h = there d (λ s. clashes (eq-eqb d c s) q) in let o = l.lower d m in omega arith)
        (decided (eqb d c))

-- a key of a whole file has a head
pub key_below : (file : List ℕ) → judge (file_checks file) ≡ Accepted → (by : By) (c x : ℕ) → c < cells_of file → key_at (board_of file) by c ≡ Some x → x < room by
unfolding key_at board_of
key_below file ok by c x l e = go by e
  where
    whole : (p : ℕ) → p < cells_of file → broken_at file p ≡ false
    whole = whole-records file ok

    go : (by : By) → key_at (board_of file) by c ≡ Some x → x < room by
    go ControlCell h =
        let q = cond_some _ _ _ h in
        let k = (kept-control file whole c l q.0).0 in
        let cells = (laid file (shaped file ok)).cells.at_most in
        rw (← q.1) (omega arith)
    go NetOf h =
        let q = cond_some _ _ _ h in
        let n = kept-net file whole c l q.0 in
        let nets = (laid file (shaped file ok)).nets.at_most in
        rw (← q.1) (omega arith)

-- a walk along a chain, looking for a member that passes q: nothing above `at` has
pub record Walking (p q : ℕ → Bool) (n at : ℕ) : Type 0 where
  pub top : last at p ≡ at
  pub under : at ≤ n
  pub left : any n q ≡ any at q

pub last-again : (n : ℕ) (p : ℕ → Bool) → last (last n p) p ≡ last n p
unfolding last
last-again zero p = refl
last-again (suc n) p = go (p n) refl (last-again n p)
  where
    go : (a : Bool) → p n ≡ a → last (last n p) p ≡ last n p → last (cond a (suc n) (last n p)) p ≡ cond a (suc n) (last n p)
    go true e r = rw e
    go false e r = r

module _ (p q : ℕ → Bool) (only : (c : ℕ) → q c ≡ true → p c ≡ true) where
  pub walk_start : (n at : ℕ) → at ≡ last n p → Walking p q n at
  walk_start n at e =
      rw e (record { top = last-again n p; under = last-le n p; left = any_last n p q (λ c l. only c) })

  pub walk-next : (n c at : ℕ) → Walking p q n (suc c) → q c ≡ false → at ≡ last c p → Walking p q n at
  unfolding any
  walk-next n c at w f e =
      let s = walk_start c at e in
      record { top = s.top; under = (let a = s.under in let b = w.under in omega arith); left = w.left ∙ rw f s.left }

  pub walk-found : (n c : ℕ) → Walking p q n (suc c) → q c ≡ true → any n q ≡ true
  unfolding any
  walk-found n c w t = w.left ∙ rw t

  pub walk-ended : (n : ℕ) → Walking p q n 0 → any n q ≡ false
  unfolding any
  walk-ended n w = w.left

  pub walk-member : (n c : ℕ) → Walking p q n (suc c) → p c ≡ true
  walk-member n c w = last-member (suc c) p c w.top

-- what the two keys are
pub keyed-net : (b : Board) (n c : ℕ) → keyed b NetOf n c ≡ output_of b n c
unfolding keyed key_at is_key output_of on_net
keyed-net b n c = go (controlled b c || always_on b c) (net_of (b.cell c))
  where
    go : (a : Bool) (m : ℕ) → is_key (cond a (Some m) None) n ≡ (eqb m n && a)
    go true m = sym (and-true (eqb m n))
    go false m = sym (and-false (eqb m n))

pub keyed-control : (b : Board) (k c : ℕ) → keyed b ControlCell k c ≡ (controlled b c && eqb (control_for b c) k)
unfolding keyed key_at is_key
keyed-control b k c = go (controlled b c) (control_for b c)
  where
    go : (a : Bool) (j : ℕ) → is_key (cond a (Some j) None) k ≡ (a && eqb j k)
    go true j = refl
    go false j = refl
