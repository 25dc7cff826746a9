-- A walk along a chain that gathers: what the set holds so far, with what is left below, is what all of the chain gives.
use Prim.Native.Nat.{ℕ, suc, ◌<◌, ◌≤◌}
use mathlib.Core.Path.{◌≡◌, sym, ◌∙◌, ap}
use mathlib.Core.Bool.{Bool, true, ◌||◌, or-false, or_comm, or_assoc}
use mathlib.Core.List.{List}
use native.Mathlib.Omega.{arith}
use Rattle.std.specs.Prelude.{Option, None, Some}
use Rattle.base.specs.Tests.{any}
use Rattle.rules.specs.File.{board_of, cells_of}
use Rattle.rules.specs.declared.Position.{Position}
use Rattle.chains.specs.Table.{By, room, entry_of, head_in, link_in}
use Rattle.chains.specs.Chains.{keyed, last, Chains}
use Rattle.chains.proofs.Chaining.{last-le, last-member, last-again, any_last}

-- p is the chain, q m c says that the cell at c brings m, `first` the set at the start
pub record Gathered (p : ℕ → Bool) (q : ℕ → ℕ → Bool) (first so_far : ℕ → Bool) (n at : ℕ) : Type 0 where
  pub top : last at p ≡ at
  pub under : at ≤ n
  pub sum : (m : ℕ) → (so_far m || any at (q m)) ≡ (first m || any n (q m))

module _ (file : List ℕ) (by : By) (t : List ℕ) (chains : Chains file by t) (k : ℕ) (q : ℕ → ℕ → Bool) (only : (m c : ℕ) → q m c ≡ true → keyed (board_of file) by k c ≡ true) where
  abbrev pub Gathering : (ℕ → Bool) → (ℕ → Bool) → ℕ → Type 0
  Gathering first so_far at = Gathered (keyed (board_of file) by k) q first so_far (cells_of file) at

  pub gather-start : k < room by → (first : ℕ → Bool) (at : ℕ) → at ≡ head_in by t k → Gathering first first at
  gather-start l first at e =
      rw (e, chains.linked.head k l)
      (record {
        top = last-again (cells_of file) (keyed (board_of file) by k);
        under = last-le (cells_of file) (keyed (board_of file) by k);
        sum = λ m. ap (λ (x : Bool). first m || x) (sym (any_last (cells_of file) (keyed (board_of file) by k) (q m) (λ c l. only m c)));
      })

  -- the step's cell, which `at` names, is on the chain
  pub gather-on :
      {first so_far : ℕ → Bool} (at : Option Position) (cell : Position) → Gathering first so_far (entry_of at) → at ≡ Some cell →
      keyed (board_of file) by k cell.0 ≡ true
  gather-on at cell g named = last-member _ (keyed (board_of file) by k) cell.0 (g.top ∙ ap entry_of named)

  pub gather-next :
      {first so_far : ℕ → Bool} (more : ℕ → Bool) (at : Option Position) (cell : Position) (next : Option Position) →
      Gathering first so_far (entry_of at) → at ≡ Some cell → ((m : ℕ) → more m ≡ (q m cell.0 || so_far m)) →
      entry_of next ≡ link_in by t cell.0 → Gathering first more (entry_of next)
  unfolding any
  gather-next {first} {so_far} more at cell next g named grown e =
      let b = board_of file in
      let c = cell.0 in
      let now : Gathering first so_far (suc c) = rw named at g in
      let below : c < cells_of file = (let u = now.under in omega arith) in
      rw (e ∙ chains.linked.link c k below (gather-on at cell g named))
      (record {
        top = last-again c (keyed b by k);
        under = (let u = last-le c (keyed b by k) in omega arith);
        sum = λ m. rw (grown m, ← any_last c (keyed b by k) (q m) (λ d l. only m d), or_comm (q m c) (so_far m), or_assoc) (now.sum m);
      })

  pub gather-ended :
      {first so_far : ℕ → Bool} (at : Option Position) → Gathering first so_far (entry_of at) → at ≡ None →
      (m : ℕ) → so_far m ≡ (first m || any (cells_of file) (q m))
  unfolding any
  gather-ended {first} {so_far} at g ended m =
      let now : Gathering first so_far 0 = rw ended at g in
      sym (or-false (so_far m)) ∙ now.sum m
