-- Theorem 2: on a file that checks 1 to 9 accept, refusal 10 or 11 is given exactly where the requirement of source 000, section 2, is
-- broken. The idea: each of the two checks is the requirement's sentence as a test, on a board whose affected nets have controlled drivers
-- alone.
use Prim.Native.Nat.{ℕ, ◌<◌, ◌≤◌}
use mathlib.Core.Path.{◌≡◌, refl, sym, ◌∙◌, ap}
use mathlib.Core.Logic.{◌⊎◌, inl, inr, ⊎_elim, ◌↔◌}
use mathlib.Core.Bool.{true, false, ◌&&◌}
use mathlib.Core.List.{List}
use native.Mathlib.Nat.{eq-or-lt_of_le}
use native.Mathlib.Omega.{arith}
use borrow.Author.Tests.{eqb-true, eq-eqb}
use lib.Dec.{eqb}
use Rattle.std.specs.Prelude.{Ok, Err}
use Rattle.base.proofs.BoolLaws.{Decided, decided, order, left, right, both, not-fails, fails-not, clashes, fails-if, passes-if}
use Rattle.base.proofs.TestLaws.{any-member, any_none}
use Rattle.rules.specs.File.{Board, board_of}
use Rattle.rules.specs.Drivers.{is_control, drives, drivers, outputs, meets, inside, crosses}
use Rattle.rules.specs.Refusals.{Accepted, Verdict, judge, number_of, unequal, control_checks, early_checks, board_checks}
use Rattle.rules.specs.declared.Refusal.{Refusal}
use Rattle.rules.proofs.Verdicts.{AllPass, First, here, later, all_pass, accepted, given-first, judge-append}
use Rattle.rules.proofs.Acceptance.{Early, early}
use Rattle.rules.proofs.NetSetLaws.{Affects, Disjoint, Included, meets-net, apart, included, not-included, outputs-drivers}
use Rattle.rules.proofs.CrossingLaws.{parts, crossing-of, crossed-at, crossed-none}

pub record ControlCell (b : Board) (k : ℕ) : Type 0 where
  pub on-board : k < b.size
  pub controlling : is_control b k ≡ true

-- source 000, section 2. "The sets of nets affected by control cells i and j must be disjoint or one of them must be included in the
-- other"; "Every net of a set affected by a control cell must have the same degree", where "the degree of a net is the number of output
-- cells connected to it"
pub record Requirement (b : Board) : Type 0 where
  pub nested : (i j : ℕ) → ControlCell b i → ControlCell b j → Disjoint b i j ⊎ (Included b i j ⊎ Included b j i)
  pub equal : (k n m : ℕ) → ControlCell b k → n < b.nets → m < b.nets → Affects b k n → Affects b k m → outputs b n ≡ outputs b m

-- two control cells lie as the source asks
abbrev ApartOrNested : Board → ℕ → ℕ → Type 0
ApartOrNested b i j = Disjoint b i j ⊎ (Included b i j ⊎ Included b j i)

-- so do two that do not cross
apart-or-nested : (b : Board) (i j : ℕ) → ControlCell b i → ControlCell b j → crosses b i j ≡ false → ApartOrNested b i j
apart-or-nested b i j x y h = go (decided (meets b i j)) (decided (inside b i j)) (decided (inside b j i))
  where
    go : Decided (meets b i j) → Decided (inside b i j) → Decided (inside b j i) → ApartOrNested b i j
    go (inr m) p q = inl (apart b i j m)
    go (inl m) (inl p) q = inr (inl (included b i j p))
    go (inl m) (inr p) (inl q) = inr (inr (included b j i q))
    go (inl m) (inr p) (inr q) =
        absurd (clashes (crossing-of b i j (record { first = x.controlling; second = y.controlling; meet = m; out = p; back = q })) h)

-- the two checks pass: the requirement holds
holds : (b : Board) → Early b → AllPass (control_checks b) → Requirement b
unfolding control_checks unequal
holds b e h = record { nested = nested; equal = equal }
  where
    below : (i j : ℕ) → i < j → i < b.size → j < b.size → crosses b i j ≡ false
    below i j l x y = fails-if _ (λ t. clashes (crossed-at b i j l y t) (h.0 i x))

    nested : (i j : ℕ) → ControlCell b i → ControlCell b j → ApartOrNested b i j
    nested i j x y =
        ⊎_elim
        (λ (l : i < j). apart-or-nested b i j x y (below i j l x.on-board y.on-board))
        (λ (l : j ≤ i).
        ⊎_elim
        (λ (q : j ≡ i). inr (inl (λ n m a. rw q a)))
        (λ (q : j < i). turned (apart-or-nested b j i y x (below j i q y.on-board x.on-board)))
        (eq-or-lt_of_le l))
        (order i j)
      where
        turned : ApartOrNested b j i → ApartOrNested b i j
        turned (inl d) = inl (λ n m p q. d n m q p)
        turned (inr (inl p)) = inr (inr p)
        turned (inr (inr p)) = inr (inl p)

    equal : (k n m : ℕ) → ControlCell b k → n < b.nets → m < b.nets → Affects b k n → Affects b k m → outputs b n ≡ outputs b m
    equal k n m x l l' p q =
        let all = fails-if _ (λ t. clashes (both x.controlling t) (h.1.0 k x.on-board)) in
        let same = passes-if (eqb (drivers b n) (drivers b m)) (λ z. clashes (both (both p q) (not-fails z)) (any_none _ _ (any_none _ _ all l) l')) in
        outputs-drivers b e k n l p ∙ eqb-true _ _ same ∙ sym (outputs-drivers b e k m l' q)

-- the requirement holds: the two checks pass
passes : (b : Board) → Early b → Requirement b → AllPass (control_checks b)
unfolding control_checks unequal
passes b e r = (λ i l. crossed-none b i (λ j u m. uncrossed i j l m), (λ k l. fails-if _ (unequalled k l), tt))
  where
    uncrossed : (i j : ℕ) → i < b.size → j < b.size → crosses b i j ≡ true → ⊥
    uncrossed i j l m t =
        let c = parts b i j t in
        let meet = meets-net b i j c.meet in
        let x : ControlCell b i = record { on-board = l; controlling = c.first } in
        let y : ControlCell b j = record { on-board = m; controlling = c.second } in
        ⊎_elim
        (λ d. d meet.0 meet.1 meet.2 meet.3)
        (λ p. ⊎_elim (not-included b i j c.out) (not-included b j i c.back) p)
        (r.nested i j x y)

    unequalled : (k : ℕ) → k < b.size → unequal b k ≡ true → ⊥
    unequalled k l t =
        let n = any-member _ _ (right (is_control b k) t) in
        let m = any-member _ _ n.2 in
        let x : ControlCell b k = record { on-board = l; controlling = left (is_control b k) _ t } in
        let p = left (drives b k n.0 && drives b k m.0) _ m.2 in
        let pn = left (drives b k n.0) _ p in
        let pm = right (drives b k n.0) p in
        let same = sym (outputs-drivers b e k n.0 n.1 pn) ∙ r.equal k n.0 m.0 x n.1 m.1 pn pm ∙ outputs-drivers b e k m.0 m.1 pm in
        clashes (eq-eqb _ _ same) (fails-not _ (right (drives b k n.0 && drives b k m.0) m.2))

-- the two checks are the rest of the board's
rest : (file : List ℕ) → judge (early_checks file) ≡ Accepted → judge (board_checks file) ≡ judge (control_checks (board_of file))
unfolding board_checks
rest file e = judge-append (early_checks file) (control_checks (board_of file)) e

-- Theorem 2: on a file that checks 1 to 9 accept, the board is accepted exactly where it meets the requirement ..
pub accepted-exactly : (file : List ℕ) → judge (early_checks file) ≡ Accepted → (judge (board_checks file) ≡ Accepted) ↔ Requirement (board_of file)
accepted-exactly file e =
    (λ a. holds (board_of file) (early file e) (all_pass _ (sym (rest file e) ∙ a)), λ r. rest file e ∙ accepted _ (passes (board_of file) (early file e) r))

-- .. and refused, by 10 or 11 and by no other number, exactly where it breaks it
pub refused-exactly :
    (file : List ℕ) → judge (early_checks file) ≡ Accepted →
    ((number_of (judge (board_checks file)) ≡ 10) ⊎ (number_of (judge (board_checks file)) ≡ 11)) ↔ (Requirement (board_of file) → ⊥)
unfolding number_of control_checks
refused-exactly file e = (kept, λ broken. go broken (judge (board_checks file)) refl)
  where
    kept : (number_of (judge (board_checks file)) ≡ 10) ⊎ (number_of (judge (board_checks file)) ≡ 11) → Requirement (board_of file) → ⊥
    kept (inl t) r = omega (arith, ap number_of ((accepted-exactly file e).1 r))
    kept (inr t) r = omega (arith, ap number_of ((accepted-exactly file e).1 r))

    which : (r : Refusal) → First r (control_checks (board_of file)) → (r.number ≡ 10) ⊎ (r.number ≡ 11)
    which r (here place a x) = inl (ap (λ (s : Refusal). s.number) (sym x))
    which r (later p (here place a x)) = inr (ap (λ (s : Refusal). s.number) (sym x))
    which r (later p (later _ x)) = elim x [ ]

    go : (Requirement (board_of file) → ⊥) → (v : Verdict) → judge (board_checks file) ≡ v → (number_of v ≡ 10) ⊎ (number_of v ≡ 11)
    go broken (Ok _) q = absurd (broken ((accepted-exactly file e).0 q))
    go broken (Err r) q = which r (given-first (control_checks (board_of file)) r (sym (rest file e) ∙ q))
