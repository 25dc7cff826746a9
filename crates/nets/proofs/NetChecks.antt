-- Refusals 7 to 9 over the table: a head that is none is an undriven net, a count is the number of drivers.
use Prim.Native.Nat.{ℕ, zero, suc, ◌<◌, ◌≤◌}
use mathlib.Core.Path.{◌≡◌, refl, sym, ◌∙◌, ap, ap₂}
use mathlib.Core.Bool.{Bool, cond, not, ◌||◌, true, false, false≢true}
use mathlib.Core.List.{List, [], ◌∷◌, ◌++◌}
use native.Mathlib.Omega.{arith}
use borrow.Author.Tests.{ne_eqb}
use lib.Dec.{eqb, ltb}
use Rattle.std.specs.Prelude.{Option, Some, None, is_some}
use Rattle.base.specs.Tests.{any}
use Rattle.base.proofs.BoolLaws.{same_test}
use Rattle.base.proofs.TestLaws.{any_at, any-member}
use Rattle.rules.specs.File.{board_of, cells_of, nets_of}
use Rattle.rules.specs.Drivers.{drivers}
use Rattle.rules.specs.Refusals.{Check, judge, each, undriven, clashing, crowded, most_drivers, most_nets, net_checks, Verdict}
use Rattle.rules.specs.declared.Position.{Position}
use Rattle.rules.proofs.Verdicts.{and_then, Then, judge-then, judge-same}
use Rattle.chains.specs.Table.{NetOf, entry_of}
use Rattle.chains.specs.Chains.{keyed, last}
use Rattle.chains.specs.Filling.{Filled}
use Rattle.chains.proofs.Chaining.{keyed-net}
use Rattle.nets.specs.Nets.{undriven_in, crowded_in}
use Rattle.nets.proofs.Fits.{nets_fit}

-- an entry is 0 exactly where it names none
pub none-zero : (at : Option Position) (entry : ℕ) (none : Bool) → entry_of at ≡ entry → is_some at ≡ not none → none ≡ eqb entry 0
none-zero None entry true e h = rw (← e)
none-zero None entry false e h = absurd (false≢true h)
none-zero (Some c) entry true e h = absurd (false≢true (sym h))
none-zero (Some c) entry false e h = rw (← e) (sym (ne_eqb (suc c.0) 0 (λ z. omega arith)))

-- the last is none where none passes
last_none : (n : ℕ) (p : ℕ → Bool) → eqb (last n p) 0 ≡ not (any n p)
unfolding last any
last_none zero p = refl
last_none (suc n) p = go (p n) (last_none n p)
  where
    go : (a : Bool) → eqb (last n p) 0 ≡ not (any n p) → eqb (cond a (suc n) (last n p)) 0 ≡ not (a || any n p)
    go true h = ne_eqb (suc n) 0 (λ e. omega arith)
    go false h = h

any_same : (n : ℕ) (p q : ℕ → Bool) → ((i : ℕ) → p i ≡ q i) → any n p ≡ any n q
any_same n p q h =
    same_test _ _
    (λ t. let m = any-member n p t in any_at n q m.1 (sym (h m.0) ∙ m.2))
    (λ t. let m = any-member n q t in any_at n p m.1 (h m.0 ∙ m.2))

module _ (file t : List ℕ) (nets : ℕ) (filled : Filled file t) (e : nets ≡ nets_of file) where
  pub nets-fit : nets ≤ most_nets
  nets-fit = let f = nets_fit file filled.by-net.checked in omega arith

  undriven-is : (n : ℕ) → n < nets → undriven (board_of file) n ≡ undriven_in t n
  unfolding undriven undriven_in board_of
  undriven-is n l =
      let f = nets-fit in
      ap not (sym (any_same (cells_of file) _ _ (keyed-net (board_of file) n)))
      ∙ sym (last_none (cells_of file) (keyed (board_of file) NetOf n))
      ∙ ap (λ (x : ℕ). eqb x 0) (sym (filled.by-net.linked.head n (omega arith)))

  crowded-is : (n : ℕ) → n < nets → crowded (board_of file) n ≡ crowded_in t n
  unfolding crowded crowded_in drivers board_of
  crowded-is n l = let f = nets-fit in ap (λ (x : ℕ). ltb most_drivers x) (sym (filled.counted.counted n (omega arith)))

  -- the three in a row: 7, and then 8, and then 9
  abbrev pub later : Verdict
  later = and_then (judge (each 8 (nets_of file) (clashing (board_of file)) ∷ [])) (judge (each 9 nets (crowded_in t) ∷ []))

  first-is : judge (each 7 (nets_of file) (undriven (board_of file)) ∷ []) ≡ judge (each 7 nets (undriven_in t) ∷ [])
  first-is =
      ap (λ (m : ℕ). judge (each 7 m (undriven (board_of file)) ∷ [])) (sym e)
      ∙ judge-same 7 nets (undriven (board_of file)) (undriven_in t) undriven-is

  last-is : judge (each 9 (nets_of file) (crowded (board_of file)) ∷ []) ≡ judge (each 9 nets (crowded_in t) ∷ [])
  last-is =
      ap (λ (m : ℕ). judge (each 9 m (crowded (board_of file)) ∷ [])) (sym e)
      ∙ judge-same 9 nets (crowded (board_of file)) (crowded_in t) crowded-is

  pub nets-judged : Then (judge (each 7 nets (undriven_in t) ∷ [])) later (judge (net_checks (board_of file)))
  unfolding net_checks board_of
  nets-judged =
      let clash : List Check = each 8 (nets_of file) (clashing (board_of file)) ∷ [] in
      let crowd : List Check = each 9 (nets_of file) (crowded (board_of file)) ∷ [] in
      record {
        row = judge-then (each 7 (nets_of file) (undriven (board_of file)) ∷ []) (clash ++ crowd)
            ∙ ap₂ and_then first-is (judge-then clash crowd ∙ ap (and_then (judge clash)) last-is);
      }

  pub later-judged : Then (judge (each 8 (nets_of file) (clashing (board_of file)) ∷ [])) (judge (each 9 nets (crowded_in t) ∷ [])) later
  later-judged = record { row = refl }
