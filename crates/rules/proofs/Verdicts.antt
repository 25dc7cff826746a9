-- Theorem 1, "lowest is lowest": what a list of checks answers, for every check at once. The idea: one check is one search for its
-- lowest place, and the list goes on exactly where that search finds none.
use Prim.Native.Nat.{ℕ, ◌<◌, ◌≤◌}
use mathlib.Core.Path.{◌≡◌, refl, sym, ◌∙◌, ap}
use mathlib.Core.Logic.{◌⊎◌, inl, inr, ⊎_elim}
use mathlib.Core.Bool.{Bool, true, false, cond}
use mathlib.Core.List.{List, [], ◌∷◌, ◌++◌}
use native.Mathlib.Omega.{arith}
use borrow.Author.Tests.{lt-ltb, le-ltb}
use lib.Dec.{eqb}
use Rattle.std.specs.Prelude.{Result, Ok, Err, IsErrAnd}
use Rattle.base.specs.Tests.{least}
use Rattle.base.proofs.BoolLaws.{order}
use Rattle.base.proofs.TestLaws.{Lowest, least-lowest, least_at, least-none}
use Rattle.rules.specs.File.{Board, board_of}
use Rattle.rules.specs.Refusals.{Accepted, Refused, Verdict, Check, judge, paired, numbered, each, crosser, shape_checks, file_checks, net_checks, control_checks, early_checks, board_checks}
use Rattle.rules.specs.Refusals.{count_checks, groups_checks, vector_checks, marks_checks}
use Rattle.rules.specs.declared.Refusal.{Refusal}

-- a check passes: it applies at none of its places
abbrev pub Passes : Check → Type 0
Passes check = (i : ℕ) → i < check.places → check.fails i ≡ false

-- a check applies, and this is the lowest of its places at which it does
pub record Applies (check : Check) (place : ℕ) : Type 0 where
  pub within : place < check.places
  pub applies : check.fails place ≡ true
  pub lowest : (i : ℕ) → i < place → check.fails i ≡ false

-- each check of a list passes
abbrev pub AllPass : List Check → Type 0
AllPass [] = Unit
AllPass (check ∷ checks) = Passes check × AllPass checks

-- the first check of the list that applies says this refusal, of the lowest place at which it applies
pub data First (r : Refusal) : List Check → Type 0 where
  here : {check : Check} {checks : List Check} (place : ℕ) → Applies check place → check.says place ≡ r → First r (check ∷ checks)
  later : {check : Check} {checks : List Check} → Passes check → First r checks → First r (check ∷ checks)

-- a verdict is one or the other
pub never : (r : Refusal) → Refused r ≡ Accepted → ⊥
never r e = let z : ◌≡◌ {A = ℕ} 0 1 = cc in omega arith

-- what a `?` gives on where it stops: the refusal that it met
pub given_on : {T : Type 0} (v : Result T Refusal) {r : Refusal} → IsErrAnd v (λ s. s ≡ r) → v ≡ Err r
given_on (Ok x) e = absurd e
given_on (Err s) e = rw e

-- the refusal of a verdict, or another where it has none
refusal_of : Refusal → Verdict → Refusal
refusal_of other (Ok _) = other
refusal_of other (Err r) = r

-- one check: it passes, and the list goes on
pub judge-passes : (check : Check) (checks : List Check) → Passes check → judge (check ∷ checks) ≡ judge checks
unfolding judge
judge-passes check checks h =
    rw (least-none check.places check.fails h, le-ltb check.places check.places (omega arith))

-- or it applies, and its lowest place is given
pub judge-applies : (check : Check) (checks : List Check) {place : ℕ} → Applies check place → judge (check ∷ checks) ≡ Refused (check.says place)
unfolding judge
judge-applies check checks {place} h =
    rw (least_at check.places check.fails h.within h.applies h.lowest, lt-ltb place check.places h.within)

-- which of the two, by the search
cases : (check : Check) → Passes check ⊎ ((place : ℕ) × Applies check place)
cases check = go (least check.places check.fails) (least-lowest check.places check.fails)
  where
    go : (k : ℕ) → Lowest check.fails 0 check.places k → Passes check ⊎ ((place : ℕ) × Applies check place)
    go k s =
        ⊎_elim
        (λ (h : k < check.places). inr (k, record { within = h; applies = s.passes h; lowest = λ i l. s.lower i (omega arith) l }))
        (λ (h : check.places ≤ k). inl (λ i l. s.lower i (omega arith) (omega arith)))
        (order k check.places)

-- accepted exactly where every check passes
pub all_pass : (checks : List Check) → judge checks ≡ Accepted → AllPass checks
all_pass [] e = tt
all_pass (check ∷ checks) e =
    ⊎_elim
    (λ (h : Passes check). (h, all_pass checks (sym (judge-passes check checks h) ∙ e)))
    (λ f. absurd (never _ (sym (judge-applies check checks f.1) ∙ e)))
    (cases check)

pub accepted : (checks : List Check) → AllPass checks → judge checks ≡ Accepted
unfolding judge
accepted [] h = refl
accepted (check ∷ checks) h = judge-passes check checks h.0 ∙ accepted checks h.1

-- refused exactly where the first check that applies says that refusal, of the lowest place at which it applies
pub first-given : (checks : List Check) {r : Refusal} → First r checks → judge checks ≡ Refused r
first-given [] {r = r} x = elim x [ ]
first-given (check ∷ checks) (here place h e) = judge-applies check checks h ∙ ap Refused e
first-given (check ∷ checks) (later h first) = judge-passes check checks h ∙ first-given checks first

pub given-first : (checks : List Check) (r : Refusal) → judge checks ≡ Refused r → First r checks
unfolding judge refusal_of
given-first [] r e = absurd (never r (sym e))
given-first (check ∷ checks) r e =
    ⊎_elim
    (λ (h : Passes check). later h (given-first checks r (sym (judge-passes check checks h) ∙ e)))
    (λ f. here f.0 f.1 (ap (refusal_of (check.says f.0)) (sym (judge-applies check checks f.1) ∙ e)))
    (cases check)

-- what one list answers, and where it accepts what the next does
abbrev pub and_then : Verdict → Verdict → Verdict
and_then (Ok _) next = next
and_then (Err r) next = Refused r

pub judge-then : (xs ys : List Check) → judge (xs ++ ys) ≡ and_then (judge xs) (judge ys)
unfolding judge
judge-then [] ys = refl
judge-then (check ∷ checks) ys =
    ⊎_elim
    (λ (h : Passes check). judge-passes check (checks ++ ys) h ∙ judge-then checks ys ∙ ap (λ (v : Verdict). and_then v (judge ys)) (sym (judge-passes check checks h)))
    (λ f. judge-applies check (checks ++ ys) f.1 ∙ ap (λ (v : Verdict). and_then v (judge ys)) (sym (judge-applies check checks f.1)))
    (cases check)

pub judge-append : (xs ys : List Check) → judge xs ≡ Accepted → judge (xs ++ ys) ≡ judge ys
judge-append xs ys e = judge-then xs ys ∙ ap (λ (v : Verdict). and_then v (judge ys)) e

pub judge-refused : (xs ys : List Check) {r : Refusal} → judge xs ≡ Refused r → judge (xs ++ ys) ≡ Refused r
judge-refused xs ys e = judge-then xs ys ∙ ap (λ (v : Verdict). and_then v (judge ys)) e

pub append-pass : (xs ys : List Check) → AllPass (xs ++ ys) → AllPass xs × AllPass ys
append-pass [] ys h = (tt, h)
append-pass (check ∷ checks) ys h = let r = append-pass checks ys h.1 in ((h.0, r.0), r.1)

-- a number's second place: "the smallest larger position that crosses it" for 10, "all other refusals return 0 there"
abbrev pub second_for : Board → ℕ → ℕ → ℕ
second_for b number place = cond (eqb number 10) (crosser b place) 0

-- "Checked in ascending order": each check of a list says its own number, the place at which it applies, and that number's second place
abbrev pub Numbered : Board → List Check → List ℕ → Type 0
Numbered b [] [] = Unit
Numbered b [] (number ∷ numbers) = ⊥
Numbered b (check ∷ checks) [] = ⊥
Numbered b (check ∷ checks) (number ∷ numbers) =
    ((place : ℕ) → check.says place ≡ paired number place (second_for b number place)) × Numbered b checks numbers

-- the numbers of all four questions' checks, before their own
abbrev pub count_numbers : List ℕ
count_numbers = 1 ∷ 2 ∷ 3 ∷ 4 ∷ 5 ∷ 6 ∷ 7 ∷ 8 ∷ 9 ∷ 10 ∷ 11 ∷ 12 ∷ []

pub count-numbers : (file : List ℕ) → Numbered (board_of file) (count_checks file) count_numbers
unfolding count_checks board_checks early_checks shape_checks file_checks net_checks control_checks
count-numbers file = (one, (one, (one, (one, (one, (one, (one, (one, (one, (λ place. refl, (one, (one, tt))))))))))))
  where
    one : {number : ℕ} (place : ℕ) → numbered number place ≡ numbered number place
    one place = refl

pub numbered-append : (b : Board) (xs ys : List Check) (ns ms : List ℕ) → Numbered b xs ns → Numbered b ys ms → Numbered b (xs ++ ys) (ns ++ ms)
numbered-append b [] ys [] ms h g = g
numbered-append b [] ys (n ∷ ns) ms h g = absurd h
numbered-append b (x ∷ xs) ys [] ms h g = absurd h
numbered-append b (x ∷ xs) ys (n ∷ ns) ms h g = (h.0, numbered-append b xs ys ns ms h.1 g)

pub groups-numbers : (file buffer : List ℕ) → Numbered (board_of file) (groups_checks file buffer) (count_numbers ++ (15 ∷ []))
unfolding groups_checks
groups-numbers file buffer = numbered-append _ (count_checks file) _ count_numbers (15 ∷ []) (count-numbers file) (λ place. refl, tt)

pub vector-numbers : (file : List ℕ) (number : ℕ) (buffer : List ℕ) → Numbered (board_of file) (vector_checks file number buffer) (count_numbers ++ (13 ∷ 15 ∷ []))
unfolding vector_checks
vector-numbers file number buffer =
    numbered-append _ (count_checks file) _ count_numbers (13 ∷ 15 ∷ []) (count-numbers file) (λ place. refl, (λ place. refl, tt))

pub marks-numbers : (file capture buffer : List ℕ) → Numbered (board_of file) (marks_checks file capture buffer) (count_numbers ++ (14 ∷ 15 ∷ []))
unfolding marks_checks
marks-numbers file capture buffer =
    numbered-append _ (count_checks file) _ count_numbers (14 ∷ 15 ∷ []) (count-numbers file) (λ place. refl, (λ place. refl, tt))

-- checks that agree at each of their places judge alike
pub judge-same : (number places : ℕ) (f g : ℕ → Bool) → ((i : ℕ) → i < places → f i ≡ g i) → judge (each number places f ∷ []) ≡ judge (each number places g ∷ [])
judge-same number places f g h =
    ⊎_elim
    (λ (p : Passes (each number places g)). judge-passes (each number places f) [] (λ i l. h i l ∙ p i l) ∙ sym (judge-passes (each number places g) [] p))
    (λ a. judge-applies (each number places f) [] (applies a.0 a.1) ∙ sym (judge-applies (each number places g) [] a.1))
    (cases (each number places g))
  where
    applies : (place : ℕ) → Applies (each number places g) place → Applies (each number places f) place
    applies place a =
        let w = a.within in
        record {
          within = w;
          applies = h place w ∙ a.applies;
          lowest = λ i l. h i (omega arith) ∙ a.lowest i l;
        }

-- a row of verdicts: the whole is the first, and where that accepts the rest. A program stops at a refusal, and goes on from an acceptance
pub record Then (first rest whole : Verdict) : Type 0 where
  pub row : whole ≡ and_then first rest

pub stopped : {a r w : Verdict} → Then a r w → {v : Verdict} {x : Refusal} → v ≡ a → v ≡ Refused x → v ≡ w
stopped t e f = rw (t.row, ← e, f)

pub passed : {a r w : Verdict} → Then a r w → {u v : Verdict} → u ≡ a → u ≡ Accepted → v ≡ r → v ≡ w
passed t e f g = rw (t.row, ← e, f, g)

pub then_append : (xs ys : List Check) → Then (judge xs) (judge ys) (judge (xs ++ ys))
then_append xs ys = record { row = judge-then xs ys }
