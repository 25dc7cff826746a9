-- Theorem 12, both cells of a crossing, of the 64 bits that come back: where they begin with 10, bits 8 to 23 and 24 to 39 are the pair
-- that request [1] asks for; every other refusal has 0 there; and a board that has such a pair and passes checks 1 to 9 gives it. The idea:
-- what each check says, once the checks before it have passed, is what the first that applies says.
use Prim.Native.Nat.{ℕ, ◌+◌, ◌*◌, ◌/◌, ◌%◌, ◌^◌, ◌<◌, ◌≤◌}
use mathlib.Core.Path.{◌≡◌, refl, sym, ◌∙◌, ap}
use mathlib.Core.Logic.{⊎_elim}
use mathlib.Core.Bool.{Bool, true, false, not, ◌&&◌}
use mathlib.Core.List.{List, [], ◌∷◌, ◌++◌}
use native.Mathlib.Omega.{arith}
use borrow.Author.Tests.{ltb-true, eqb-false}
use lib.Dec.{eqb, ltb}
use Rattle.std.specs.Prelude.{Ok, Err}
use Rattle.base.proofs.BoolLaws.{left, right, fails-if, fails-not, clashes, order}
use Rattle.base.proofs.TestLaws.{any-member, Lowest, least-lowest, least_at}
use Rattle.rules.specs.File.{Board, board_of, cells_of, nets_of, blocks_in}
use Rattle.rules.specs.Drivers.{crosses}
use Rattle.rules.specs.Refusals.{Accepted, Refused, Verdict, Check, judge, paired, numbered, number_of, place_of, second_of, each, once, crossing, crossed_by, crossed, crosser}
use Rattle.rules.specs.Refusals.{shape_checks, file_checks, net_checks, control_checks, early_checks, board_checks}
use Rattle.rules.specs.Refusals.{count_checks, groups_checks, vector_checks, marks_checks}
use Rattle.rules.specs.Answers.{Field, pack, packed, groups_answer, groups_outcome, count_answer, count_outcome, vector_answer, vector_outcome, marks_answer, marks_outcome}
use Rattle.rules.specs.declared.Refusal.{Refusal}
use Rattle.rules.proofs.Verdicts.{Passes, Applies, AllPass, accepted, append-pass, First, here, later, given-first, judge-applies, judge-append, judge-refused}
use Rattle.rules.proofs.Shape.{whole-blocks, laid, shaped}
use Rattle.rules.proofs.CrossingLaws.{crossed-by, by-crossing, crossed-at, crossed-none}

-- the pair that is named: i is the "lowest position that is the smaller of such a pair", j "the smallest larger position that crosses it"
pub record FirstPair (b : Board) (i j : ℕ) : Type 0 where
  pub larger : i < j
  pub on-board : j < b.size
  pub cross : crosses b i j ≡ true
  pub lowest : (k m : ℕ) → k < m → m < b.size → crosses b k m ≡ true → i ≤ k
  pub smallest : (m : ℕ) → i < m → m < b.size → crosses b i m ≡ true → j ≤ m

-- a board has at most one
pub one-pair : (b : Board) (i j k m : ℕ) → FirstPair b i j → FirstPair b k m → (i ≡ k) × (j ≡ m)
one-pair b i j k m p q =
    let x = p.lowest k m q.larger q.on-board q.cross in
    let y = q.lowest i j p.larger p.on-board p.cross in
    let same : i ≡ k = omega arith in
    let p' : FirstPair b k j = rw (← same) p in
    let z = p'.smallest m q.larger q.on-board q.cross in
    let w = q.smallest j p'.larger p'.on-board p'.cross in
    (same, omega arith)

-- what check 10 says of i
module _ (b : Board) (i : ℕ) where
  -- it is the lowest of the larger positions that cross it
  crosser-lowest : Lowest (crossed_by b i) 0 b.size (crosser b i)
  unfolding crosser
  crosser-lowest = least-lowest b.size (crossed_by b i)

  crosser-below : crossed b i ≡ true → crosser b i < b.size
  unfolding crossed
  crosser-below t =
      let member = any-member _ _ t in
      let l = member.1 in
      ⊎_elim
      (λ (h : crosser b i < b.size). h)
      (λ (h : b.size ≤ crosser b i). absurd (clashes member.2 (crosser-lowest.lower member.0 (omega arith) (omega arith))))
      (order (crosser b i) b.size)

-- the check applies at i: the pair is i and what it says as the second place
pub pair-applies : (b : Board) (i : ℕ) → Applies (crossing b) i → FirstPair b i (crosser b i)
pair-applies b i a =
    let low = crosser-lowest b i in
    let on = crosser-below b i a.applies in
    record {
      larger = (crossed-by b i _ (low.passes on)).0;
      on-board = on;
      cross = (crossed-by b i _ (low.passes on)).1;
      lowest = lowest;
      smallest = smallest;
    }
  where
    lowest : (k m : ℕ) → k < m → m < b.size → crosses b k m ≡ true → i ≤ k
    lowest k m l n x =
        ⊎_elim (λ (q : k < i). absurd (clashes (crossed-at b k m l n x) (a.lowest k q))) (λ (q : i ≤ k). q) (order k i)

    smallest : (m : ℕ) → i < m → m < b.size → crosses b i m ≡ true → crosser b i ≤ m
    smallest m l n x =
        ⊎_elim
        (λ (q : m < crosser b i). absurd (clashes (by-crossing b i m l x) ((crosser-lowest b i).lower m (omega arith) q)))
        (λ (q : crosser b i ≤ m). q)
        (order m (crosser b i))

-- and where a board has the pair, the check applies at i and says j
pub applies-pair : (b : Board) (i j : ℕ) → FirstPair b i j → Applies (crossing b) i × (crosser b i ≡ j)
unfolding crosser
applies-pair b i j p =
    (record { within = omega arith; applies = crossed-at b i j l m p.cross; lowest = none-lower }, least_at _ _ m (by-crossing b i j l p.cross) none_between)
  where
    l : i < j
    l = p.larger

    m : j < b.size
    m = p.on-board

    none-lower : (k : ℕ) → k < i → crossed b k ≡ false
    none-lower k q = crossed-none b k (λ x u n t. let up = p.lowest k x u n t in omega arith)

    none_between : (x : ℕ) → x < j → crossed_by b i x ≡ false
    none_between x q = fails-if _ (λ t. let up = p.smallest x (crossed-by b i x t).0 (omega arith) (crossed-by b i x t).1 in omega arith)

-- what a refusal says: its numbers fit their bits, 10 names the pair, and every other number no second place
pub record Says (b : Board) (r : Refusal) : Type 0 where
  pub number_fits : r.number < 2 ^ 8
  pub place-fits : r.place < 2 ^ 16
  pub second_fits : r.second < 2 ^ 16
  pub ten : r.number ≡ 10 → FirstPair b r.place r.second
  pub other : (r.number ≡ 10 → ⊥) → r.second ≡ 0

-- each check of a list says such a refusal where it applies and those before it passed
abbrev AllSay : Board → List Check → Type 0
AllSay b [] = Unit
AllSay b (check ∷ checks) = ((place : ℕ) → Applies check place → Says b (check.says place)) × (Passes check → AllSay b checks)

first_says : (b : Board) (checks : List Check) → AllSay b checks → (r : Refusal) → First r checks → Says b r
first_says b [] all r x = elim x [ ]
first_says b (check ∷ checks) all r (here place a e) = rw e at (all.0 place a)
first_says b (check ∷ checks) all r (later p first) = first_says b checks (all.1 p) r first

say-append : (b : Board) (xs ys : List Check) → AllSay b xs → (AllPass xs → AllSay b ys) → AllSay b (xs ++ ys)
say-append b [] ys all more = more tt
say-append b (check ∷ checks) ys all more = (all.0, λ p. say-append b checks ys (all.1 p) (λ ps. more (p, ps)))

-- a check whose number fits its bits and is not 10, over places that fit theirs
ordinary : ℕ → Bool
ordinary number = ltb number (2 ^ 8) && not (eqb number 10)

plain : {b : Board} {number places : ℕ} {fails : ℕ → Bool} → ordinary number ≡ true → places ≤ 2 ^ 16
    → (place : ℕ) → Applies (each number places fails) place → Says b (numbered number place)
unfolding ordinary
plain {b} {number} {places} t fits place a =
    let l = a.within in
    record {
      number_fits = ltb-true number (2 ^ 8) (left (ltb number (2 ^ 8)) _ t);
      place-fits = omega arith;
      second_fits = omega arith;
      ten = λ e. absurd (eqb-false number 10 (fails-not _ (right (ltb number (2 ^ 8)) t)) e);
      other = λ e. refl;
    }

last : {b : Board} {number : ℕ} {fails : Bool} → ordinary number ≡ true → AllSay b (once number fails ∷ [])
last t = (plain t (omega arith), λ p. tt)

-- the checks of a board, once its sizes fit
module _ (b : Board) where
  net-says : b.nets ≤ 2 ^ 16 → AllSay b (net_checks b)
  unfolding net_checks ordinary
  net-says fits = (plain refl fits, λ p. (plain refl fits, λ p. (plain refl fits, λ p. tt)))

  pair-says : b.size ≤ 2 ^ 16 → (place : ℕ) → Applies (crossing b) place → Says b (paired 10 place (crosser b place))
  pair-says fits place a =
      let p = pair-applies b place a in
      let l = p.larger in
      let m = p.on-board in
      record { number_fits = omega arith; place-fits = omega arith; second_fits = omega arith; ten = λ e. p; other = λ e. absurd (e refl) }

  control-says : b.size ≤ 2 ^ 16 → AllSay b (control_checks b)
  unfolding control_checks ordinary
  control-says fits = (pair-says fits, λ p. (plain refl fits, λ p. tt))

-- the checks of a file, each list once those before it have passed
module _ (file : List ℕ) where
  abbrev board : Board
  board = board_of file

  shape-says : AllSay board (shape_checks file)
  unfolding shape_checks ordinary
  shape-says = (
    plain refl one,
    λ whole.
        let l = (whole-blocks file (whole 0 (omega arith))).2 in
        let fits : blocks_in file ≤ 2 ^ 16 = omega arith in
        (plain refl fits, λ p. (plain refl one, λ p. (plain refl one, λ p. (plain refl fits, λ p. tt)))),
  )
    where
      one : 1 ≤ 2 ^ 16
      one = omega arith

  sized : AllPass (file_checks file) → (cells_of file ≤ 2 ^ 16) × (nets_of file ≤ 2 ^ 16)
  sized h =
      let s = laid file (shaped file (accepted _ h)) in
      let c = s.cells.at_most in
      let n = s.nets.at_most in
      (omega arith, omega arith)

  file-says : AllSay board (file_checks file)
  unfolding file_checks ordinary
  file-says =
      say-append _ (shape_checks file) _ shape-says (λ h. let c = (laid file (accepted _ h)).cells.at_most in (plain refl (omega arith), λ p. tt))

  early-says : AllSay board (early_checks file)
  unfolding early_checks board_of
  early-says = say-append _ (file_checks file) _ file-says (λ h. net-says board (sized h).1)

  board-says : AllSay board (board_checks file)
  unfolding board_checks early_checks board_of
  board-says =
      say-append _ (early_checks file) _ early-says (λ h. control-says board (sized (append-pass (file_checks file) _ h).0).0)

  count-says : AllSay board (count_checks file)
  unfolding count_checks ordinary
  count-says = say-append _ (board_checks file) _ board-says (λ h. last refl)

  groups-says : (buffer : List ℕ) → AllSay board (groups_checks file buffer)
  unfolding groups_checks ordinary
  groups-says buffer = say-append _ (count_checks file) _ count-says (λ h. last refl)

  vector-says : (number : ℕ) (buffer : List ℕ) → AllSay board (vector_checks file number buffer)
  unfolding vector_checks ordinary
  vector-says number buffer = say-append _ (count_checks file) _ count-says (λ h. (plain refl (omega arith), λ p. last refl))

  marks-says : (capture buffer : List ℕ) → AllSay board (marks_checks file capture buffer)
  unfolding marks_checks ordinary
  marks-says capture buffer = say-append _ (count_checks file) _ count-says (λ h. (plain refl (omega arith), λ p. last refl))

  -- and so what each question's refusal says
  pub count-refusal : (r : Refusal) → judge (count_checks file) ≡ Refused r → Says board r
  count-refusal r e = first_says _ _ count-says r (given-first _ r e)

  pub groups-refusal : (buffer : List ℕ) (r : Refusal) → judge (groups_checks file buffer) ≡ Refused r → Says board r
  groups-refusal buffer r e = first_says _ _ (groups-says buffer) r (given-first _ r e)

  pub vector-refusal : (number : ℕ) (buffer : List ℕ) (r : Refusal) → judge (vector_checks file number buffer) ≡ Refused r → Says board r
  vector-refusal number buffer r e = first_says _ _ (vector-says number buffer) r (given-first _ r e)

  pub marks-refusal : (capture buffer : List ℕ) (r : Refusal) → judge (marks_checks file capture buffer) ≡ Refused r → Says board r
  marks-refusal capture buffer r e = first_says _ _ (marks-says capture buffer) r (given-first _ r e)

-- the 64 bits of an answer: "Bits 0-7: the refusal's number", "8-23 place; 24-39 the second place"
abbrev pub number_in : ℕ → ℕ
number_in bits = bits % 2 ^ 8

abbrev pub place_in : ℕ → ℕ
place_in bits = bits / 2 ^ 8 % 2 ^ 16

abbrev pub above_in : ℕ → ℕ
above_in bits = bits / 2 ^ 24

-- what they say of a crossing: 10 comes with the pair, and any other refusal with 0 above its place
pub record Named (b : Board) (bits : ℕ) : Type 0 where
  pub ten : number_in bits ≡ 10 → FirstPair b (place_in bits) (above_in bits)
  pub other : 0 < number_in bits → (number_in bits ≡ 10 → ⊥) → above_in bits ≡ 0

named : (b : Board) (v : Verdict) (fields : List Field) → ((r : Refusal) → v ≡ Refused r → Says b r) → Named b (packed v fields)
unfolding packed pack number_of place_of second_of
named b (Ok _) fields says = record { ten = λ t. absurd (omega arith); other = λ l t. absurd (omega arith) }
named b (Err r) fields says = record { ten = pair; other = none }
  where
    s : Says b r
    s = says r refl

    bits : ℕ
    bits = packed (Refused r) fields

    number_is : number_in bits ≡ r.number
    number_is = let n = s.number_fits in omega arith

    place_is : place_in bits ≡ r.place
    place_is = let n = s.number_fits in let p = s.place-fits in omega arith

    second_is : above_in bits ≡ r.second
    second_is = let n = s.number_fits in let p = s.place-fits in omega arith

    pair : number_in bits ≡ 10 → FirstPair b (place_in bits) (above_in bits)
    pair t = rw (place_is, second_is) (s.ten (sym number_is ∙ t))

    none : 0 < number_in bits → (number_in bits ≡ 10 → ⊥) → above_in bits ≡ 0
    none l t = second_is ∙ s.other (λ e. t (number_is ∙ e))

-- Theorem 12: each question's bits name both cells of a crossing, and of nothing else ..
pub groups-named : (file buffer : List ℕ) → Named (board_of file) (groups_outcome (groups_answer file buffer)).bits
unfolding groups_outcome groups_answer
groups-named file buffer = named _ _ _ (λ r e. first_says _ _ (groups-says file buffer) r (given-first _ r e))

pub count-named : (file : List ℕ) → Named (board_of file) (count_outcome (count_answer file)).bits
unfolding count_outcome count_answer
count-named file = named _ _ _ (λ r e. first_says _ _ (count-says file) r (given-first _ r e))

pub vector-named : (file : List ℕ) (number : ℕ) (buffer : List ℕ) → Named (board_of file) (vector_outcome (vector_answer file number buffer)).bits
unfolding vector_outcome vector_answer
vector-named file number buffer = named _ _ _ (λ r e. first_says _ _ (vector-says file number buffer) r (given-first _ r e))

pub marks-named : (file capture buffer : List ℕ) → Named (board_of file) (marks_outcome (marks_answer file capture buffer)).bits
unfolding marks_outcome marks_answer
marks-named file capture buffer = named _ _ _ (λ r e. first_says _ _ (marks-says file capture buffer) r (given-first _ r e))

-- .. and a board that has such a pair gives it, once checks 1 to 9 accept its file: "so the board check and all four questions report it"
abbrev pub pair_bits : ℕ → ℕ → ℕ
pair_bits i j = 10 + 2 ^ 8 * (i + 2 ^ 16 * j)

module _ (file : List ℕ) (e : judge (early_checks file) ≡ Accepted) (i j : ℕ) (p : FirstPair (board_of file) i j) where
  pub board-pair : judge (board_checks file) ≡ Refused (paired 10 i j)
  unfolding board_checks control_checks
  board-pair =
      let a = applies-pair (board_of file) i j p in
      judge-append (early_checks file) _ e ∙ judge-applies (crossing (board_of file)) _ a.0 ∙ ap (λ (x : ℕ). Refused (paired 10 i x)) a.1

  count-refused : judge (count_checks file) ≡ Refused (paired 10 i j)
  unfolding count_checks
  count-refused = judge-refused (board_checks file) _ board-pair

  bits : (v : Verdict) (fields : List Field) → v ≡ Refused (paired 10 i j) → packed v fields ≡ pair_bits i j
  unfolding packed pack number_of place_of second_of
  bits v fields h = rw h (omega arith)

  pub groups-pair : (buffer : List ℕ) → (groups_outcome (groups_answer file buffer)).bits ≡ pair_bits i j
  unfolding groups_outcome groups_answer groups_checks
  groups-pair buffer = bits _ _ (judge-refused (count_checks file) _ count-refused)

  pub count-pair : (count_outcome (count_answer file)).bits ≡ pair_bits i j
  unfolding count_outcome count_answer
  count-pair = bits _ _ count-refused

  pub vector-pair : (number : ℕ) (buffer : List ℕ) → (vector_outcome (vector_answer file number buffer)).bits ≡ pair_bits i j
  unfolding vector_outcome vector_answer vector_checks
  vector-pair number buffer = bits _ _ (judge-refused (count_checks file) _ count-refused)

  pub marks-pair : (capture buffer : List ℕ) → (marks_outcome (marks_answer file capture buffer)).bits ≡ pair_bits i j
  unfolding marks_outcome marks_answer marks_checks
  marks-pair capture buffer = bits _ _ (judge-refused (count_checks file) _ count-refused)
