-- The steps together: what is left of the codes names for each cell the net whose own word it reads.
use Prim.Native.Nat.{ℕ, suc, ◌+◌, ◌*◌, ◌/◌, ◌%◌, ◌≤◌, ◌<◌}
use mathlib.Core.Path.{◌≡◌, refl, sym, ◌∙◌, ap}
use mathlib.Core.Bool.{Bool, true, false, cond, not, ◌&&◌}
use mathlib.Core.Logic.{⊎_elim}
use mathlib.Core.List.{List}
use native.Mathlib.Nat.{le_trans}
use native.Mathlib.Omega.{arith}
use borrow.Author.Tests.{eqb-true, eq-eqb, le-ltb}
use lib.Dec.{ltb, eqb}
use lib.ListN.{length, get_or, replicate}
use Rattle.std.proofs.lemmas.List.{get_or-replicate}
use Rattle.base.specs.Digits.{bit, ceil, word}
use Rattle.base.proofs.DigitLaws.{bit_word}
use Rattle.base.proofs.BoolLaws.{same_test, order}
use Rattle.rules.specs.Rows.{row_bytes, row_bit}
use Rattle.rules.specs.File.{byte_at}
use Rattle.rules.specs.Refusals.{most_bytes}
use Rattle.rules.specs.Vectors.{steps_of}
use Rattle.words.specs.Sets.{net_words}
use Rattle.plan.specs.declared.numbers.Plan.{Plan}
use Rattle.plan.specs.Plans.{bases_for}
use Rattle.readings.specs.Readings.{read_below, code_from, lost, Mapped, Entries, Captured, Left, Read}
use Rattle.readings.proofs.Decoding.{own-bounded, reads-code}
use Rattle.readings.proofs.Repeating.{left-reads, reads-left}

-- at first all cells are left
full-bit : (k : ℕ) → k < 8 → bit 255 k ≡ true
unfolding word
full-bit k l = bit_word 8 (λ i. true) k l

pub all_left : (n c : ℕ) → c < 8 * n → row_bit (replicate n 255) 0 c ≡ true
unfolding row_bit byte_at
all_left n c l =
    ap (λ (x : ℕ). bit x (c % 8)) (get_or-replicate n (0 + c / 8) 255 0 (omega arith)) ∙ full-bit (c % 8) (omega arith)

-- the entries beside those of cells are still 0, so there is one for each bit of a row
pub own_entries :
    (p : Plan) (capture before coded own : List ℕ) (cells bytes : ℕ) →
    Captured p capture cells bytes →
    Entries 0 (8 * row_bytes cells) before →
    Mapped (code_from p bytes capture p.wide) before cells coded →
    Mapped (λ c code. cond (ltb p.nets code) 0 code) coded cells own →
    Entries (64 * net_words) (8 * bytes) own
unfolding row_bytes ceil
own_entries p capture before coded own cells bytes k z m o =
    record { long = (let a = z.long in omega (arith, k.bytes-are, m.long, o.long)); entries-bounded = entries-within }
  where
    entries-within : (c : ℕ) → c < 8 * bytes → get_or own c 0 ≤ 64 * net_words
    entries-within c l =
        ⊎_elim
        (λ (q : c < cells). rw (o.done c q) (le_trans (own-bounded p.nets (get_or coded c 0)) p.small.nets))
        (λ (q : cells ≤ c). let a = z.entries-bounded c (omega (arith, k.bytes-are)) in omega (arith, o.rest c q, m.rest c q))
        (order c cells)

module _ (p : Plan) (capture : List ℕ) (cells bytes : ℕ) (k : Captured p capture cells bytes) (own : List ℕ) (c code : ℕ) where
  -- the code of a cell that is left is the net's whose own word it reads
  names :
      (n : ℕ) →
      n < p.nets →
      code ≡ code_from p bytes capture p.wide c 0 →
      get_or own c 0 ≡ cond (ltb p.nets code) 0 code →
      eqb (cond (not (lost p bytes capture own c)) (get_or own c 0) 0) (suc n) ≡ read_below p bytes capture (length (steps_of (bases_for p))) n c
  names n l e o = same_test _ _ (λ h. there (lost p bytes capture own c) refl (eqb-true _ _ h)) here
    where
      own_code : (x : ℕ) → cond (ltb p.nets x) 0 x ≡ suc n → x ≡ suc n
      own_code x h = go (ltb p.nets x) h
        where
          go : (b : Bool) → cond b 0 x ≡ suc n → x ≡ suc n
          go true q = absurd (omega arith)
          go false q = q

      there : (b : Bool) → lost p bytes capture own c ≡ b → cond (not (lost p bytes capture own c)) (get_or own c 0) 0 ≡ suc n → read_below p bytes capture (length (steps_of (bases_for p))) n c ≡ true
      there true h q = absurd (let z = rw h at q in omega arith)
      there false h q =
          let entry : get_or own c 0 ≡ suc n = rw h at q in
          left-reads p capture cells bytes k own n c l (sym e ∙ own_code code (sym o ∙ entry)) entry h

      here : read_below p bytes capture (length (steps_of (bases_for p))) n c ≡ true → eqb (cond (not (lost p bytes capture own c)) (get_or own c 0) 0) (suc n) ≡ true
      here r =
          let s : code ≡ suc n = e ∙ reads-code p capture cells bytes k n c l k.coded r in
          let entry : get_or own c 0 ≡ suc n = o ∙ rw (s, le-ltb p.nets (suc n) l) in
          rw (reads-left p capture cells bytes k own n c l entry r, entry) (eq-eqb (suc n) (suc n) refl)

-- the table that is left of the codes
pub all_read :
    (p : Plan) (capture before coded own left after : List ℕ) (cells bytes : ℕ) →
    Captured p capture cells bytes →
    Entries 0 (8 * row_bytes cells) before →
    Mapped (code_from p bytes capture p.wide) before cells coded →
    Mapped (λ c code. cond (ltb p.nets code) 0 code) coded cells own →
    Left (lost p bytes capture own) (replicate most_bytes 255) (8 * bytes) left →
    Mapped (λ c entry. cond (row_bit left 0 c) entry 0) own cells after →
    Read p capture before cells after
unfolding row_bytes ceil
all_read p capture before coded own left after cells bytes k z m o f r =
    record { long = r.long ∙ o.long ∙ m.long; entries-bounded = entries-within; reads = reads; rest = λ c l. r.rest c l ∙ o.rest c l ∙ m.rest c l }
  where
    blank : (c : ℕ) → c < cells → get_or before c 0 ≡ 0
    blank c l = let q = z.entries-bounded c (omega arith) in omega arith

    code_at : (c : ℕ) → c < cells → get_or coded c 0 ≡ code_from p bytes capture p.wide c 0
    code_at c l = m.done c l ∙ ap (code_from p bytes capture p.wide c) (blank c l)

    left_at : (c : ℕ) → c < cells → row_bit left 0 c ≡ not (lost p bytes capture own c)
    left_at c l =
        let bounded = k.cells-bounded in
        f.done c (omega (arith, k.bytes-are)) ∙ ap (λ (a : Bool). a && not (lost p bytes capture own c)) (all_left most_bytes c (omega arith))

    entry : (c : ℕ) → c < cells → get_or after c 0 ≡ cond (not (lost p bytes capture own c)) (get_or own c 0) 0
    entry c l = r.done c l ∙ ap (λ (a : Bool). cond a (get_or own c 0) 0) (left_at c l)

    entries-within : (c : ℕ) → c < cells → get_or after c 0 ≤ p.nets
    entries-within c l = rw (entry c l) (go (not (lost p bytes capture own c)))
      where
        go : (a : Bool) → cond a (get_or own c 0) 0 ≤ p.nets
        go true = rw (o.done c l) (own-bounded p.nets (get_or coded c 0))
        go false = omega arith

    reads : (c n : ℕ) → c < cells → n < p.nets → eqb (get_or after c 0) (suc n) ≡ read_below p (ceil cells 8) capture (length (steps_of (bases_for p))) n c
    reads c n l q =
        ap (λ (x : ℕ). eqb x (suc n)) (entry c l)
        ∙ names p capture cells bytes k own c (get_or coded c 0) n q (code_at c l) (o.done c l)
        ∙ ap (λ (x : ℕ). read_below p x capture (length (steps_of (bases_for p))) n c) k.bytes-are
