-- Laws of sets: a list of words and its members, word by word; a list that is written word by word; a set that a scan gathers; and two sets
-- below m, told by their numbers below a smaller n.
use Prim.Native.Nat.{ℕ, ◌+◌, ◌*◌, ◌-◌, ◌/◌, ◌%◌, ◌^◌, ◌≤◌, ◌<◌}
use mathlib.Core.Path.{◌≡◌, refl, sym, ◌∙◌, ap, ap₂, fun_ext}
use mathlib.Core.Logic.{⊎_elim}
use mathlib.Core.Bool.{Bool, false, ◌||◌, true, ◌&&◌, and-true, and-false, or-false, not}
use mathlib.Core.List.{List}
use native.Mathlib.Nat.{eq-or-lt_of_le}
use native.Mathlib.Omega.{arith}
use borrow.Author.Tests.{eq-eqb, ne_eqb, eqb-true, eqb-false, lt-ltb, le-ltb}
use lib.Dec.{eqb, ltb}
use lib.Bits.{bit_or, or_comm}
use lib.ListN.{length, get_or, set, replicate, length-set, get_or-eq_default}
use lib.Seq.{get_or-set_same, get_or-set_other}
use Rattle.std.specs.List.{zip}
use Rattle.std.proofs.lemmas.List.{get_or_default}
use Rattle.std.proofs.lemmas.Slice.Zip.{get_or-zip}
use Rattle.base.specs.Counting.{count}
use Rattle.base.specs.Digits.{bit}
use Rattle.base.proofs.BoolLaws.{decided, order, same_test}
use Rattle.base.proofs.CountingLaws.{count_same}
use Rattle.base.proofs.BoundLaws.{count_add, any-bound, all-bound}
use Rattle.base.proofs.WordLaws.{bit-or, bit-zero, bit-pow, bit_shifted}
use Rattle.base.proofs.ListLaws.{zero-at}
use Rattle.words.specs.Sets.{member, nothing, plus, plus_if, up_to, meets_in, inside_in, most_words, Alike}

-- two lists of n words
pub alike : (n : ℕ) → n ≤ most_words → {a b : List ℕ} → length a ≡ n → length b ≡ n → Alike a b
alike n h x y = record { long = x ∙ sym y; words-bounded = omega arith }

-- number 64 * j + k is digit k of word j
pub member-at : (ws : List ℕ) (j k : ℕ) → k < 64 → member ws (64 * j + k) ≡ bit (get_or ws j 0) k
unfolding member
member-at ws j k h =
    let q : (64 * j + k) / 64 ≡ j = omega arith in
    let r : (64 * j + k) % 64 ≡ k = omega arith in
    rw (q, r)

-- and so for two sets
pub members-at :
    (op : Bool → Bool → Bool) (a b : List ℕ) (j k : ℕ) → k < 64 →
    op (member a (64 * j + k)) (member b (64 * j + k)) ≡ op (bit (get_or a j 0) k) (bit (get_or b j 0) k)
members-at op a b j k h = ap₂ op (member-at a j k h) (member-at b j k h)

-- pair j of two lists of words is word j of each
pub pair-at : (a b : List ℕ) → length a ≡ length b → (j : ℕ) (d : ℕ × ℕ) → j < length a → get_or (zip a b) j d ≡ (get_or a j 0, get_or b j 0)
pair-at a b e j d l =
    get_or-zip a b j d l (omega arith) ∙ ap₂ (λ (x y : ℕ). (x, y)) (get_or_default a j d.0 0 l) (get_or_default b j d.1 0 (omega arith))

-- from i on a number of the same word is, as far on, a digit of that word shifted down to i
pub member-from : (ws : List ℕ) (i : ℕ) {m : ℕ} → i ≤ m → m < 64 * (i / 64 + 1) → member ws m ≡ bit (get_or ws (i / 64) 0 / 2 ^ (i % 64)) (m - i)
unfolding member
member-from ws i {m} l h =
    let q : m / 64 ≡ i / 64 = omega arith in
    let r : m % 64 ≡ i % 64 + (m - i) = omega arith in
    rw (q, r, bit_shifted)

-- past the words there is no member
pub member-out : (ws : List ℕ) {i : ℕ} → 64 * length ws ≤ i → member ws i ≡ false
unfolding member
member-out ws {i} h =
    ap (λ (w : ℕ). bit w (i % 64)) (get_or-eq_default ws 0 {n = i / 64} (omega arith)) ∙ bit-zero (i % 64)

pub member-zeros : (n : ℕ) → member (replicate n 0) ≡ nothing
unfolding member
member-zeros n =
    fun_ext (λ i. ap (λ (w : ℕ). bit w (i % 64)) (zero-at n (i / 64)) ∙ bit-zero (i % 64))

-- words that are all zero have no member
pub member-zero : (n w : ℕ) → w ≡ 0 → member (replicate n w) ≡ nothing
member-zero n w e = rw e (member-zeros n)

-- after a store, number 64 * j + k is digit k of the word stored, and the numbers of other words are as before
pub member-set : (ws : List ℕ) (j w k : ℕ) → j < length ws → k < 64 → member (set ws j w) (64 * j + k) ≡ bit w k
member-set ws j w k l h = member-at (set ws j w) j k h ∙ ap (λ (v : ℕ). bit v k) (get_or-set_same ws j w 0 l)

pub member-other : (ws : List ℕ) (j w i : ℕ) → (i / 64 ≡ j → ⊥) → member (set ws j w) i ≡ member ws i
unfolding member
member-other ws j w i h = ap (λ (v : ℕ). bit v (i % 64)) (get_or-set_other ws j (i / 64) w 0 h)

-- with one digit more in word i / 64, i is a member besides
pub member-plus : (ws : List ℕ) (i : ℕ) → i < 64 * length ws → member (set ws (i / 64) (bit_or (get_or ws (i / 64) 0) (2 ^ (i % 64)))) ≡ plus (member ws) i
member-plus ws i h =
    fun_ext (λ m. ⊎_elim (λ e. same m (eqb-true _ _ e)) (λ e. other m (eqb-false _ _ e)) (decided (eqb (m / 64) (i / 64))))
  where
    j : ℕ
    j = i / 64

    w : ℕ
    w = bit_or (get_or ws j 0) (2 ^ (i % 64))

    same : (m : ℕ) → m / 64 ≡ j → member (set ws j w) m ≡ (eqb m i || member ws m)
    same m e =
        let p : m ≡ 64 * j + m % 64 = omega arith in
        let d : eqb (m % 64) (i % 64) ≡ eqb m i =
        same_test _ _
        (λ t. eq-eqb m i (omega (arith, eqb-true (m % 64) (i % 64) t)))
        (λ t. eq-eqb (m % 64) (i % 64) (omega (arith, eqb-true m i t))) in
        ap (member (set ws j w)) p
        ∙ member-set ws j w (m % 64) (omega arith) (omega arith)
        ∙ ap (λ (v : ℕ). bit v (m % 64)) (or_comm (get_or ws j 0) (2 ^ (i % 64)))
        ∙ bit-or (2 ^ (i % 64)) (get_or ws j 0) (m % 64)
        ∙ ap₂ ◌||◌ (bit-pow (i % 64) (m % 64) ∙ d) (sym (ap (member ws) p ∙ member-at ws j (m % 64) (omega arith)))

    other : (m : ℕ) → (m / 64 ≡ j → ⊥) → member (set ws j w) m ≡ (eqb m i || member ws m)
    other m e = member-other ws j w m e ∙ sym (ap (λ (b : Bool). b || member ws m) (ne_eqb m i (λ q. e (ap (λ (x : ℕ). x / 64) q))))

-- what holds of the numbers of the first j words, and of those of word j, holds of the first j + 1 words
pub words_more : (P : ℕ → Type 0) (j : ℕ) → ((i : ℕ) → i < 64 * j → P i) → ((k : ℕ) → k < 64 → P (64 * j + k)) → (i : ℕ) → i < 64 * (j + 1) → P i
words_more P j before here i l =
    ⊎_elim
    (λ (q : i < 64 * j). before i q)
    (λ (q : 64 * j ≤ i). let e : i ≡ 64 * j + (i - 64 * j) = omega arith in rw e (here (i - 64 * j) (omega arith)))
    (order i (64 * j))

-- the numbers of the first j + 1 words that pass, counted
pub words_count : (p : ℕ → Bool) (j : ℕ) → count (64 * (j + 1)) p ≡ count (64 * j) p + count 64 (λ k. p (64 * j + k))
words_count p j =
    let e : 64 * (j + 1) ≡ 64 * j + 64 = omega arith in
    rw e (count_add (64 * j) 64 p)

-- the members below 64 * j + i are those of the first j words and those of the i lowest digits of word j
pub members-count : (ws : List ℕ) (j i : ℕ) → i ≤ 64 → count (64 * j + i) (member ws) ≡ count (64 * j) (member ws) + count i (bit (get_or ws j 0))
members-count ws j i h =
    count_add (64 * j) i (member ws)
    ∙ ap (λ (n : ℕ). count (64 * j) (member ws) + n) (count_same i (λ k. member ws (64 * j + k)) (bit (get_or ws j 0)) (λ k l. member-at ws j k (omega arith)))

-- a list of words that is written word by word: the first j hold f, the others are as before
pub record Written (f : ℕ → Bool) (before : List ℕ) (j : ℕ) (after : List ℕ) : Type 0 where
  pub long : length after ≡ length before
  pub done : (i : ℕ) → i < 64 * j → member after i ≡ f i
  pub rest : (m : ℕ) → j ≤ m → get_or after m 0 ≡ get_or before m 0

module _ (f : ℕ → Bool) (before : List ℕ) where
  pub written_none : Written f before 0 before
  written_none = record { long = refl; done = λ i l. absurd (omega arith); rest = λ m l. refl }

  pub written-more :
      {j : ℕ} {after : List ℕ} → Written f before j after → j < length before →
      (w : ℕ) → ((k : ℕ) → k < 64 → bit w k ≡ f (64 * j + k)) → Written f before (j + 1) (set after j w)
  written-more {j} {after} r l w digits =
      record {
        long = length-set after j w ∙ r.long;
        done = words_more (λ i. member (set after j w) i ≡ f i) j under here;
        rest = λ m q. get_or-set_other after j m w 0 (λ e. omega arith) ∙ r.rest m (omega arith);
      }
    where
      here : (k : ℕ) → k < 64 → member (set after j w) (64 * j + k) ≡ f (64 * j + k)
      here k q = member-set after j w k (omega (arith, r.long)) q ∙ digits k q

      under : (i : ℕ) → i < 64 * j → member (set after j w) i ≡ f i
      under i q = member-other after j w i (λ e. omega arith) ∙ r.done i q

  pub written_all : {after : List ℕ} {j : ℕ} → Written f before j after → length before ≤ j → ((i : ℕ) → 64 * length before ≤ i → f i ≡ false) → member after ≡ f
  written_all {after} {j} r h out =
      fun_ext (λ i. ⊎_elim
      (λ (l : i < 64 * length before). r.done i (omega arith))
      (λ (l : 64 * length before ≤ i). member-out after (omega (arith, r.long)) ∙ sym (out i l))
      (order i (64 * length before)))

-- the words of two sets, combined by an operation on digits and written over the first set's
module _
    (op : Bool → Bool → Bool)
    (made : ℕ → ℕ → ℕ)
    (each : (a b k : ℕ) → bit (made a b) k ≡ op (bit a k) (bit b k))
    (before from : List ℕ) where
  abbrev combined : ℕ → Bool
  combined m = op (member before m) (member from m)

  pub combined-more :
      {j : ℕ} {after : List ℕ} → Written combined before j after → j < length before →
      Written combined before (j + 1) (set after j (made (get_or after j 0) (get_or from j 0)))
  combined-more {j} {after} r l =
      let own = r.rest j (omega arith) in
      written-more combined before r l _
      (λ k h. each (get_or after j 0) (get_or from j 0) k
      ∙ ap (λ (w : ℕ). op (bit w k) (bit (get_or from j 0) k)) own
      ∙ sym (members-at op before from j k h))

  pub combined-all :
      {j : ℕ} {after : List ℕ} → Written combined before j after → length before ≤ j →
      length before ≡ length from → op false false ≡ false → member after ≡ combined
  combined-all r l e none =
      written_all combined before r l (λ i h. ap₂ op (member-out before h) (member-out from (omega arith)) ∙ none)

module _ (p : ℕ → Bool) where
  -- what n brings, by its test
  pub plus-passes : (n : ℕ) (f : ℕ → Bool) → p n ≡ true → plus f n ≡ plus_if p n f
  unfolding plus_if
  plus-passes n f e = fun_ext (λ m. rw e refl)

  pub plus-fails : (n : ℕ) (f : ℕ → Bool) → p n ≡ false → f ≡ plus_if p n f
  unfolding plus_if
  plus-fails n f e = fun_ext (λ m. rw e refl)

  -- nothing at first, then one more at a time
  pub up_none : nothing ≡ up_to 0 p
  unfolding up_to
  up_none = fun_ext (λ m. rw (le-ltb m 0 (omega arith)) refl)

  pub up-grown : (n : ℕ) → plus_if p n (up_to n p) ≡ up_to (n + 1) p
  unfolding plus_if up_to
  up-grown n = fun_ext (λ m. ⊎_elim (below m) (λ l. ⊎_elim (same m) (above m) (eq-or-lt_of_le l)) (order m n))
    where
      below : (m : ℕ) → m < n → (p n && eqb m n || ltb m n && p m) ≡ (ltb m (n + 1) && p m)
      below m l = rw (ne_eqb m n (λ e. omega arith), lt-ltb m n l, lt-ltb m (n + 1) (omega arith), and-false (p n)) refl

      same : (m : ℕ) → n ≡ m → (p n && eqb m n || ltb m n && p m) ≡ (ltb m (n + 1) && p m)
      same m e =
          rw (← e, eq-eqb n n refl, le-ltb n n (omega arith), lt-ltb n (n + 1) (omega arith), and-true (p n), or-false (p n)) refl

      above : (m : ℕ) → n < m → (p n && eqb m n || ltb m n && p m) ≡ (ltb m (n + 1) && p m)
      above m l = rw (ne_eqb m n (λ e. omega arith), le-ltb m n (omega arith), le-ltb m (n + 1) (omega arith), and-false (p n)) refl

-- whether two sets meet below m, or one holds the other, is so below n, where the one has no member from n on
module _ {n m : ℕ} (f g : ℕ → Bool) (h : n ≤ m) (none : (i : ℕ) → n ≤ i → i < m → f i ≡ false) where
  pub meets-bound : meets_in m f g ≡ meets_in n f g
  unfolding meets_in
  meets-bound = any-bound (λ i. f i && g i) h (λ i l k. ap (λ (x : Bool). x && g i) (none i l k))

  pub inside-bound : inside_in m f g ≡ inside_in n f g
  unfolding inside_in
  inside-bound = all-bound (λ i. not (f i) || g i) h (λ i l k. ap (λ (x : Bool). not x || g i) (none i l k))
