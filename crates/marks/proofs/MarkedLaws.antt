-- Laws of marks that are written and counted one by one: the marks of n nets and one more are those of n + 1.
use Prim.Native.Nat.{ℕ, ◌+◌, ◌<◌, ◌≤◌}
use mathlib.Core.Path.{◌≡◌, refl, sym, ◌∙◌, ap}
use mathlib.Core.Bool.{Bool, not}
use mathlib.Core.List.{List, [], ◌∷◌, ◌++◌}
use native.Mathlib.Numerals.{add-one}
use native.Mathlib.Omega.{arith}
use borrow.Author.Tests.{ltb-true, lt-ltb, eqb-false, ne_eqb}
use lib.Dec.{ltb}
use lib.ListN.{length, set, take, drop, length-append, length-drop}
use Rattle.std.proofs.lemmas.List.{append-nil, drop_all, length-take-le}
use lib.Seq.{append_snoc, set_split}
use Rattle.base.specs.Tests.{digit}
use Rattle.base.specs.Lists.{table}
use Rattle.base.proofs.BoolLaws.{left, right, both, not-fails, fails-not, same_test}
use Rattle.base.proofs.DigitLaws.{digit-bounded}
use Rattle.base.proofs.ListLaws.{length-table, table_same}
use Rattle.rules.specs.File.{Board}
use Rattle.rules.specs.Marks.{unseen, byte_of, bytes_that, is_pass, is_fail, is_unsure}
use Rattle.rules.specs.Refusals.{most_nets}
use Rattle.rules.specs.Answers.{over}
use Rattle.rows.specs.Room.{placed}
use Rattle.rows.proofs.PlacedLaws.{length_over, over-more}
use Rattle.marks.specs.Judging.{seen_by, mark_by, marks_by, Tested, mark_in, marks_in, counts_of, one_more, CountsBounded, Marked, Counted}
use Rattle.marks.specs.declared.Tests.{Tests}
use Rattle.marks.specs.declared.Counts.{Counts}

-- a byte over 1 is neither pass nor fail
unsure-is : (byte : ℕ) → ltb 1 byte ≡ is_unsure byte
unsure-is byte =
    same_test _ _
    (λ t. let l = ltb-true 1 byte t in both (not-fails (ne_eqb byte 0 (λ e. omega arith))) (not-fails (ne_eqb byte 1 (λ e. omega arith))))
    (λ t.
    let p = eqb-false byte 0 (fails-not _ (left (not (is_pass byte)) _ t)) in
    let f = eqb-false byte 1 (fails-not _ (right (not (is_pass byte)) t)) in
    lt-ltb 1 byte (omega arith))

-- one mark byte more, by the digits of its three tests
pub one_more-counted :
    (counts : Counts) (byte p f u : ℕ) →
    p ≡ digit (is_pass byte) →
    f ≡ digit (is_fail byte) →
    u ≡ digit (ltb 1 byte) →
    record { pass = counts.pass + p; fail = counts.fail + f; unsure = counts.unsure + u } ≡ one_more counts byte
unfolding one_more
one_more-counted counts byte p f u passes fails neither = rw (passes, fails, neither, unsure-is)

-- bytes that pass a test: one more, and no more than there are
bytes-more : (test : ℕ → Bool) (bytes : List ℕ) (byte : ℕ) → bytes_that test (bytes ++ (byte ∷ [])) ≡ bytes_that test bytes + digit (test byte)
unfolding bytes_that
bytes-more test [] byte = omega arith
bytes-more test (x ∷ bytes) byte = let r = bytes-more test bytes byte in omega arith

-- no count is above the number of bytes
pub bytes-that-bounded : (test : ℕ → Bool) (bytes : List ℕ) → bytes_that test bytes ≤ length bytes
unfolding bytes_that
bytes-that-bounded test [] = omega arith
bytes-that-bounded test (x ∷ bytes) = let r = bytes-that-bounded test bytes in let d = digit-bounded (test x) _ refl in omega arith

pub counts-more : (bytes : List ℕ) (byte : ℕ) → counts_of (bytes ++ (byte ∷ [])) ≡ one_more (counts_of bytes) byte
unfolding counts_of one_more
counts-more bytes byte = rw (bytes-more is_pass bytes byte, bytes-more is_fail bytes byte, bytes-more is_unsure bytes byte)

-- a byte stored after others stands after them
over-one :
    (bytes buffer : List ℕ) (n byte : ℕ) →
    length bytes ≡ n →
    n < length buffer →
    set (over bytes buffer) n byte ≡ over (bytes ++ (byte ∷ [])) buffer
unfolding placed
over-one bytes buffer n byte e l =
    let long : length bytes < length (over bytes buffer) = simp (length-append, length-drop) (omega arith) in
    rw (← e)
    (set_split (over bytes buffer) (length bytes) byte long
    ∙ rw (← add-one (length bytes)) (sym (append_snoc (take (length bytes) (over bytes buffer)) byte _) ∙ over-more bytes (byte ∷ []) buffer (omega arith)))

-- the marks of no net, and of one net more
module _ (tests : Tests) where
  marks-long : (n : ℕ) → length (marks_in tests n) ≡ n
  unfolding marks_in
  marks-long n = length-table n _

  marks-next : (n : ℕ) → marks_in tests (n + 1) ≡ marks_in tests n ++ (byte_of (mark_in tests n) ∷ [])
  unfolding marks_in table
  marks-next n = rw (add-one n)

  module _ (before : List ℕ) where
    pub marked-none : (counts : Counts) → counts.pass ≡ 0 → counts.fail ≡ 0 → counts.unsure ≡ 0 → Marked tests 0 before before counts
    unfolding marks_in table counts_of bytes_that
    marked-none counts p f u = record { buffer = refl; counted = λ i. record { pass = p i; fail = f i; unsure = u i } }

    pub marked_more :
        {n : ℕ} {after : List ℕ} {counts : Counts} →
        Marked tests n before after counts →
        n < length before →
        (byte : ℕ) (more : Counts) →
        byte ≡ byte_of (mark_in tests n) →
        more ≡ one_more counts byte →
        Marked tests (n + 1) before (set after n byte) more
    marked_more {n} {after} {counts} m l byte more e c =
        record { buffer = stored; counted = c ∙ rw (marks-next n, counts-more (marks_in tests n), m.counted, e) }
      where
        stored : set after n byte ≡ over (marks_in tests (n + 1)) before
        stored =
            ap (λ (bytes : List ℕ). set bytes n byte) m.buffer
            ∙ over-one (marks_in tests n) before n byte (marks-long n) l
            ∙ ap (λ (bytes : List ℕ). over bytes before) (ap (λ (x : ℕ). marks_in tests n ++ (x ∷ [])) e ∙ sym (marks-next n))

    -- with all n nets the bytes lent are written, and the rest of the buffer stands behind them
    pub marked-all : {n : ℕ} {bytes : List ℕ} {counts : Counts} → Marked tests n (take n before) bytes counts → n ≤ length before → Marked tests n before (bytes ++ drop n before) counts
    marked-all {n} {bytes} m l =
        let long = marks-long n in
        let none : drop n (take n before) ≡ [] = drop_all n (take n before) (omega (arith, length-take-le n before l)) in
        let all : bytes ≡ marks_in tests n = m.buffer ∙ rw (long, none, append-nil) in
        record { buffer = rw (all, long); counted = m.counted }

    -- the buffer is as long as it was, and the numbers are small
    pub marked-long : {n : ℕ} {after : List ℕ} {counts : Counts} → Marked tests n before after counts → n ≤ length before → length after ≡ length before
    marked-long {n} m l = let long = marks-long n in ap length m.buffer ∙ length_over (marks_in tests n) before (omega arith)

    pub marked-bounded : {n : ℕ} {after : List ℕ} {counts : Counts} → Marked tests n before after counts → n ≤ most_nets → CountsBounded counts
    unfolding counts_of
    marked-bounded {n} m l =
        let long = marks-long n in
        rw m.counted
        (record {
          pass = omega (arith, bytes-that-bounded is_pass (marks_in tests n));
          fail = omega (arith, bytes-that-bounded is_fail (marks_in tests n));
          unsure = omega (arith, bytes-that-bounded is_unsure (marks_in tests n));
        })

-- sets that are the tests' nets give the tests' marks
pub mark-in : (b : Board) (readings : List ℕ) (tests : Tests) → Tested b readings tests → (n : ℕ) → mark_in tests n ≡ mark_by b readings n
unfolding mark_in mark_by unseen seen_by
mark-in b readings tests t n = rw (t.seen, t.failed, t.twice)

pub marks-in : (b : Board) (readings : List ℕ) (tests : Tests) → Tested b readings tests → (n : ℕ) → n ≡ b.nets → marks_in tests n ≡ marks_by b readings
unfolding marks_in marks_by
marks-in b readings tests t n e = rw e (table_same b.nets _ _ (λ m l. ap byte_of (mark-in b readings tests t m)))

pub counted-in : (b : Board) (readings bytes : List ℕ) (counts : Counts) → counts ≡ counts_of bytes → bytes ≡ marks_by b readings → Counted b readings counts
unfolding counts_of
counted-in b readings bytes counts c e =
    rw (c, e) (record { pass = refl; fail = refl; unsure = refl })
