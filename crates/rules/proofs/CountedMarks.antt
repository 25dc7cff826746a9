-- Theorem 14, the counts are the numbers of bytes: where marks is accepted, each of the N bytes in the buffer afterwards is 0, 1, 2 or 3, pass
-- is how many are 0, fail how many are 1, unsure how many are 2 or 3, and together they are N. It is stated of the buffer that the caller
-- sees. The idea: the counts are of the table of marks, the buffer begins with it, and a mark has one of the four bytes.
use Prim.Native.Nat.{ℕ, zero, suc, ◌+◌, ◌<◌}
use mathlib.Core.Path.{◌≡◌, refl, sym, ◌∙◌, ap, ap₂}
use mathlib.Core.Bool.{Bool}
use mathlib.Core.List.{List, [], ◌∷◌, ◌++◌}
use native.Mathlib.Omega.{arith}
use lib.Dec.{eqb}
use lib.ListN.{drop, length, get_or-append}
use Rattle.rules.specs.Refusals.{Accepted}
use Rattle.base.specs.Tests.{digit}
use Rattle.base.specs.Counting.{count}
use Rattle.base.specs.Lists.{table}
use Rattle.base.proofs.CountingLaws.{count_same}
use Rattle.base.proofs.ListLaws.{length-table, table_at}
use Rattle.rules.specs.File.{Board, board_of, byte_at}
use Rattle.rules.specs.Marks.{mark_of, byte_of, is_pass, is_fail, is_unsure, marks_of, bytes_that}
use Rattle.rules.specs.Answers.{over, MarksAnswer, marks_answer}
use Rattle.rules.specs.declared.Mark.{Mark}
use Rattle.rules.specs.declared.Mark.TheVariants.{Pass, Fail, NotSeen, ReadTwice}

-- how many of the first `nets` bytes are this one
abbrev pub bytes_of : ℕ → List ℕ → ℕ → ℕ
bytes_of nets buffer byte = count nets (λ n. eqb (byte_at buffer n) byte)

-- the numbers that are returned are those of the bytes that are written
pub record MarksCounted (nets : ℕ) (said : MarksAnswer) : Type 0 where
  pub bytes : (n : ℕ) → n < nets → byte_at said.buffer n < 4
  pub passes : said.pass ≡ bytes_of nets said.buffer 0
  pub fails : said.fail ≡ bytes_of nets said.buffer 1
  pub unsures : said.unsure ≡ bytes_of nets said.buffer 2 + bytes_of nets said.buffer 3
  pub together : said.pass + said.fail + said.unsure ≡ nets

-- the bytes of a table that pass a test are as many as its places at which it passes
bytes-more : (test : ℕ → Bool) (bytes : List ℕ) (byte : ℕ) → bytes_that test (bytes ++ (byte ∷ [])) ≡ bytes_that test bytes + digit (test byte)
unfolding bytes_that
bytes-more test [] byte = omega arith
bytes-more test (x ∷ bytes) byte = let r = bytes-more test bytes byte in omega arith

bytes-table : (test : ℕ → Bool) (n : ℕ) (f : ℕ → ℕ) → bytes_that test (table n f) ≡ count n (λ i. test (f i))
unfolding table count bytes_that
bytes-table test zero f = refl
bytes-table test (suc n) f = bytes-more test (table n f) (f n) ∙ ap (λ (x : ℕ). x + digit (test (f n))) (bytes-table test n f)

-- a test that passes where one of two does, and never both, counts what they count together
count-two :
    (n : ℕ) (p q r : ℕ → Bool) → ((i : ℕ) → digit (p i) ≡ digit (q i) + digit (r i)) → count n p ≡ count n q + count n r
unfolding count
count-two zero p q r h = refl
count-two (suc n) p q r h = let e = count-two n p q r h in let d = h n in omega arith

-- three tests of which exactly one passes at each number count all
count-three :
    (n : ℕ) (p q r : ℕ → Bool) → ((i : ℕ) → digit (p i) + digit (q i) + digit (r i) ≡ 1) → count n p + count n q + count n r ≡ n
unfolding count
count-three zero p q r h = refl
count-three (suc n) p q r h = let e = count-three n p q r h in let d = h n in omega arith

-- the four bytes
byte-bounded : (mark : Mark) → byte_of mark < 4
unfolding byte_of
byte-bounded Pass = omega arith
byte-bounded Fail = omega arith
byte-bounded NotSeen = omega arith
byte-bounded ReadTwice = omega arith

-- "unsure": 2 or 3
byte-unsure : (mark : Mark) → digit (is_unsure (byte_of mark)) ≡ digit (eqb (byte_of mark) 2) + digit (eqb (byte_of mark) 3)
unfolding byte_of
byte-unsure Pass = refl
byte-unsure Fail = refl
byte-unsure NotSeen = refl
byte-unsure ReadTwice = refl

-- each counts for exactly one of the three
byte-once : (mark : Mark) → digit (is_pass (byte_of mark)) + digit (is_fail (byte_of mark)) + digit (is_unsure (byte_of mark)) ≡ 1
unfolding byte_of
byte-once Pass = refl
byte-once Fail = refl
byte-once NotSeen = refl
byte-once ReadTwice = refl

-- a board's marks
module _ (b : Board) (capture : List ℕ) where
  abbrev byte : ℕ → ℕ
  byte n = byte_of (mark_of b capture n)

  -- counted, they are counted net by net
  counted-as : (test : ℕ → Bool) → bytes_that test (marks_of b capture) ≡ count b.nets (λ n. test (byte n))
  unfolding marks_of
  counted-as test = bytes-table test b.nets byte

  -- written over a buffer, they are its first N bytes
  module _ (buffer : List ℕ) where
    written_at : (n : ℕ) → n < b.nets → byte_at (over (marks_of b capture) buffer) n ≡ byte n
    unfolding byte_at marks_of
    written_at n l =
        get_or-append (marks_of b capture) (drop (length (marks_of b capture)) buffer) 0 n (omega (arith, length-table b.nets byte))
        ∙ table_at b.nets byte 0 l

    count_of : (x : ℕ) → count b.nets (λ n. eqb (byte n) x) ≡ bytes_of b.nets (over (marks_of b capture) buffer) x
    count_of x = count_same b.nets _ _ (λ n l. ap (λ (y : ℕ). eqb y x) (sym (written_at n l)))

-- Theorem 14, of every accepted answer
pub marks-counted :
    (file capture buffer : List ℕ) → (marks_answer file capture buffer).verdict ≡ Accepted →
    MarksCounted (board_of file).nets (marks_answer file capture buffer)
unfolding marks_answer
marks-counted file capture buffer ok =
    let b = board_of file in
    let pass = counted-as b capture is_pass in
    let fail = counted-as b capture is_fail in
    let unsure = counted-as b capture is_unsure in
    let of = count_of b capture buffer in
    rw ok
    (record {
      bytes = λ n l. rw (written_at b capture buffer n l) (byte-bounded (mark_of b capture n));
      passes = pass ∙ of 0;
      fails = fail ∙ of 1;
      unsures = unsure ∙ count-two b.nets _ _ _ (λ n. byte-unsure (mark_of b capture n)) ∙ ap₂ ◌+◌ (of 2) (of 3);
      together = rw (pass, fail, unsure) (count-three b.nets _ _ _ (λ n. byte-once (mark_of b capture n)));
    })
