-- From what each cell read to the marks of the nets: the tests that the readings give, the sets that hold them, the marks and their numbers. Assumes nothing.
use Rattle.std.specs.Prelude.{Option, Some, None, ℕ, suc, ◌+◌, ◌≤◌, ◌<◌, ◌≡◌, Bool, not, ◌&&◌, ◌||◌, List, [], ◌∷◌, eqb, length, get_or}
use Rattle.base.specs.Tests.{digit, any}
use Rattle.base.specs.Lists.{table}
use Rattle.rules.specs.File.{Board, cells_of, nets_of}
use Rattle.rules.specs.Drivers.{is_input, on_net}
use Rattle.rules.specs.Marks.{input_of, unseen, first_given, byte_of, bytes_that, is_pass, is_fail, is_unsure}
use Rattle.rules.specs.Refusals.{most_nets, judge, file_checks, Accepted}
use Rattle.rules.specs.Answers.{over}
use Rattle.rules.specs.declared.Cell.{Cell}
use Rattle.rules.specs.declared.Cell.TheVariants.{Internal, Input, Control, ThreeState, TwoState, OpenDrain}
use Rattle.rules.specs.declared.Mark.{Mark}
use Rattle.rules.specs.declared.Mark.TheVariants.{Fail, NotSeen, ReadTwice}
use Rattle.words.specs.Sets.{member}
use Rattle.rules.specs.declared.Net.{Net}
use Rattle.marks.specs.declared.Tests.{Tests}
use Rattle.marks.specs.declared.Counts.{Counts}

-- what the cell at c read: 1 + a net, where it read that net's own word in every vector; else 0
abbrev pub read : List ℕ → ℕ → ℕ
read readings c = get_or readings c 0

-- the cell at c is an input cell of net n and did not read n's own word
unfoldable pub fails_at : Board → List ℕ → ℕ → ℕ → Bool
fails_at b readings n c = input_of b n c && not (eqb (read readings c) (suc n))

-- the cell at c is an input cell of another net and read n's own word
unfoldable pub twice_at : Board → List ℕ → ℕ → ℕ → Bool
twice_at b readings n c = is_input b c && not (on_net b n c) && eqb (read readings c) (suc n)

-- net n has an input cell
unfoldable pub seen_by : Board → ℕ → Bool
seen_by b n = any b.size (input_of b n)

-- an input cell of net n did not read n's own word: it once differs from n's value
unfoldable pub failed_by : Board → List ℕ → ℕ → Bool
failed_by b readings n = any b.size (fails_at b readings n)

-- an input cell of another net read n's own word
unfoldable pub twice_by : Board → List ℕ → ℕ → Bool
twice_by b readings n = any b.size (twice_at b readings n)

-- the table of marks, in its order, by its three tests
unfoldable pub mark_for : Bool → Bool → Bool → Mark
mark_for none differs twice =
    first_given (record { mark = NotSeen; given = none } ∷ record { mark = Fail; given = differs } ∷ record { mark = ReadTwice; given = twice } ∷ [])

-- net n's mark, by what the cells read
unfoldable pub mark_by : Board → List ℕ → ℕ → Mark
mark_by b readings n = mark_for (unseen b n) (failed_by b readings n) (twice_by b readings n)

-- the mark byte of each net of the board, by what the cells read
unfoldable pub marks_by : Board → List ℕ → List ℕ
marks_by b readings = table b.nets (λ n. byte_of (mark_by b readings n))

-- a whole file, and what each of its cells read: a net of the board, or none
pub record Readings (file readings : List ℕ) : Type 0 where
  pub checked : judge (file_checks file) ≡ Accepted
  pub long : cells_of file ≤ length readings
  pub nets : (c : ℕ) → c < cells_of file → read readings c ≤ nets_of file

-- the net of an input cell
unfoldable pub reader_in : Cell → Option Net
reader_in Internal = None
reader_in (Input n) = Some n
reader_in (Control on) = None
reader_in (ThreeState k n) = None
reader_in (TwoState n) = None
reader_in (OpenDrain n) = None

-- a set of nets with the net besides whose own word was read
abbrev pub plus_read : (ℕ → Bool) → ℕ → ℕ → Bool
plus_read f entry m = eqb entry (suc m) || f m

-- the sets are the nets that pass each test, as far as the cells below c go
pub record TestedBelow (b : Board) (readings : List ℕ) (c : ℕ) (tests : Tests) : Type 0 where
  pub seen : (n : ℕ) → member tests.seen.words n ≡ any c (input_of b n)
  pub failed : (n : ℕ) → member tests.failed.words n ≡ any c (fails_at b readings n)
  pub twice : (n : ℕ) → member tests.twice.words n ≡ any c (twice_at b readings n)

-- the sets are the nets that pass each test
pub record Tested (b : Board) (readings : List ℕ) (tests : Tests) : Type 0 where
  pub seen : member tests.seen.words ≡ seen_by b
  pub failed : member tests.failed.words ≡ failed_by b readings
  pub twice : member tests.twice.words ≡ twice_by b readings

-- net n's mark, by the three sets
unfoldable pub mark_in : Tests → ℕ → Mark
mark_in tests n =
    mark_for (not (member tests.seen.words n)) (member tests.failed.words n) (member tests.twice.words n)

-- the mark bytes of the nets below n, by the three sets
unfoldable pub marks_in : Tests → ℕ → List ℕ
marks_in tests n = table n (λ m. byte_of (mark_in tests m))

-- the numbers of pass, fail and unsure among mark bytes
unfoldable pub counts_of : List ℕ → Counts
counts_of bytes = record { pass = bytes_that is_pass bytes; fail = bytes_that is_fail bytes; unsure = bytes_that is_unsure bytes }

-- the numbers with one mark byte more
unfoldable pub one_more : Counts → ℕ → Counts
one_more counts byte =
    record { pass = counts.pass + digit (is_pass byte); fail = counts.fail + digit (is_fail byte); unsure = counts.unsure + digit (is_unsure byte) }

-- none of the numbers is over the most nets that a board has
pub record CountsBounded (counts : Counts) : Type 0 where
  pub pass : counts.pass ≤ most_nets
  pub fail : counts.fail ≤ most_nets
  pub unsure : counts.unsure ≤ most_nets

-- the marks of the first n nets stand in the buffer and are counted
pub record Marked (tests : Tests) (n : ℕ) (before after : List ℕ) (counts : Counts) : Type 0 where
  pub buffer : after ≡ over (marks_in tests n) before
  pub counted : counts ≡ counts_of (marks_in tests n)

-- "the numbers of pass, fail and unsure": those of the marks that the readings give
pub record Counted (b : Board) (readings : List ℕ) (counts : Counts) : Type 0 where
  pub pass : counts.pass ≡ bytes_that is_pass (marks_by b readings)
  pub fail : counts.fail ≡ bytes_that is_fail (marks_by b readings)
  pub unsure : counts.unsure ≡ bytes_that is_unsure (marks_by b readings)
