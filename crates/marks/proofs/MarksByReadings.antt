-- The marks by a table of readings are the capture's marks, where the table says of each input cell whose own word it read in every vector.
use Prim.Native.Nat.{ℕ, suc, ◌<◌}
use mathlib.Core.Path.{◌≡◌, refl, ◌∙◌, ap}
use mathlib.Core.Bool.{Bool, true, false, not, ◌&&◌}
use mathlib.Core.List.{List}
use lib.Dec.{eqb}
use Rattle.base.specs.Tests.{all}
use Rattle.base.proofs.BoolLaws.{left}
use Rattle.base.proofs.ListLaws.{table_same}
use Rattle.base.proofs.TestLaws.{any-all-not, any_same}
use Rattle.rules.specs.File.{Board}
use Rattle.rules.specs.Drivers.{is_input, on_net}
use Rattle.rules.specs.Vectors.{total_of}
use Rattle.rules.specs.Marks.{differs_at, input_of, failed, read_twice, rows_of, mark_of, marks_of}
use Rattle.marks.specs.Judging.{read, fails_at, twice_at, failed_by, twice_by, mark_for, mark_by, marks_by}

-- what a test says where another fails does not count
under : (a x y : Bool) → (a ≡ true → x ≡ y) → (a && x) ≡ (a && y)
under true x y h = h refl
under false x y h = refl

module _
    (b : Board)
    (capture readings : List ℕ)
    (right :
    (c : ℕ) →
    c < b.size →
    is_input b c ≡ true →
    (n : ℕ) →
    n < b.nets →
    eqb (read readings c) (suc n) ≡ all (total_of b) (λ t. not (differs_at b capture n c t))) where
  failed-by : (n : ℕ) → n < b.nets → failed_by b readings n ≡ failed b capture n
  unfolding failed_by fails_at failed input_of
  failed-by n l =
      any_same b.size _ _
      (λ c k. under (is_input b c && on_net b n c) _ _ (λ t. ap not (right c k (left (is_input b c) _ t) n l) ∙ any-all-not (total_of b) (differs_at b capture n c)))

  twice-by : (n : ℕ) → n < b.nets → twice_by b readings n ≡ read_twice b capture n
  unfolding twice_by twice_at read_twice
  twice-by n l =
      any_same b.size _ _
      (λ c k. under (is_input b c && not (on_net b n c)) _ _ (λ t. right c k (left (is_input b c) _ t) n l))

  pub marks-by : marks_by b readings ≡ marks_of b capture
  unfolding marks_by mark_by mark_for marks_of mark_of rows_of
  marks-by = table_same b.nets _ _ (λ n l. rw (failed-by n l, twice-by n l))
