-- What one cell more does to the tests: nothing, unless it is an input cell; its own word adds its net to those seen, anything else also to
-- those that failed, and another net's own word that net to those read twice.
use Prim.Native.Nat.{ℕ, suc, ◌+◌}
use mathlib.Core.Path.{◌≡◌, ◌∙◌, fun_ext}
use mathlib.Core.Bool.{false, not, ◌&&◌}
use mathlib.Core.List.{List}
use native.Mathlib.Omega.{arith}
use lib.Dec.{eqb}
use Rattle.std.specs.Prelude.{Some, None}
use Rattle.std.proofs.lemmas.Bool.Decides.{nat_tests}
use Rattle.base.specs.Tests.{any}
use Rattle.base.proofs.BoolLaws.{eqb-back}
use Rattle.base.proofs.TestLaws.{any-kept, any-grown}
use Rattle.rules.specs.File.{Board}
use Rattle.rules.specs.Marks.{input_of}
use Rattle.rules.specs.declared.Net.{Net}
use Rattle.words.specs.Sets.{member, plus}
use Rattle.marks.specs.Judging.{read, fails_at, twice_at, seen_by, failed_by, twice_by, reader_in, plus_read, TestedBelow, Tested}
use Rattle.marks.specs.declared.Tests.{Tests}
use Rattle.marks.proofs.InputLaws.{is-input, no-input, own-net, own-input, no-net}

-- the net's own word does not differ, and is no other net's
own_same : (n m entry : ℕ) → entry ≡ n + 1 → (eqb n m && not (eqb entry (suc m))) ≡ false
own_same n m entry e = grind (arith, nat_tests)

own_alone : (n m entry : ℕ) → entry ≡ n + 1 → (not (eqb n m) && eqb entry (suc m)) ≡ false
own_alone n m entry e = grind (arith, nat_tests)

-- anything else differs, and what net's word it is needs no second look at the cell's own
other_differs : (n m entry : ℕ) → (entry ≡ n + 1 → ⊥) → (eqb n m && not (eqb entry (suc m))) ≡ eqb m n
other_differs n m entry ne = grind (arith, nat_tests)

other-read : (n m entry : ℕ) → (entry ≡ n + 1 → ⊥) → (not (eqb n m) && eqb entry (suc m)) ≡ eqb entry (suc m)
other-read n m entry ne = grind (arith, nat_tests)

-- after the last cell each test is decided
pub tested-all : (b : Board) (readings : List ℕ) (c : ℕ) (tests : Tests) → TestedBelow b readings c tests → c ≡ b.size → Tested b readings tests
unfolding seen_by failed_by twice_by
tested-all b readings c tests t e =
    record {
      seen = fun_ext (λ n. rw e at (t.seen n));
      failed = fun_ext (λ n. rw e at (t.failed n));
      twice = fun_ext (λ n. rw e at (t.twice n));
    }

module _ (b : Board) (readings : List ℕ) (c : ℕ) (tests : Tests) (so_far : TestedBelow b readings c tests) where
  pub grown-none : reader_in (b.cell c) ≡ None → TestedBelow b readings (c + 1) tests
  unfolding fails_at twice_at
  grown-none e =
      record {
        seen = λ n. any-kept c _ _ (so_far.seen n) (no-net b c e n);
        failed = λ n. any-kept c _ _ (so_far.failed n) (rw (no-net b c e n));
        twice = λ n. any-kept c _ _ (so_far.twice n) (rw (no-input b c e));
      }

  module _
      (net : Net)
      (e : reader_in (b.cell c) ≡ Some net)
      (r : Tests)
      (joined : member r.seen.words ≡ plus (member tests.seen.words) net.0) where
    seen-grown : (n : ℕ) → member r.seen.words n ≡ any (c + 1) (input_of b n)
    seen-grown n = any-grown c _ (eqb n net.0) _ _ (so_far.seen n) (own-input b c net e n ∙ eqb-back net.0 n) (rw joined)

    own_differs : (n : ℕ) → fails_at b readings n c ≡ (eqb net.0 n && not (eqb (read readings c) (suc n)))
    unfolding fails_at
    own_differs n = rw (own-input b c net e n)

    borrows-at : (n : ℕ) → twice_at b readings n c ≡ (not (eqb net.0 n) && eqb (read readings c) (suc n))
    unfolding twice_at
    borrows-at n = rw ((is-input b c net e).0, own-net b c net e n)

    pub grown-own : r.failed ≡ tests.failed → r.twice ≡ tests.twice → read readings c ≡ net.0 + 1 → TestedBelow b readings (c + 1) r
    grown-own f t own =
        record {
          seen = seen-grown;
          failed = λ n. rw f (any-kept c _ _ (so_far.failed n) (own_differs n ∙ own_same net.0 n _ own));
          twice = λ n. rw t (any-kept c _ _ (so_far.twice n) (borrows-at n ∙ own_alone net.0 n _ own));
        }

    pub grown-other :
        member r.failed.words ≡ plus (member tests.failed.words) net.0 →
        member r.twice.words ≡ plus_read (member tests.twice.words) (read readings c) →
        (read readings c ≡ net.0 + 1 → ⊥) →
        TestedBelow b readings (c + 1) r
    grown-other f t other =
        record {
          seen = seen-grown;
          failed = λ n. any-grown c _ (eqb n net.0) _ _ (so_far.failed n) (own_differs n ∙ other_differs net.0 n _ other) (rw f);
          twice = λ n. any-grown c _ (eqb (read readings c) (suc n)) _ _ (so_far.twice n) (borrows-at n ∙ other-read net.0 n _ other) (rw t);
        }
