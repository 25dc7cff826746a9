-- What checks 1 to 6 say of a file's bytes: its length, its sizes, and that each record lies inside it and means a cell.
use Prim.Native.Nat.{ℕ, ◌+◌, ◌*◌, ◌%◌, ◌<◌, ◌≤◌}
use mathlib.Core.Path.{◌≡◌, ◌∙◌, ap}
use mathlib.Core.Logic.{⊎_elim}
use mathlib.Core.Bool.{true, false, not, ◌&&◌, ◌||◌}
use mathlib.Core.List.{List}
use native.Mathlib.Omega.{arith}
use borrow.Author.Tests.{eqb-true, eqb-false, leb-true, ltb-false}
use lib.Dec.{eqb, leb}
use lib.ListN.{length}
use Rattle.base.specs.Digits.{ceil}
use Rattle.base.proofs.BoolLaws.{left, right, or-neither, passes-not, order}
use Rattle.rules.specs.File.{block_size, record_size, blocks_in, block_at, cells_of, nets_of, limit_of, record_at, broken_at}
use Rattle.rules.specs.Refusals.{Accepted, judge, most_cells, most_nets, most_limit, most_blocks, wrong_length, within, outside, blocks_for, block_wrong, shape_checks, file_checks}
use Rattle.rules.proofs.Verdicts.{all_pass, append-pass, accepted}

-- a number within its limits
pub record Within (most n : ℕ) : Type 0 where
  pub positive : 0 < n
  pub at_most : n ≤ most

-- the file's length and sizes, once checks 1 to 5 accept it
pub record Laid (file : List ℕ) : Type 0 where
  pub long : length file ≡ block_size * blocks_for (cells_of file)
  pub cells : Within most_cells (cells_of file)
  pub nets : Within most_nets (nets_of file)
  pub limit : Within most_limit (limit_of file)

pub within-limits : (most n : ℕ) → within most n ≡ true → Within most n
unfolding within
within-limits most n h =
    record { positive = leb-true _ _ (left (leb 1 n) _ h); at_most = leb-true _ _ (right (leb 1 n) h) }

-- check 1 has passed: a whole number of blocks, at least one, at most 14
pub whole-blocks : (file : List ℕ) → wrong_length file ≡ false → (length file ≡ block_size * blocks_in file) × (0 < blocks_in file) × (blocks_in file ≤ most_blocks)
unfolding wrong_length blocks_in
whole-blocks file h =
    let n = or-neither (eqb (length file) 0 || not (eqb (length file % block_size) 0)) h in
    let m = or-neither (eqb (length file) 0) n.0 in
    let not-empty = eqb-false (length file) 0 m.0 in
    let multiple = eqb-true (length file % block_size) 0 (passes-not _ m.1) in
    let bounded = ltb-false (block_size * most_blocks) (length file) n.1 in
    (omega arith, ⊎_elim (λ (l : length file < 1). absurd (not-empty (omega arith))) (λ (l : 1 ≤ length file). omega arith) (order (length file) 1), omega arith)

pub laid : (file : List ℕ) → judge (shape_checks file) ≡ Accepted → Laid file
unfolding shape_checks outside block_wrong
laid file e =
    let h = all_pass (shape_checks file) e in
    let b = whole-blocks file (h.0 0 (omega arith)) in
    let limits = passes-not _ (h.1.1.1.0 0 (omega arith)) in
    let right-blocks = eqb-true (blocks_in file) (blocks_for (cells_of file)) (passes-not _ (h.1.1.1.1.0 0 b.1)) in
    let sizes = left (within most_cells (cells_of file) && within most_nets (nets_of file)) _ limits in
    record {
      long = b.0 ∙ ap (λ (n : ℕ). block_size * n) right-blocks;
      cells = within-limits _ _ (left (within most_cells (cells_of file)) _ sizes);
      nets = within-limits _ _ (right (within most_cells (cells_of file)) sizes);
      limit = within-limits _ _ (right (within most_cells (cells_of file) && within most_nets (nets_of file)) limits);
    }

-- the header is there
pub one_block : (file : List ℕ) → Laid file → block_size ≤ length file
unfolding blocks_for
one_block file s = let n = s.long in omega arith

-- each record lies inside the file
pub record-inside : (file : List ℕ) → Laid file → (p : ℕ) → p < cells_of file → record_at p + record_size ≤ length file
unfolding record_at block_at blocks_for ceil
record-inside file s p l = let n = s.long in omega arith

-- checks 1 to 6, taken apart
pub shaped : (file : List ℕ) → judge (file_checks file) ≡ Accepted → judge (shape_checks file) ≡ Accepted
unfolding file_checks
shaped file e = accepted _ (append-pass (shape_checks file) _ (all_pass (file_checks file) e)).0

pub whole-records : (file : List ℕ) → judge (file_checks file) ≡ Accepted → (p : ℕ) → p < cells_of file → broken_at file p ≡ false
unfolding file_checks
whole-records file e = (append-pass (shape_checks file) _ (all_pass (file_checks file) e)).1.0
