-- What the readings of a capture say, in the board's own terms.
use Prim.Native.Nat.{ℕ, suc, ◌<◌, ◌+◌, ◌*◌, ◌/◌, ◌%◌, ◌≤◌}
use mathlib.Core.Path.{◌≡◌, refl, sym, ◌∙◌, ap}
use mathlib.Core.Bool.{Bool, false, not, xor}
use mathlib.Core.List.{List, [], ◌∷◌}
use native.Mathlib.Omega.{arith}
use borrow.Author.Tests.{eqb-true}
use lib.Dec.{eqb}
use lib.ListN.{replicate, length-replicate, length, get_or}
use Rattle.base.specs.Tests.{all}
use Rattle.base.specs.Digits.{bit, ceil}
use Rattle.base.proofs.ListLaws.{length-table, zero-at}
use Rattle.base.proofs.BoolLaws.{passes-not}
use Rattle.rules.specs.Answers.{over, pack, field, marks_answer, marks_outcome}
use Rattle.rules.specs.Rows.{row_bytes, row_bit}
use Rattle.rules.specs.File.{Board, board_of, byte_at, cells_of, nets_of, most_number}
use Rattle.rules.specs.Marks.{read_at, own_at, differs_at, byte_of, marks_of, bytes_that, is_pass, is_fail, is_unsure}
use Rattle.rules.specs.Refusals.{judge, board_checks, count_checks, marks_checks, most_cells, most_width, Accepted}
use Rattle.rules.specs.Vectors.{Bases, code_width, width_of, bases_of, steps_of, vector_of, plan_of, total_of, vector_at}
use Rattle.rules.specs.declared.Step.TheVariants.{Base}
use Rattle.rules.proofs.Codes.{width-least}
use Rattle.rules.proofs.Shape.{laid, shaped}
use Rattle.plan.specs.declared.numbers.Plan.{Plan}
use Rattle.plan.specs.Plans.{bases_for}
use Rattle.plan.specs.Planning.{PlanOf}
use Rattle.plan.proofs.WidthLaws.{width-bounded}
use Rattle.plan.proofs.PlanningLaws.{bases-are, total-is, board-accepted, whole-file}
use Rattle.readings.specs.Readings.{value_at, off_at, read_below, read_in, Entries, Captured, Read}
use Rattle.marks.specs.declared.Counts.{Counts}
use Rattle.marks.specs.Judging.{mark_by, marks_by, Readings, Counted}
use Rattle.marks.proofs.MarkedLaws.{bytes-that-bounded}
use Rattle.marks.proofs.MarksByReadings.{marks-by}
use Rattle.rigcandle.proofs.AnswerLaws.{Gives, marks-accepted}
use Rattle.rigcandle.proofs.AdmittedLaws.{total-bounded}

-- what a cell read, by base vectors that are the board's, and by the board
read_is :
    (b : Board) (s : Bases) (capture : List ℕ) (n c : ℕ) → s ≡ bases_of b →
    read_in s (row_bytes b.size) capture (length (steps_of s)) n c ≡ all (total_of b) (λ t. not (differs_at b capture n c t))
unfolding row_bit differs_at read_at own_at vector_at plan_of total_of
read_is b s capture n c h = ap (λ (s : Bases). all (length (steps_of s)) (λ t. not (xor (read t) ((vector_of s (get_or (steps_of s) t (Base 0))).value n)))) h
  where
    read : ℕ → Bool
    read t = bit (byte_at capture (t * row_bytes b.size + c / 8)) (c % 8)

-- the marks that readings give are those of the capture, where they are told by base vectors that are the board's: also by those of numbers
-- that no plan has
pub marks-read :
    (file : List ℕ) (s : Bases) (capture after : List ℕ) {cells : ℕ} → s ≡ bases_of (board_of file) → cells ≡ cells_of file →
    ((c n : ℕ) → c < cells → n < s.nets → eqb (get_or after c 0) (suc n) ≡ read_in s (row_bytes cells) capture (length (steps_of s)) n c) →
    marks_by (board_of file) after ≡ marks_of (board_of file) capture
unfolding board_of bases_of
marks-read file s capture after h e reads =
    marks-by (board_of file) capture after
    (λ c l i n m. reads c n (omega arith) (let q = ap (λ (s : Bases). s.nets) h in omega arith)
    ∙ ap (λ (x : ℕ). read_in s (row_bytes x) capture (length (steps_of s)) n c) e
    ∙ read_is (board_of file) s capture n c h)

-- a capture of a board's vectors, by the board's plan
module _ (file : List ℕ) (p : Plan) (capture : List ℕ) {cells : ℕ} (h : PlanOf (board_of file) p) (e : cells ≡ cells_of file) where
  -- the marks that the readings give are those of the capture
  pub marks-are : {before after : List ℕ} → Read p capture before cells after → marks_by (board_of file) after ≡ marks_of (board_of file) capture
  unfolding read_below off_at value_at bases_for
  marks-are {before} {after} r = marks-read file (bases_for p) capture after (bases-are _ _ h) e r.reads

  -- it is one of an admitted board, where its length is right
  pub captured :
      judge (count_checks file) ≡ Accepted → length capture ≡ length (steps_of (bases_for p)) * row_bytes cells → Captured p capture cells (row_bytes cells)
  unfolding board_of width_of
  captured count l =
      let ok = board-accepted file count in
      let f = laid file (shaped file (whole-file file ok)) in
      let c = f.cells.at_most in
      let n = f.nets.at_most in
      let q = h.nets-are in
      let w = h.wide-are ∙ ap code_width (sym q) in
      let v = total-bounded file count in
      record {
        narrow = rw w (width-bounded most_width p.nets (omega arith));
        coded = rw w (width-least p.nets).0;
        cells-bounded = omega arith;
        bytes-are = refl;
        vectors = omega (arith, total-is (board_of file) p h);
        rows_are = l;
      }

  -- the readings as the marks are made of them
  pub readings-of :
      {before after : List ℕ} → judge (board_checks file) ≡ Accepted → Entries 0 (8 * row_bytes cells) before → Read p capture before cells after →
      Readings file after
  unfolding board_of row_bytes ceil
  readings-of ok z r =
      record {
        checked = whole-file file ok;
        long = (let m = z.long in omega (arith, r.long));
        nets = λ c l. (let q = r.entries-bounded c (omega arith) in omega (arith, h.nets-are));
      }

-- a capture of the right length
pub whole-capture : (long x : ℕ) → not (eqb long x) ≡ false → long ≡ x
whole-capture long x h = eqb-true long x (passes-not _ h)

-- a blank table has no entry yet
pub no-entries : (cells : ℕ) → cells ≤ most_cells → Entries 0 (8 * row_bytes cells) (replicate most_cells 0)
unfolding row_bytes ceil
no-entries cells l =
    record {
      long = (let m = length-replicate {A = ℕ} most_cells 0 in omega arith);
      entries-bounded = λ c q. (let e = zero-at most_cells c in omega arith);
    }

module _ (file : List ℕ) {readings : List ℕ} {counts : Counts} (k : Counted (board_of file) readings counts) where
  -- no count is above the number of nets
  pub counts-fit : judge (board_checks file) ≡ Accepted → (counts.pass ≤ most_number) × (counts.fail ≤ most_number) × (counts.unsure ≤ most_number)
  unfolding marks_by board_of
  counts-fit ok = (rw k.pass (each_fits is_pass), rw k.fail (each_fits is_fail), rw k.unsure (each_fits is_unsure))
    where
      each_fits : (test : ℕ → Bool) → bytes_that test (marks_by (board_of file) readings) ≤ most_number
      each_fits test =
          let f = (laid file (shaped file (whole-file file ok))).nets.at_most in
          let l = bytes-that-bounded test (marks_by (board_of file) readings) in
          omega (arith, length-table (nets_of file) (λ n. byte_of (mark_by (board_of file) readings n)))

  -- the answer, by the marks that the readings give
  pub marked-as :
      (capture buffer : List ℕ) {bits : ℕ} {after : List ℕ} →
      bits ≡ pack (field 8 0 ∷ field 16 counts.pass ∷ field 16 counts.fail ∷ field 16 counts.unsure ∷ []) →
      judge (marks_checks file capture buffer) ≡ Accepted →
      marks_by (board_of file) readings ≡ marks_of (board_of file) capture →
      after ≡ over (marks_by (board_of file) readings) buffer →
      Gives bits after (marks_outcome (marks_answer file capture buffer))
  marked-as capture buffer given ok m e =
      marks-accepted file capture buffer given ok
      (k.pass ∙ ap (bytes_that is_pass) m)
      (k.fail ∙ ap (bytes_that is_fail) m)
      (k.unsure ∙ ap (bytes_that is_unsure) m)
      (e ∙ ap (λ (l : List ℕ). over l buffer) m)
