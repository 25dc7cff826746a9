-- How large an accepted answer's numbers are: G is at most 16, p at most 9, the total at most 4,096, a vector's group at most G, and no mark
-- is counted more often than there are nets; so each is below what its bits hold. The idea: checks 4, 9, 12 and 13 say so.
use Prim.Native.Nat.{ℕ, zero, suc, ◌^◌, ◌<◌, ◌≤◌}
use mathlib.Core.Path.{◌≡◌, refl}
use mathlib.Core.Bool.{Bool}
use mathlib.Core.List.{List, [], ◌∷◌}
use native.Mathlib.Omega.{arith}
use borrow.Author.Tests.{ltb-false, leb-false}
use lib.ListN.{length}
use Rattle.base.specs.Tests.{largest}
use Rattle.base.proofs.DigitLaws.{digit-bounded}
use Rattle.base.proofs.ListLaws.{length-table}
use Rattle.rules.specs.File.{board_of}
use Rattle.rules.specs.Drivers.{degree, groups_of}
use Rattle.rules.specs.Vectors.{width_of, total_of, vector_at}
use Rattle.rules.specs.Marks.{mark_of, byte_of, marks_of, bytes_that}
use Rattle.rules.specs.Refusals.{Accepted, judge, most_nets, most_drivers, most_vectors, most_width, file_checks, early_checks, board_checks, count_checks}
use Rattle.rules.specs.Refusals.{groups_checks, vector_checks, marks_checks}
use Rattle.rules.proofs.Verdicts.{append-pass, all_pass, accepted}
use Rattle.rules.proofs.Shape.{laid, shaped}
use Rattle.rules.proofs.Codes.{width-bounded}
use Rattle.rules.proofs.Degree.{degree-drivers}
use Rattle.rules.proofs.Selection.{sound}
use Rattle.rules.proofs.VectorsDriven.{vector-group}

-- no larger than m, where each is
largest-bounded : (n m : ℕ) (f : ℕ → ℕ) → ((i : ℕ) → i < n → f i ≤ m) → largest n f ≤ m
unfolding largest
largest-bounded zero m f h = omega arith
largest-bounded (suc n) m f h = let a = largest-bounded n m f (λ i l. h i (omega arith)) in let d = h n (omega arith) in omega arith

-- no more bytes pass a test than there are
pub bytes-that-bounded : (test : ℕ → Bool) (bytes : List ℕ) → bytes_that test bytes ≤ length bytes
unfolding bytes_that
bytes-that-bounded test [] = omega arith
bytes-that-bounded test (x ∷ bytes) = let r = bytes-that-bounded test bytes in let d = digit-bounded (test x) _ refl in omega arith

-- the board is accepted: checks 1 to 11
module _ (file : List ℕ) (ok : judge (board_checks file) ≡ Accepted) where
  -- and so checks 1 to 6 have accepted
  pub whole-file : judge (file_checks file) ≡ Accepted
  unfolding board_checks early_checks
  whole-file =
      accepted (file_checks file) (append-pass (file_checks file) _ (append-pass (early_checks file) _ (all_pass (board_checks file) ok)).0).0

  -- N, by check 4
  pub nets-within : (board_of file).nets ≤ most_nets
  unfolding board_of
  nets-within = (laid file (shaped file whole-file)).nets.at_most

  -- G, by check 9: a degree is a number of drivers
  pub groups-within : groups_of (board_of file) ≤ most_drivers
  unfolding groups_of
  groups-within =
      let e = (sound file ok).checked in
      let l = largest-bounded (board_of file).nets most_drivers (degree (board_of file)) (λ n m. let d = degree-drivers (board_of file) e n m in let f = e.drivers-bounded n m in omega arith) in
      omega arith

  -- p, by N
  pub width-within : width_of (board_of file) ≤ most_width
  unfolding width_of
  width-within = let n = nets-within in width-bounded most_width (board_of file).nets (omega arith)

  -- and each of the three counts of a capture's marks, by N
  pub counts-within : (test : ℕ → Bool) (capture : List ℕ) → bytes_that test (marks_of (board_of file) capture) ≤ most_nets
  unfolding marks_of
  counts-within test capture =
      let n = nets-within in
      let l = bytes-that-bounded test (marks_of (board_of file) capture) in
      omega (arith, length-table (board_of file).nets (λ m. byte_of (mark_of (board_of file) capture m)))

-- the file is accepted: checks 1 to 12
module _ (file : List ℕ) (ok : judge (count_checks file) ≡ Accepted) where
  -- and so the board is
  pub board-accepted : judge (board_checks file) ≡ Accepted
  unfolding count_checks
  board-accepted = accepted (board_checks file) (append-pass (board_checks file) _ (all_pass (count_checks file) ok)).0

  -- the total, by check 12
  pub total-within : total_of (board_of file) ≤ most_vectors
  unfolding count_checks
  total-within = ltb-false most_vectors (total_of (board_of file)) ((append-pass (board_checks file) _ (all_pass (count_checks file) ok)).1.0 0 (omega arith))

  -- what count returns fits its bits: G and p in 8, the total in 16
  pub groups-fit : groups_of (board_of file) < 2 ^ 8
  groups-fit = let l = groups-within file board-accepted in omega arith

  pub width_fits : width_of (board_of file) < 2 ^ 8
  width_fits = let l = width-within file board-accepted in omega arith

  pub total-fits : total_of (board_of file) < 2 ^ 16
  total-fits = let l = total-within in omega arith

  -- what vector returns: the group of each vector of the plan in 8
  pub group-fits : (t : ℕ) → t < total_of (board_of file) → (vector_at (board_of file) t).group < 2 ^ 8
  group-fits t l = let g = (vector-group (board_of file) t l).1 in let m = groups-fit in omega arith

  -- and what marks returns: each count in 16
  pub counts-fit : (test : ℕ → Bool) (capture : List ℕ) → bytes_that test (marks_of (board_of file) capture) < 2 ^ 16
  counts-fit test capture = let l = counts-within file board-accepted test capture in omega arith

-- each other question's list begins with the checks of count
pub count-before-groups : (file buffer : List ℕ) → judge (groups_checks file buffer) ≡ Accepted → judge (count_checks file) ≡ Accepted
unfolding groups_checks
count-before-groups file buffer ok = accepted (count_checks file) (append-pass (count_checks file) _ (all_pass (groups_checks file buffer) ok)).0

pub count-before-marks : (file capture buffer : List ℕ) → judge (marks_checks file capture buffer) ≡ Accepted → judge (count_checks file) ≡ Accepted
unfolding marks_checks
count-before-marks file capture buffer ok = accepted (count_checks file) (append-pass (count_checks file) _ (all_pass (marks_checks file capture buffer) ok)).0

module _ (file : List ℕ) (number : ℕ) (buffer : List ℕ) (ok : judge (vector_checks file number buffer) ≡ Accepted) where
  pub count-before-vector : judge (count_checks file) ≡ Accepted
  unfolding vector_checks
  count-before-vector = accepted (count_checks file) (append-pass (count_checks file) _ (all_pass (vector_checks file number buffer) ok)).0

  -- check 13 has passed
  pub number-below : number < total_of (board_of file)
  unfolding vector_checks
  number-below =
      leb-false (total_of (board_of file)) number ((append-pass (count_checks file) _ (all_pass (vector_checks file number buffer) ok)).1.0 0 (omega arith))
