-- A board's plan: its base vectors are the board's, and the board's numbers may be a plan's where the board is accepted.
use Prim.Native.Nat.{ℕ, zero, suc, ◌<◌, ◌≤◌}
use mathlib.Core.Path.{◌≡◌, refl, ◌∙◌, ap}
use mathlib.Core.List.{List, [], ◌∷◌}
use native.Mathlib.Omega.{arith}
use lib.Dec.{ltb}
use lib.ListN.{length, get_or}
use Rattle.base.specs.Tests.{largest}
use Rattle.rules.specs.File.{Board, board_of, nets_of, limit_of}
use Rattle.rules.specs.Drivers.{degree, groups_of}
use Rattle.rules.specs.Refusals.{judge, once, board_checks, count_checks, file_checks, early_checks, most_nets, most_limit, most_drivers, most_vectors, most_width, Accepted}
use Rattle.rules.specs.Vectors.{Bases, code_width, width_of, pattern_of, bases_of, steps_of, vector_of, plan_of, total_of, vector_at}
use Rattle.rules.specs.declared.Step.{Step}
use Rattle.rules.specs.declared.Step.TheVariants.{Base}
use Rattle.rules.proofs.Degree.{degree-drivers}
use Rattle.rules.proofs.Selection.{sound}
use Rattle.rules.proofs.Shape.{laid, shaped}
use Rattle.rules.proofs.Verdicts.{Then, then_append, append-pass, all_pass, accepted}
use Rattle.words.specs.Sets.{up_to}
use Rattle.plan.specs.declared.numbers.Plan.{Plan}
use Rattle.plan.specs.Bounds.{Bounded}
use Rattle.plan.specs.Plans.{bases_by, bases_for}
use Rattle.plan.specs.Planning.{PlanOf}
use Rattle.plan.proofs.WidthLaws.{width_positive, width-bounded}

-- the base vectors of a board's four numbers, whether or not these are small enough for a plan's type
pub bases-by : (b : Board) (n p g ssol : ℕ) → n ≡ b.nets → p ≡ width_of b → g ≡ groups_of b → ssol ≡ b.limit → bases_by n p g ssol ≡ bases_of b
unfolding bases_of up_to pattern_of
bases-by b n p g ssol n-is p-is g-is ssol-is = rw (n-is, p-is, g-is, ssol-is) refl

pub bases-are : (b : Board) (p : Plan) → PlanOf b p → bases_for p ≡ bases_of b
unfolding bases_for
bases-are b p h = bases-by b _ _ _ _ h.nets-are h.wide-are h.groups-are h.limit-are

-- the total, of any base vectors that are the board's
pub total-by : (b : Board) (s : Bases) → s ≡ bases_of b → length (steps_of s) ≡ total_of b
unfolding total_of plan_of
total-by b s e = ap (λ (s : Bases). length (steps_of s)) e

pub total-is : (b : Board) (p : Plan) → PlanOf b p → length (steps_of (bases_for p)) ≡ total_of b
total-is b p h = total-by b _ (bases-are b p h)

-- no larger than m, where each is
largest-bounded : (n m : ℕ) (f : ℕ → ℕ) → ((i : ℕ) → i < n → f i ≤ m) → largest n f ≤ m
unfolding largest
largest-bounded zero m f h = omega arith
largest-bounded (suc n) m f h = let a = largest-bounded n m f (λ i l. h i (omega arith)) in let d = h n (omega arith) in omega arith

groups-positive : (b : Board) → 1 ≤ groups_of b
unfolding groups_of
groups-positive b = omega arith

module _ (file : List ℕ) (ok : judge (board_checks file) ≡ Accepted) where
  pub groups-within : groups_of (board_of file) ≤ most_drivers
  unfolding groups_of
  groups-within =
      let e = (sound file ok).checked in
      let l = largest-bounded (board_of file).nets most_drivers (degree (board_of file)) (λ n m. let d = degree-drivers (board_of file) e n m in let f = e.drivers-bounded n m in omega arith) in
      omega arith

  -- checks 1 to 6 have accepted
  pub whole-file : judge (file_checks file) ≡ Accepted
  unfolding board_checks early_checks
  whole-file =
      accepted (file_checks file) (append-pass (file_checks file) _ (append-pass (early_checks file) _ (all_pass (board_checks file) ok)).0).0

  -- so the board's own four numbers may be a plan's
  pub numbers-bounded :
      (n p g ssol : ℕ) → n ≡ nets_of file → p ≡ code_width n → g ≡ groups_of (board_of file) → ssol ≡ limit_of file → Bounded n p g ssol
  numbers-bounded n p g ssol n-is p-is g-is ssol-is =
      let l = laid file (shaped file whole-file) in
      let nets : n ≤ most_nets = (let f = l.nets.at_most in omega arith) in
      let limit : (0 < ssol) × (ssol ≤ most_limit) = (let f = l.limit.positive in let g = l.limit.at_most in (omega arith, omega arith)) in
      let within : g ≤ most_drivers = rw g-is groups-within in
      record {
        nets = nets;
        coded = rw p-is (width_positive n);
        narrow = (let w = width-bounded most_width n (omega arith) in omega arith);
        turns = rw g-is (groups-positive (board_of file));
        groups-bounded = omega (arith, within);
        limited = limit.0;
        limit-bounded = omega (arith, limit.1);
      }

-- check 12, after the board's
pub row_count : (file : List ℕ) → Then (judge (board_checks file)) (judge (once 12 (ltb most_vectors (total_of (board_of file))) ∷ [])) (judge (count_checks file))
unfolding count_checks
row_count file = then_append (board_checks file) (once 12 (ltb most_vectors (total_of (board_of file))) ∷ [])

pub board-accepted : (file : List ℕ) → judge (count_checks file) ≡ Accepted → judge (board_checks file) ≡ Accepted
unfolding count_checks
board-accepted file e = accepted (board_checks file) (append-pass (board_checks file) _ (all_pass (count_checks file) e)).0

-- check 12 goes by that total, and so by a plan's
pub check-by : (b : Board) (s : Bases) → s ≡ bases_of b → judge (once 12 (ltb most_vectors (length (steps_of s))) ∷ []) ≡ judge (once 12 (ltb most_vectors (total_of b)) ∷ [])
check-by b s e = ap (λ (x : ℕ). judge (once 12 (ltb most_vectors x) ∷ [])) (total-by b s e)

pub check-is : (b : Board) (p : Plan) → PlanOf b p → judge (once 12 (ltb most_vectors (length (steps_of (bases_for p)))) ∷ []) ≡ judge (once 12 (ltb most_vectors (total_of b)) ∷ [])
check-is b p h = check-by b _ (bases-are b p h)

-- the four numbers, each as it is found
pub plan-from : (file : List ℕ) (p : Plan) → p.nets ≡ nets_of file → p.limit ≡ limit_of file → p.wide ≡ code_width p.nets → p.groups ≡ groups_of (board_of file) → PlanOf (board_of file) p
unfolding board_of width_of
plan-from file p n l w g = record { nets-are = n; wide-are = w ∙ ap code_width n; groups-are = g; limit-are = l }

-- a step's vector is the board's, by any base vectors that are
pub vector-by : (b : Board) (s : Bases) (t : ℕ) (step : Step) → s ≡ bases_of b → step ≡ get_or (steps_of s) t (Base 0) → vector_of s step ≡ vector_at b t
unfolding vector_at plan_of
vector-by b s t step h e = ap (vector_of s) e ∙ ap (λ (s : Bases). vector_of s (get_or (steps_of s) t (Base 0))) h

pub vector-is : (b : Board) (p : Plan) (t : ℕ) (step : Step) → PlanOf b p → step ≡ get_or (steps_of (bases_for p)) t (Base 0) → vector_of (bases_for p) step ≡ vector_at b t
vector-is b p t step h = vector-by b _ t step (bases-are b p h)
