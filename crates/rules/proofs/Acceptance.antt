-- What checks 1 to 9 leave of a file, as facts about its board's nets and cells: each later theorem starts from these and opens no check
-- again.
use Prim.Native.Nat.{ℕ, ◌<◌, ◌≤◌}
use mathlib.Core.Path.{◌≡◌}
use mathlib.Core.Bool.{true, false, ◌&&◌, ◌||◌}
use mathlib.Core.List.{List}
use native.Mathlib.Omega.{arith}
use borrow.Author.Tests.{ltb-false, leb-true}
use lib.Dec.{leb}
use Rattle.base.specs.Tests.{any}
use Rattle.base.proofs.BoolLaws.{left, right, passes-not}
use Rattle.base.proofs.TestLaws.{any_none}
use Rattle.rules.specs.File.{Board, board_of, kind_of, net_of, cells_of, nets_of, limit_of}
use Rattle.rules.specs.Drivers.{controlled, control_for, is_control, always_on, output_of, drivers}
use Rattle.rules.specs.Refusals.{Accepted, judge, most_drivers, most_cells, most_nets, most_limit, within, outside, undriven}
use Rattle.rules.specs.Refusals.{clash, clashing, crowded, shape_checks, file_checks, net_checks, early_checks}
use Rattle.rules.proofs.DriverLaws.{kept-three, kept-control, kept-net}
use Rattle.rules.proofs.Verdicts.{all_pass}

-- what checks 1 to 9 leave
pub record Early (b : Board) : Type 0 where
  -- C, N and SSOL are within their limits
  pub has-limit : 0 < b.limit
  -- a controlled driver's control cell is one, on the board
  pub own-control : (c : ℕ) → c < b.size → controlled b c ≡ true → (control_for b c < b.size) × (is_control b (control_for b c) ≡ true)
  -- a three-state output's is of kind 2
  pub named-control : (c : ℕ) → c < b.size → kind_of (b.cell c) ≡ 3 → kind_of (b.cell (control_for b c)) ≡ 2
  -- an output's net is one of the board
  pub own-net : (c : ℕ) → c < b.size → (controlled b c || always_on b c) ≡ true → net_of (b.cell c) < b.nets
  -- each net has an output
  pub driven : (n : ℕ) → n < b.nets → any b.size (output_of b n) ≡ true
  -- no two outputs of a net clash
  pub no-clash : (n c d : ℕ) → n < b.nets → c < b.size → d < b.size → clash b n c d ≡ false
  -- and no net is crowded
  pub drivers-bounded : (n : ℕ) → n < b.nets → drivers b n ≤ most_drivers

-- "within its limits" from check 4
limit-within : (most n : ℕ) → within most n ≡ true → (0 < n) × (n ≤ most)
unfolding within
limit-within most n h = (leb-true _ _ (left (leb 1 n) _ h), leb-true _ _ (right (leb 1 n) h))

-- acceptance by checks 1 to 9, taken apart
pub early : (file : List ℕ) → judge (early_checks file) ≡ Accepted → Early (board_of file)
unfolding early_checks shape_checks file_checks net_checks board_of outside undriven clashing crowded
early file e =
    let h = all_pass (early_checks file) e in
    let limits = passes-not _ (h.1.1.1.0 0 (omega arith)) in
    let limit = right (within most_cells (cells_of file) && within most_nets (nets_of file)) limits in
    let whole = h.1.1.1.1.1.0 in
    let nets = h.1.1.1.1.1.1 in
    record {
      has-limit = (limit-within most_limit (limit_of file) limit).0;
      own-control = kept-control file whole;
      named-control = λ c l e. (kept-three file whole c l e).1;
      own-net = kept-net file whole;
      driven = λ n l. passes-not _ (nets.0 n l);
      no-clash = λ n c d l m k. any_none _ _ (any_none _ _ (nets.1.0 n l) m) k;
      drivers-bounded = λ n l. ltb-false _ _ (nets.1.1.0 n l);
    }
