-- The laws of what a controlled driver is, which control cell it belongs to and what counts as a control cell: this file alone opens these
-- definitions, and everything else cites it.
use Prim.Native.Nat.{ℕ, ◌<◌}
use mathlib.Core.Path.{◌≡◌, refl, sym, ◌∙◌, ap, ap₂}
use mathlib.Core.Logic.{◌⊎◌, ⊎_map, ⊎_elim}
use mathlib.Core.Bool.{Bool, true, false, ◌||◌, and-true, and-false, false≢true}
use mathlib.Core.List.{List}
use native.Mathlib.Omega.{arith}
use borrow.Author.Tests.{eqb-true, eq-eqb, ne_eqb, ltb-true}
use lib.Dec.{eqb, ltb}
use Rattle.base.proofs.BoolLaws.{left, right, or_left, or_right, or_cases}
use Rattle.rules.specs.File.{Board, board_of, none, kind_of, control_of, net_of, kind_at, control_at, net_at, cells_of, nets_of, of_kind2, broken_at}
use Rattle.rules.specs.Drivers.{Of, driver_in, driver_at, is_driver, control_in, controlled, control_for, open_drain, is_control, always_on, on_net, driver_of}
use Rattle.rules.specs.Refusals.{Accepted, judge, file_checks}
use Rattle.rules.specs.declared.Cell.{Cell}
use Rattle.rules.specs.declared.Cell.TheVariants.{Internal, Input, Control, ThreeState, TwoState, OpenDrain}
use Rattle.rules.specs.declared.Driver.{Driver}
use Rattle.std.specs.Prelude.{Option, Some, None}
use Rattle.rules.specs.declared.Position.{Position}
use Rattle.rules.specs.declared.Net.{Net}
use Rattle.rules.proofs.RecordLaws.{connects, SaysAt, record-says}
use Rattle.rules.proofs.Shape.{whole-records}

-- which kinds are drivers, and of which control cell: a three-state output of the one that it names, an open-drain output of itself
driver-kinds : (c : ℕ) (cell : Cell) → is_driver (driver_in c cell) ≡ (eqb (kind_of cell) 3 || eqb (kind_of cell) 5)
unfolding driver_in is_driver kind_of
driver-kinds c Internal = refl
driver-kinds c (Input n) = refl
driver-kinds c (Control on) = refl
driver-kinds c (ThreeState k n) = refl
driver-kinds c (TwoState n) = refl
driver-kinds c (OpenDrain n) = refl

driver-three : (c : ℕ) (cell : Cell) → kind_of cell ≡ 3 → driver_in c cell ≡ Of (record { 0 = control_of cell }) (record { 0 = net_of cell })
unfolding driver_in kind_of control_of net_of
driver-three c Internal e = absurd (omega arith)
driver-three c (Input n) e = absurd (omega arith)
driver-three c (Control on) e = absurd (omega arith)
driver-three c (ThreeState k n) e = refl
driver-three c (TwoState n) e = absurd (omega arith)
driver-three c (OpenDrain n) e = absurd (omega arith)

driver-five : (c : ℕ) (cell : Cell) → kind_of cell ≡ 5 → driver_in c cell ≡ Of (record { 0 = c }) (record { 0 = net_of cell })
unfolding driver_in kind_of net_of
driver-five c Internal e = absurd (omega arith)
driver-five c (Input n) e = absurd (omega arith)
driver-five c (Control on) e = absurd (omega arith)
driver-five c (ThreeState k n) e = absurd (omega arith)
driver-five c (TwoState n) e = absurd (omega arith)
driver-five c (OpenDrain n) e = refl

nothing-driven : (d : Option Driver) → is_driver d ≡ false → d ≡ None
unfolding is_driver
nothing-driven (Some d) h = absurd (false≢true (sym h))
nothing-driven None h = refl

driver-other : (c : ℕ) (cell : Cell) → (kind_of cell ≡ 3 → ⊥) → (kind_of cell ≡ 5 → ⊥) → driver_in c cell ≡ None
driver-other c cell x y = nothing-driven _ (driver-kinds c cell ∙ rw (ne_eqb (kind_of cell) 3 x, ne_eqb (kind_of cell) 5 y))

never : (k : Position) (n : Net) → None ≡ Of k n → ⊥
never k n e = let z : ◌≡◌ {A = ℕ} 0 1 = cc in omega arith

driver-net : (c : ℕ) (cell : Cell) (k : Position) (n : Net) → driver_in c cell ≡ Of k n → net_of cell ≡ n.0
unfolding driver_in net_of
driver-net c Internal k n e = absurd (never k n e)
driver-net c (Input m) k n e = absurd (never k n e)
driver-net c (Control on) k n e = absurd (never k n e)
driver-net c (ThreeState j m) k n e = let q : ◌≡◌ {A = Driver} (record { control = j; net = m }) (record { control = k; net = n }) = cc in ap (λ (d : Driver). d.net.0) q
driver-net c (TwoState m) k n e = absurd (never k n e)
driver-net c (OpenDrain m) k n e = let q : ◌≡◌ {A = Driver} (record { control = record { 0 = c }; net = m }) (record { control = k; net = n }) = cc in ap (λ (d : Driver). d.net.0) q

-- what was found is the driver there
pub driver-is : (found at driver : Option Driver) → found ≡ at → found ≡ driver → at ≡ driver
driver-is found at driver e d = sym e ∙ d

module _ (b : Board) (c : ℕ) where
  -- a driver's control cell and net
  pub is-driver : (k : Position) (n : Net) → driver_at b c ≡ Of k n → (controlled b c ≡ true) × (control_for b c ≡ k.0) × (net_of (b.cell c) ≡ n.0)
  unfolding controlled control_for is_driver control_in driver_at
  is-driver k n e = (ap is_driver e, ap control_in e, driver-net c (b.cell c) k n e)

  pub no-driver : driver_at b c ≡ None → controlled b c ≡ false
  unfolding controlled is_driver
  no-driver e = ap is_driver e

  pub no-control : driver_at b c ≡ None → control_for b c ≡ none
  unfolding control_for control_in
  no-control e = ap control_in e

  -- the nets that it is a driver of
  pub driver-on : (k : Position) (n : Net) → driver_at b c ≡ Of k n → (m : ℕ) → driver_of b m c ≡ eqb n.0 m
  unfolding driver_of on_net
  driver-on k n e m = let d = is-driver k n e in rw (d.0, d.2) (and-true (eqb n.0 m))

  pub driver-off : driver_at b c ≡ None → (m : ℕ) → driver_of b m c ≡ false
  unfolding driver_of
  driver-off e m = rw (no-driver e) (and-false (on_net b m c))

  -- by kinds
  pub driver-kind : controlled b c ≡ true → (kind_of (b.cell c) ≡ 3) ⊎ (open_drain b c ≡ true)
  unfolding controlled driver_at open_drain
  driver-kind h = ⊎_map (eqb-true _ _) (λ x. x) (or_cases (eqb (kind_of (b.cell c)) 3) (sym (driver-kinds c (b.cell c)) ∙ h))

  pub four : always_on b c ≡ true → kind_of (b.cell c) ≡ 4
  unfolding always_on
  four h = eqb-true _ _ h

  pub five : open_drain b c ≡ true → kind_of (b.cell c) ≡ 5
  unfolding open_drain
  five h = eqb-true _ _ h

  -- what counts as a control cell is of kind 2, or an open-drain output
  pub control-kind : is_control b c ≡ true → (kind_of (b.cell c) ≡ 2) ⊎ (open_drain b c ≡ true)
  unfolding is_control
  control-kind h = ⊎_map (eqb-true _ _) (λ x. x) (or_cases (eqb (kind_of (b.cell c)) 2) h)

  -- a three-state output is a driver
  pub three-driver : kind_of (b.cell c) ≡ 3 → controlled b c ≡ true
  unfolding controlled driver_at
  three-driver e = driver-kinds c (b.cell c) ∙ or_left _ (eq-eqb _ _ e)

  -- a three-state output has the control cell that it names
  pub three-control : kind_of (b.cell c) ≡ 3 → control_for b c ≡ control_of (b.cell c)
  unfolding control_for driver_at control_in
  three-control e = ap control_in (driver-three c (b.cell c) e)

  -- an open-drain output is a driver, and its own control cell
  pub drain-control : open_drain b c ≡ true → (controlled b c ≡ true) × (control_for b c ≡ c) × (is_control b c ≡ true)
  unfolding controlled control_for driver_at control_in is_control
  drain-control h =
      let e = five h in
      (driver-kinds c (b.cell c) ∙ or_right (eqb (kind_of (b.cell c)) 3) (eq-eqb _ _ e), ap control_in (driver-five c (b.cell c) e), or_right (eqb (kind_of (b.cell c)) 2) h)

  -- an output is never controlled and always on
  pub not-both : always_on b c ≡ true → controlled b c ≡ true → ⊥
  not-both x y = let p = four x in ⊎_elim (λ (q : kind_of (b.cell c) ≡ 3). omega arith) (λ d. let q = five d in omega arith) (driver-kind y)

-- the cells that are outputs, controlled or always on
abbrev pub is_output : Cell → Bool
is_output Internal = false
is_output (Input n) = false
is_output (Control on) = false
is_output (ThreeState k n) = true
is_output (TwoState n) = true
is_output (OpenDrain n) = true

pub output-is : (b : Board) (c : ℕ) (cell : Cell) → b.cell c ≡ cell → (controlled b c || always_on b c) ≡ is_output cell
unfolding controlled always_on driver_at driver_in is_driver kind_of
output-is b c Internal e = rw e
output-is b c (Input n) e = rw e
output-is b c (Control on) e = rw e
output-is b c (ThreeState k n) e = rw e
output-is b c (TwoState n) e = rw e
output-is b c (OpenDrain n) e = rw e

-- where no record is broken, a driver's control cell is one, and an output's net is one of the board
module _ (file : List ℕ) (whole : (p : ℕ) → p < cells_of file → broken_at file p ≡ false) where
  says : (p : ℕ) → p < cells_of file → SaysAt file p ((board_of file).cell p)
  unfolding board_of broken_at
  says p l = record-says file p (whole p l)

  -- a kind of the record at c is the cell's
  kind-at : (c kind : ℕ) → c < cells_of file → kind_of ((board_of file).cell c) ≡ kind → kind_at file c ≡ kind
  kind-at c kind l e = sym (says c l).kind-is ∙ e

  -- the record of a three-state output names the position of a kind 2 cell
  pub kept-three :
      (c : ℕ) → c < (board_of file).size → kind_of ((board_of file).cell c) ≡ 3 →
      (control_for (board_of file) c < (board_of file).size) × (kind_of ((board_of file).cell (control_for (board_of file) c)) ≡ 2)
  unfolding board_of of_kind2
  kept-three c l e =
      let s = says c l in
      let k = kind-at c 3 l e in
      let t : of_kind2 file (control_at file c) ≡ true = s.has-control (rw k) in
      let m = ltb-true _ _ (left (ltb (control_at file c) (cells_of file)) _ t) in
      rw (three-control (board_of file) c e, s.control-is)
      (m, (says (control_at file c) m).kind-is ∙ eqb-true _ _ (right (ltb (control_at file c) (cells_of file)) t))

  pub kept-control :
      (c : ℕ) → c < (board_of file).size → controlled (board_of file) c ≡ true →
      (control_for (board_of file) c < (board_of file).size) × (is_control (board_of file) (control_for (board_of file) c) ≡ true)
  unfolding is_control
  kept-control c l h =
      ⊎_elim
      (λ (e : kind_of ((board_of file).cell c) ≡ 3). let k = kept-three c l e in (k.0, or_left _ (eq-eqb _ _ k.1)))
      (λ (e : open_drain (board_of file) c ≡ true). let d = drain-control (board_of file) c e in rw d.1 (l, d.2))
      (driver-kind (board_of file) c h)

  pub kept-net : (c : ℕ) → c < (board_of file).size → (controlled (board_of file) c || always_on (board_of file) c) ≡ true → net_of ((board_of file).cell c) < (board_of file).nets
  unfolding board_of
  kept-net c l h =
      ⊎_elim
      (λ o. ⊎_elim (connected 3 refl) (λ d. connected 5 refl (five (board_of file) c d)) (driver-kind (board_of file) c o))
      (λ o. connected 4 refl (four (board_of file) c o))
      (or_cases (controlled (board_of file) c) h)
    where
      connected : (kind : ℕ) → connects kind ≡ true → kind_of ((board_of file).cell c) ≡ kind → net_of ((board_of file).cell c) < (board_of file).nets
      connected kind x e = let s = says c l in rw s.net-is (ltb-true _ _ (s.has-net (rw (kind-at c kind l e) x)))

-- what is read off a whole file's record is what its cell drives
module _ (file : List ℕ) (ok : judge (file_checks file) ≡ Accepted) (c : ℕ) (l : c < cells_of file) where
  found : SaysAt file c ((board_of file).cell c)
  found = says file (whole-records file ok) c l

  pub read-three : kind_at file c ≡ 3 → Of (record { 0 = control_at file c }) (record { 0 = net_at file c }) ≡ driver_at (board_of file) c
  unfolding driver_at
  read-three e =
      sym (driver-three c _ (found.kind-is ∙ e) ∙ ap₂ (λ (k n : ℕ). Of (record { 0 = k }) (record { 0 = n })) found.control-is found.net-is)

  pub read-five : kind_at file c ≡ 5 → Of (record { 0 = c }) (record { 0 = net_at file c }) ≡ driver_at (board_of file) c
  unfolding driver_at
  read-five e = sym (driver-five c _ (found.kind-is ∙ e) ∙ ap (λ (n : ℕ). Of (record { 0 = c }) (record { 0 = n })) found.net-is)

  pub read-other : (kind_at file c ≡ 3 → ⊥) → (kind_at file c ≡ 5 → ⊥) → None ≡ driver_at (board_of file) c
  unfolding driver_at
  read-other x y = sym (driver-other c _ (λ e. x (sym found.kind-is ∙ e)) (λ e. y (sym found.kind-is ∙ e)))

-- the same of a whole file, for a driver that was found
module _ (file : List ℕ) (ok : judge (file_checks file) ≡ Accepted) (c : ℕ) (l : c < cells_of file) (k : Position) (n : Net) (e : driver_at (board_of file) c ≡ Of k n) where
  pub net-below : n.0 < nets_of file
  unfolding board_of
  net-below =
      let d = is-driver (board_of file) c k n e in
      rw (← d.2) (kept-net file (whole-records file ok) c l (or_left _ d.0))

  pub control-below : k.0 < cells_of file
  unfolding board_of
  control-below =
      let d = is-driver (board_of file) c k n e in
      rw (← d.1) (kept-control file (whole-records file ok) c l d.0).0
