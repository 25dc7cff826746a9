-- A pass need only look at the highest driver of each control cell. The idea: there the control cell is settled, which is to say marked where
-- the pass could turn it on; its nets have one degree, and what is marked stays so. Thus nothing happens at its lower drivers.
use Prim.Native.Nat.{ℕ, zero, suc, ◌<◌, ◌≤◌}
use mathlib.Core.Path.{◌≡◌, refl, sym, ◌∙◌, ap}
use mathlib.Core.Logic.{⊎_elim}
use mathlib.Core.Bool.{Bool, true, false, cond, not, ◌&&◌, ◌||◌, and-false, true≢false}
use mathlib.Core.List.{List, ◌∷◌}
use native.Mathlib.Nat.{eq-or-lt_of_le}
use native.Mathlib.Omega.{arith}
use borrow.Author.Tests.{eqb-true, eqb-false, eq-eqb}
use lib.Dec.{eqb}
use Rattle.std.proofs.Math.Dec.{eqb-suc-suc, eqb-zero-suc}
use Rattle.std.specs.Prelude.{Option, None, Some, MatchOption}
use Rattle.base.proofs.BoolLaws.{left, right, both, or_left, or_right, below_suc}
use Rattle.rules.specs.File.{Board, board_of, cells_of, net_of}
use Rattle.rules.specs.Drivers.{driver_at, controlled, control_for, meets, Of}
use Rattle.rules.specs.Groups.{marked, turn, pass}
use Rattle.rules.specs.declared.Net.{Net}
use Rattle.rules.specs.declared.Position.{Position}
use Rattle.rules.proofs.PassLaws.{open_at}
use Rattle.rules.proofs.Selection.{Sound, degrees-equal}
use Rattle.rules.proofs.NetSetLaws.{driver-own}
use Rattle.rules.proofs.DriverLaws.{is-driver, no-driver, control-below}
use Rattle.chains.specs.Table.{ControlCell, entry_of, head_in}
use Rattle.chains.specs.Chains.{last, keyed, Chains}
use Rattle.chains.proofs.Chaining.{last-le, last-member, keyed-control}
use Rattle.chains.proofs.Walks.{cell-fits}
use Rattle.select.specs.Turns.{wanted_in}
use Rattle.select.specs.Highest.{highest, highest_drivers, pass_over}

-- the last number that passes is none below another that does
last-above : (n : ℕ) (p : ℕ → Bool) (c : ℕ) → c < n → p c ≡ true → c < last n p
unfolding last
last-above zero p c l h = absurd (omega arith)
last-above (suc n) p c l h = go (p n) refl (last-above n p c)
  where
    go : (a : Bool) → p n ≡ a → (c < n → p c ≡ true → c < last n p) → c < cond a (suc n) (last n p)
    go true e r = l
    go false e r =
        ⊎_elim
        (λ (q : c ≡ n). absurd (true≢false (sym h ∙ ap p q ∙ e)))
        (λ (q : c < n). r q h)
        (below_suc l)

-- a driver that is not the highest of its control cell has one above it
driver-above : (b : Board) (c : ℕ) → c < b.size → controlled b c ≡ true → highest b c ≡ false → (d : ℕ) × (c < d) × (d < b.size) × (controlled b d ≡ true) × (control_for b d ≡ control_for b c)
unfolding highest
driver-above b c l x h = go (last b.size p) refl
  where
    p : ℕ → Bool
    p = keyed b ControlCell (control_for b c)

    above : c < last b.size p
    above = last-above b.size p c l (keyed-control b (control_for b c) c ∙ both x (eq-eqb (control_for b c) (control_for b c) refl))

    other : last b.size p ≡ suc c → ⊥
    other = eqb-false (last b.size p) (suc c) (sym (ap (λ (t : Bool). t && eqb (last b.size p) (suc c)) x) ∙ h)

    go : (m : ℕ) → last b.size p ≡ m → (d : ℕ) × (c < d) × (d < b.size) × (controlled b d ≡ true) × (control_for b d ≡ control_for b c)
    go zero e = absurd (omega (arith, above))
    go (suc d) e =
        let key = sym (keyed-control b (control_for b c) d) ∙ last-member b.size p d e in
        let higher : c < d = ⊎_elim (λ (q : c ≡ d). absurd (other (e ∙ ap suc (sym q)))) (λ q. q) (below_suc (rw e at above)) in
        (d, higher, omega (arith, last-le b.size p), left (controlled b d) _ key, eqb-true _ _ (right (controlled b d) key))

module _ (b : Board) (s : Sound b) (wanted allowed : ℕ → Bool) where
  -- where the pass may turn a control cell on
  abbrev opens : ℕ → Bool
  opens c = open_at b (wanted_in b wanted) allowed c

  abbrev after : ℕ → List ℕ → List ℕ
  after c on = turn b (wanted_in b wanted) allowed c on

  -- the pass over the positions of a list, and over those below c
  abbrev over : List ℕ → List ℕ → List ℕ
  over cs on = pass_over b (wanted_in b wanted) allowed cs on

  abbrev whole : ℕ → List ℕ → List ℕ
  whole c on = pass b (wanted_in b wanted) allowed c on

  -- each control cell that the pass could turn on at c or above is marked
  abbrev pub Settled : ℕ → List ℕ → Type 0
  Settled c on = (d : ℕ) → c ≤ d → d < b.size → opens d ≡ true → marked b on (control_for b d) ≡ true

  -- drivers of one control cell are open alike
  open-alike : (c d : ℕ) → c < b.size → d < b.size → controlled b d ≡ true → control_for b d ≡ control_for b c → opens c ≡ true → opens d ≡ true
  unfolding wanted_in
  open-alike c d l m x e o =
      let cw = left (controlled b c && wanted_in b wanted (net_of (b.cell c))) _ o in
      let is = left (controlled b c) _ cw in
      let own = s.checked.own-control c l is in
      let d-net = s.checked.own-net d m (or_left _ x) in
      let c-net = s.checked.own-net c l (or_left _ is) in
      let same = degrees-equal b s (control_for b c) _ _ (record { on-board = own.0; controlling = own.1 }) d-net c-net (rw e at (driver-own b d m x)) (driver-own b c l is) in
      both (both x (ap (wanted) same ∙ right (controlled b c) cw)) (ap allowed e ∙ right (controlled b c && wanted_in b wanted (net_of (b.cell c))) o)

  -- a position leaves marked what is marked, and its own control cell, where open
  turn-keeps : (c : ℕ) (on : List ℕ) (k : ℕ) → marked b on k ≡ true → marked b (after c on) k ≡ true
  unfolding turn marked
  turn-keeps c on k h = go (opens c && not (marked b on (control_for b c)))
    where
      go : (a : Bool) → marked b (cond a (control_for b c ∷ on) on) k ≡ true
      go true = or_right (eqb (control_for b c) k || meets b (control_for b c) k) h
      go false = h

  turn-marks : (c : ℕ) (on : List ℕ) → opens c ≡ true → marked b (after c on) (control_for b c) ≡ true
  unfolding turn marked
  turn-marks c on o = go (marked b on (control_for b c)) refl
    where
      go : (a : Bool) → marked b on (control_for b c) ≡ a → marked b (after c on) (control_for b c) ≡ true
      go true e = rw (e, o) e
      go false e = rw (e, o) (or_left _ (or_left _ (eq-eqb (control_for b c) (control_for b c) refl)))

  settled-next : (c : ℕ) (on : List ℕ) → Settled (suc c) on → Settled c (after c on)
  settled-next c on h d l m o =
      ⊎_elim
      (λ (e : c ≡ d). ap (λ (x : ℕ). marked b (after c on) (control_for b x)) (sym e) ∙ turn-marks c on (ap opens e ∙ o))
      (λ (e : c < d). turn-keeps c on (control_for b d) (h d e m o))
      (eq-or-lt_of_le l)

  -- nothing happens where a higher driver has settled the control cell
  turn-idle : (c : ℕ) (on : List ℕ) → c < b.size → highest b c ≡ false → Settled (suc c) on → on ≡ after c on
  unfolding turn
  turn-idle c on l h settled = go (opens c) refl
    where
      go : (a : Bool) → opens c ≡ a → on ≡ cond (opens c && not (marked b on (control_for b c))) (control_for b c ∷ on) on
      go false e = rw e
      go true e =
          let d = driver-above b c l (left (controlled b c) _ (left (controlled b c && wanted_in b wanted (net_of (b.cell c))) _ e)) h in
          let m = settled d.0 d.1 d.2 (open-alike c d.0 l d.2 d.3 d.4 e) in
          rw (ap (marked b on) (sym d.4) ∙ m, and-false (opens c))

  -- so the pass over the highest drivers is the pass
  pub pass-highest : (c : ℕ) (on : List ℕ) → c ≤ b.size → Settled c on → over (highest_drivers b c) on ≡ whole c on
  unfolding pass pass_over highest_drivers
  pass-highest zero on l h = refl
  pass-highest (suc c) on l h = go (highest b c) refl (pass-highest c (after c on) (omega arith) (settled-next c on h))
    where
      go : (a : Bool) → highest b c ≡ a → over (highest_drivers b c) (after c on) ≡ whole c (after c on)
          → over (cond (highest b c) (c ∷ highest_drivers b c) (highest_drivers b c)) on ≡ whole c (after c on)
      go true e r = rw e r
      go false e r = rw e (ap (over (highest_drivers b c)) (turn-idle c on l e h) ∙ r)

  -- from the highest position on nothing has to be settled
  pub settled-none : (on : List ℕ) → Settled b.size on
  settled-none on d l m o = absurd (omega arith)

-- what a position is tells whether it is a highest driver, and for a driver its control cell's head
pub highest-none : (b : Board) (c : ℕ) → driver_at b c ≡ None → false ≡ highest b c
unfolding highest
highest-none b c e = rw (no-driver b c e)

-- the test of the head that was found is the test of its entry
head-tested : (top : Option Position) (entry c : ℕ) (r : Bool) → entry_of top ≡ entry → MatchOption top (r ≡ false) (λ p. r ≡ eqb p.0 c) → r ≡ eqb entry (suc c)
head-tested None entry c r e f = rw (← e, eqb-zero-suc) f
head-tested (Some p) entry c r e f = rw (← e, eqb-suc-suc) f

module _ (file t : List ℕ) (chains : Chains file ControlCell t) (c : ℕ) (l : c < cells_of file) (k : Position) (n : Net) (e : driver_at (board_of file) c ≡ Of k n) where
  pub highest-told : (top : Option Position) → entry_of top ≡ head_in ControlCell t k.0 → (r : Bool) → MatchOption top (r ≡ false) (λ p. r ≡ eqb p.0 c) → r ≡ highest (board_of file) c
  unfolding highest board_of
  highest-told top w r h =
      let d = is-driver (board_of file) c k n e in
      let own = cell-fits file chains.checked k.0 (control-below file chains.checked c l k n e) in
      rw (d.0, d.1) (head-tested top _ c r (w ∙ chains.linked.head k.0 own) h)
