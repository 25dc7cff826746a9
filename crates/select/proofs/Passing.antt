-- Laws of one position of a pass and of a group, over the sets that hold what is on.
use Prim.Native.Nat.{ℕ, zero, suc, ◌-◌, ◌*◌, ◌<◌, ◌≤◌}
use mathlib.Core.Path.{◌≡◌, refl, sym, ◌∙◌, ap, subst, fun_ext}
use mathlib.Core.Bool.{Bool, true, false, cond, not, ◌&&◌}
use mathlib.Core.List.{List, [], ◌∷◌}
use native.Mathlib.Numerals.{sub-one}
use native.Mathlib.Omega.{arith}
use lib.Dec.{ltb, leb}
use Rattle.base.specs.Lists.{has}
use Rattle.base.proofs.ListLaws.{has-append}
use Rattle.std.specs.Prelude.{None, Option, Some}
use Rattle.rules.specs.File.{Board, board_of, cells_of, nets_of, net_of}
use Rattle.rules.specs.Drivers.{driver_at, controlled, drives}
use Rattle.rules.specs.Groups.{marked, turn, pass, first_pass, second_pass, selected, earlier, group, on_in}
use Rattle.rules.specs.declared.Position.{Position}
use Rattle.rules.specs.declared.Driver.{Driver}
use Rattle.rules.proofs.Shape.{laid, shaped}
use Rattle.rules.proofs.DriverLaws.{is-driver, no-driver, net-below}
use Rattle.words.specs.Sets.{net_words, nothing, either, plus, meets_in}
use Rattle.cells.specs.Whole.{Whole}
use Rattle.chains.specs.Table.{count_in}
use Rattle.chains.proofs.Brought.{known-net}
use Rattle.chains.proofs.SharingLaws.{control-fits}
use Rattle.select.specs.Turns.{Tells, wanted_in, stopping, stop_by, turn_to, covered_by, reached, joined, listed, Turned, Holds, Ready}
use Rattle.select.proofs.Largest.{degree-held}
use Rattle.select.proofs.Marking.{covered-marked, marked-reached}

-- one cell more is on
pub on-grown : (f g : ℕ → Bool) (on : List ℕ) (k : ℕ) → f ≡ listed on → g ≡ plus f k → g ≡ listed (k ∷ on)
unfolding has
on-grown f g on k e h = rw (h, e) refl

-- and its nets are covered
pub covered-grown : (b : Board) (nets f g : ℕ → Bool) (on : List ℕ) (k : ℕ) → nets ≡ drives b k → f ≡ covered_by b on → g ≡ either nets f → g ≡ covered_by b (k ∷ on)
unfolding covered_by
covered-grown b nets f g on k n e h = rw (h, n, e) refl

-- its nets decide whether it joins
module _ (b : Board) (nets f : ℕ → Bool) (on : List ℕ) (k : ℕ) (r : Bool) (n : nets ≡ drives b k) (e : f ≡ covered_by b on) (h : r ≡ meets_in (64 * net_words) nets f) where
  told : (a : Bool) → r ≡ a → reached b on k ≡ a
  unfolding reached
  told a t = cc

  pub not-joined : r ≡ true → on ≡ joined b on k
  unfolding joined
  not-joined t = rw (told true t)

  pub joins : r ≡ false → (k ∷ on) ≡ joined b on k
  unfolding joined
  joins t = rw (told false t)

-- sets that hold one list hold the same list under another name
pub holds_same : {b : Board} {turned : Turned} {on now : List ℕ} → on ≡ now → Holds b on turned → Holds b now turned
holds_same {b} {turned} e h = subst (λ (l : List ℕ). Holds b l turned) e h

cond-not : {A : Type 0} (x y : A) (r : Bool) → cond (not r) x y ≡ cond r y x
cond-not x y true = refl
cond-not x y false = refl

-- what one position does is what the pass does where it stops
stops : (b : Board) (d : Driver) (at : Bool) (on : List ℕ) → turn_to b (cond at (Some d) None) on ≡ cond (at && not (marked b on d.control.0)) (d.control.0 ∷ on) on
unfolding turn_to
stops b d true on = sym (cond-not (d.control.0 ∷ on) on (marked b on d.control.0))
stops b d false on = refl

module _ (b : Board) (wanted allowed : ℕ → Bool) (c : ℕ) (on : List ℕ) where
  turn_by : (driver : Option Driver) → driver_at b c ≡ driver → turn_to b (stopping wanted allowed driver) on ≡ turn b wanted allowed c on
  unfolding turn stopping turn_to
  turn_by None e = rw (no-driver b c e)
  turn_by (Some d) e =
      let is = is-driver b c d.control d.net e in
      rw (is.0, is.1, is.2) (stops b d (wanted d.net.0 && allowed d.control.0) on)

  -- where it stops at this driver, or at none
  pub turn_is : (driver : Option Driver) → driver ≡ stopping wanted allowed (driver_at b c) → turn_to b driver on ≡ turn b wanted allowed c on
  turn_is driver e = ap (λ (d : Option Driver). turn_to b d on) e ∙ turn_by (driver_at b c) refl

-- what the pass does there
module _ (b : Board) (on : List ℕ) where
  pub to-nothing : on ≡ turn_to b None on
  unfolding turn_to
  to-nothing = refl

  module _ (d : Driver) where
    pub to-marked : marked b on d.control.0 ≡ true → on ≡ turn_to b (Some d) on
    unfolding turn_to
    to-marked m = rw m

    pub to-joined : marked b on d.control.0 ≡ reached b on d.control.0 → joined b on d.control.0 ≡ turn_to b (Some d) on
    unfolding turn_to joined
    to-joined m = rw m

-- where no driver stands the pass does not stop
pub stop-none : (wanted allowed : ℕ → Bool) (at : Option Driver) → None ≡ at → None ≡ stopping wanted allowed at
unfolding stopping
stop-none wanted allowed at e = rw (← e)

-- a cell of a ready table's file
pub whole_at : {file t : List ℕ} {c : ℕ} → Ready file t → c < cells_of file → Whole file c
whole_at ready l = record { checked = ready.by-control.checked; below = l }

-- what the table and the sets say of a driver of an accepted board
module _ (file t : List ℕ) (ready : Ready file t) (c : ℕ) (l : c < cells_of file) (d : Driver) (e : driver_at (board_of file) c ≡ Some d) where
  -- the pass's test tells whether it stops there
  pub stop-told :
      (wanted allowed : ℕ → Bool) (gives : ℕ → Position → Bool → Type 0) → Tells gives wanted allowed →
      (held : ℕ) (r a : Bool) → held ≡ count_in t d.net.0 → gives held d.control r → r ≡ a → cond a (Some d) None ≡ stop_by (board_of file) wanted allowed c
  unfolding stopping wanted_in
  stop-told wanted allowed gives tells held r a h w is =
      let own = degree-held file t ready d.net.0 (net-below file ready.by-control.checked c l d.control d.net e) in
      let fits = control-fits file c (whole_at ready l) d.control d.net e in
      rw (e, ← own, ← h, ← tells held d.control r fits w, is)

  -- its nets are below 256, so whether its control cell is marked is told by its nets
  known : (x : ℕ) → x < cells_of file → controlled (board_of file) x ≡ true → net_of ((board_of file).cell x) < nets_of file
  known = known-net file ready.by-control.checked

  nets-bounded : nets_of file ≤ 64 * net_words
  nets-bounded = let f = (laid file (shaped file ready.by-control.checked)).nets.at_most in omega arith

  pub marked-told : (on : List ℕ) (f : ℕ → Bool) (r : Bool) → f ≡ covered_by (board_of file) on → r ≡ f d.net.0 → r ≡ true → marked (board_of file) on d.control.0 ≡ true
  unfolding board_of
  marked-told on f r h w told-true =
      let is = is-driver (board_of file) c d.control d.net e in
      let m = covered-marked (board_of file) nets-bounded known on c l is.0 (cc) in
      ap (marked (board_of file) on) (sym is.1) ∙ m

  pub reached-told : (on : List ℕ) → marked (board_of file) on d.control.0 ≡ reached (board_of file) on d.control.0
  unfolding board_of
  reached-told on =
      let is = is-driver (board_of file) c d.control d.net e in
      rw is.1 at (marked-reached (board_of file) nets-bounded known on c l is.0)

-- a group at its start, and at its end
pub holds-none : (b : Board) (turned : Turned) → turned.on ≡ nothing → turned.covered ≡ nothing → Holds b [] turned
unfolding has covered_by
holds-none b turned e f = record { on-are = e; covered-are = f }

-- the second pass after the first, where f are the earlier groups' control cells
abbrev passes : Board → ℕ → (ℕ → Bool) → ℕ → List ℕ
passes b g f size = pass b (wanted_in b (λ d. ltb d g)) (λ k. true) size (pass b (wanted_in b (λ d. leb g d)) (λ k. not (f k)) size [])

pub selected-is : (b : Board) (g : ℕ) (used : List ℕ) (f : ℕ → Bool) (size : ℕ) (turned : Turned) → f ≡ listed used → size ≡ b.size
    → Holds b (passes b g f size) turned → turned.on ≡ listed (selected b g used)
unfolding selected first_pass second_pass wanted_in
selected-is b g used f size turned e s h =
    h.on-are ∙ rw (s, e) refl

-- group by group: no earlier group, one more of them, and the group itself
pub earlier-none : (b : Board) (f : ℕ → Bool) → f ≡ nothing → f ≡ listed (earlier b 0)
unfolding has earlier
earlier-none b f e = e

pub earlier_more : (b : Board) (j : ℕ) (on f g : ℕ → Bool) → 0 < j → on ≡ listed (selected b j (earlier b (j - 1))) → f ≡ listed (earlier b (j - 1)) → g ≡ either on f → g ≡ listed (earlier b j)
unfolding earlier
earlier_more b zero on f g l s e h = absurd (omega arith)
earlier_more b (suc j) on f g l s e h =
    rw (h, rw sub-one at s, rw sub-one at e) (fun_ext (λ m. sym (has-append m (selected b (suc j) (earlier b j)) (earlier b j))))

pub group-is : (b : Board) (g : ℕ) (on : ℕ → Bool) → 0 < g → on ≡ listed (selected b g (earlier b (g - 1))) → on ≡ on_in b g
unfolding on_in group
group-is b zero on l e = absurd (omega arith)
group-is b (suc j) on l e = rw sub-one at e

-- the board has as many cells as the file says
pub board-size : (file : List ℕ) (cells : ℕ) → cells ≡ cells_of file → cells ≡ (board_of file).size
unfolding board_of
board-size file cells e = e
