-- Refusal 8 by one walk along a net's outputs, from the highest down: one that is always on clashes with every other, and two of one control
-- cell clash; where neither is met, none do.
use Prim.Native.Nat.{ℕ, suc, ◌-◌, ◌<◌, ◌≤◌}
use mathlib.Core.Path.{◌≡◌, refl, sym, ◌∙◌, ap}
use mathlib.Core.Logic.{◌⊎◌, inl, inr, ⊎_elim}
use mathlib.Core.Bool.{Bool, true, false, not, ◌&&◌, ◌||◌}
use mathlib.Core.List.{List}
use native.Mathlib.Omega.{arith}
use borrow.Author.Tests.{eqb-true, eqb-false, eq-eqb, ne_eqb}
use lib.Dec.{eqb}
use Rattle.base.proofs.BoolLaws.{decided, left, right, both, or_left, or_right, or_cases, not-fails, fails-not, fails-if, clashes, order}
use Rattle.base.proofs.TestLaws.{any_at, none_any}
use Rattle.std.specs.Prelude.{Option, Some, None}
use Rattle.rules.specs.File.{Board, board_of, cells_of}
use Rattle.rules.specs.Drivers.{driver_at, controlled, control_for, always_on, on_net, output_of, Of}
use Rattle.rules.specs.Refusals.{clash, clashing}
use Rattle.rules.specs.declared.Position.{Position}
use Rattle.rules.specs.declared.Net.{Net}
use Rattle.rules.proofs.NetSetLaws.{kinds-differ}
use Rattle.rules.proofs.DriverLaws.{is-driver, no-driver}
use Rattle.words.specs.Sets.{plus}
use Rattle.chains.specs.Table.{NetOf, room, entry_of, head_in, link_in}
use Rattle.chains.specs.Chains.{last, keyed, Chains}
use Rattle.chains.proofs.Chaining.{last-le, last-member, last-above, last-again, keyed-net}
use Rattle.nets.specs.Nets.{Alone, Several}

-- the walk has come down to `at`: what is passed are drivers of control cells that are met, each of another
pub record Met (b : Board) (n at : ℕ) (met : ℕ → Bool) : Type 0 where
  pub top : last at (keyed b NetOf n) ≡ at
  pub under : at ≤ b.size
  pub drivers : (c : ℕ) → at ≤ c → c < b.size → output_of b n c ≡ true → (controlled b c ≡ true) × (met (control_for b c) ≡ true)
  pub bringers : (k : ℕ) → met k ≡ true → (c : ℕ) × (at ≤ c) × (c < b.size) × (output_of b n c ≡ true) × (controlled b c ≡ true) × (control_for b c ≡ k)
  pub apart : (c d : ℕ) → at ≤ d → d < c → c < b.size → output_of b n c ≡ true → output_of b n d ≡ true → control_for b c ≡ control_for b d → ⊥

-- why two outputs c and d of a net clash: the first is always on, or both are drivers of one control cell
abbrev Why : Board → ℕ → ℕ → Type 0
Why b c d = (always_on b c ≡ true) ⊎ ((controlled b c ≡ true) × (controlled b d ≡ true) × (control_for b c ≡ control_for b d))

record Clash (b : Board) (n c d : ℕ) : Type 0 where
  two : c ≡ d → ⊥
  first : output_of b n c ≡ true
  second : output_of b n d ≡ true
  why : Why b c d

module _ (b : Board) (n : ℕ) where
  -- what the walk passes from a head or link on: no output lies between
  none_between : (from c : ℕ) → last from (keyed b NetOf n) ≤ c → c < from → output_of b n c ≡ true → ⊥
  none_between from c l m o = clashes (keyed-net b n c ∙ o) (last-above from (keyed b NetOf n) c l m)

  -- an output that is no controlled driver is always on
  on-else : (c : ℕ) → output_of b n c ≡ true → driver_at b c ≡ None → always_on b c ≡ true
  unfolding output_of
  on-else c o e =
      ⊎_elim (λ k. absurd (clashes k (no-driver b c e))) (λ a. a) (or_cases (controlled b c) (right (on_net b n c) o))

  -- two outputs that clash
  clash-at : (c d : ℕ) → c < b.size → d < b.size → Clash b n c d → true ≡ clashing b n
  unfolding clashing clash
  clash-at c d l m k = sym (any_at _ _ l (any_at _ _ m (both (both (both (not-fails (ne_eqb c d k.two)) k.first) k.second) (cause k.why))))
    where
      cause : Why b c d → (always_on b c || (controlled b c && controlled b d && eqb (control_for b c) (control_for b d))) ≡ true
      cause (inl a) = or_left _ a
      cause (inr s) = or_right (always_on b c) (both (both s.0 s.1) (eq-eqb _ _ s.2))

  -- no two clash
  no-clash : ((c d : ℕ) → c < b.size → d < b.size → Clash b n c d → ⊥) → clashing b n ≡ false
  unfolding clashing clash
  no-clash none = none_any _ _ (λ c l. none_any _ _ (λ d m. fails-if _ (λ t. none c d l m (parts c d t))))
    where
      cause : (c d : ℕ) → (always_on b c || (controlled b c && controlled b d && eqb (control_for b c) (control_for b d))) ≡ true → Why b c d
      cause c d t =
          ⊎_elim
          (λ (a : always_on b c ≡ true). inl a)
          (λ (k : (controlled b c && controlled b d && eqb (control_for b c) (control_for b d)) ≡ true).
          let two = left (controlled b c && controlled b d) _ k in
          inr (left (controlled b c) _ two, right (controlled b c) two, eqb-true _ _ (right (controlled b c && controlled b d) k)))
          (or_cases (always_on b c) t)

      parts : (c d : ℕ) → clash b n c d ≡ true → Clash b n c d
      parts c d t =
          let t3 = left (not (eqb c d) && output_of b n c && output_of b n d) _ t in
          let t2 = left (not (eqb c d) && output_of b n c) _ t3 in
          record {
            two = eqb-false c d (fails-not _ (left (not (eqb c d)) _ t2));
            first = right (not (eqb c d)) t2;
            second = right (not (eqb c d) && output_of b n c) t3;
            why = cause c d (right (not (eqb c d) && output_of b n c && output_of b n d) t);
          }

  pub always-clashes : (c : ℕ) → Several b n → c < b.size → output_of b n c ≡ true → driver_at b c ≡ None → true ≡ clashing b n
  always-clashes c several l o e =
      let d = several.another c in
      clash-at c d.0 l d.1 (record { two = d.3; first = o; second = d.2; why = inl (on-else c o e) })

  -- nothing is met yet
  met-none : (met : ℕ → Bool) → ((k : ℕ) → met k ≡ false) → Met b n (last b.size (keyed b NetOf n)) met
  met-none met none =
      record {
        top = last-again b.size (keyed b NetOf n);
        under = last-le b.size (keyed b NetOf n);
        drivers = λ c l m o. absurd (none_between b.size c l m o);
        bringers = λ k t. absurd (clashes t (none k));
        apart = λ c d l m h o u e. none_between b.size d l (omega arith) u;
      }

  module _ (cell : ℕ) (met : ℕ → Bool) (w : Met b n (suc cell) met) where
    met-on : output_of b n cell ≡ true
    met-on = sym (keyed-net b n cell) ∙ last-member _ (keyed b NetOf n) cell w.top

    module _ (k : Position) (m : Net) (e : driver_at b cell ≡ Of k m) where
      own : control_for b cell ≡ k.0
      own = (is-driver b cell k m e).1

      -- its control cell is met again
      again-clashes : met k.0 ≡ true → true ≡ clashing b n
      again-clashes t =
          let c = w.bringers k.0 t in
          let u = w.under in
          let up = c.1 in
          clash-at c.0 cell c.2 (omega arith)
          (record {
            two = λ q. omega arith;
            first = c.3;
            second = met-on;
            why = inr (c.4, (is-driver b cell k m e).0, c.5 ∙ sym own);
          })

      -- or it is new
      met_next : (more : ℕ → Bool) → met k.0 ≡ false → more ≡ plus met k.0 → Met b n (last cell (keyed b NetOf n)) more
      met_next more new grown =
          let v = last-le cell (keyed b NetOf n) in
          let u = w.under in
          record {
            top = last-again cell (keyed b NetOf n);
            under = omega arith;
            drivers = drivers-are;
            bringers = bringers-are;
            apart = apart-are;
          }
        where
          more-at : (j : ℕ) → more j ≡ (eqb j k.0 || met j)
          more-at j = ap (λ (f : ℕ → Bool). f j) grown

          -- what is passed is the cell itself or above it
          passed : {A : Type 0} (c : ℕ) → last cell (keyed b NetOf n) ≤ c → output_of b n c ≡ true → (c ≡ cell → A) → (suc cell ≤ c → A) → A
          passed c l o here there =
              ⊎_elim
              (λ (q : c < cell). absurd (none_between cell c l q o))
              (λ (q : cell ≤ c). ⊎_elim (λ (r : c < suc cell). here (omega arith)) (λ (r : suc cell ≤ c). there r) (order c (suc cell)))
              (order c cell)

          drivers-are : (c : ℕ) → last cell (keyed b NetOf n) ≤ c → c < b.size → output_of b n c ≡ true → (controlled b c ≡ true) × (more (control_for b c) ≡ true)
          drivers-are c l m o =
              passed c l o
              (λ (q : c ≡ cell). rw q ((is-driver b cell k _ e).0, more-at (control_for b cell) ∙ or_left _ (eq-eqb _ _ own)))
              (λ (q : suc cell ≤ c). let d = w.drivers c q m o in (d.0, more-at (control_for b c) ∙ or_right (eqb (control_for b c) k.0) d.1))

          bringers-are : (j : ℕ) → more j ≡ true
              → (c : ℕ) × (last cell (keyed b NetOf n) ≤ c) × (c < b.size) × (output_of b n c ≡ true) × (controlled b c ≡ true) × (control_for b c ≡ j)
          bringers-are j t =
              let v = last-le cell (keyed b NetOf n) in
              let u = w.under in
              ⊎_elim
              (λ (q : eqb j k.0 ≡ true). (cell, v, omega arith, met-on, (is-driver b cell k _ e).0, own ∙ sym (eqb-true j k.0 q)))
              (λ (q : met j ≡ true). let c = w.bringers j q in let h = c.1 in (c.0, omega arith, c.2, c.3, c.4, c.5))
              (or_cases (eqb j k.0) (sym (more-at j) ∙ t))

          apart-are : (c d : ℕ) → last cell (keyed b NetOf n) ≤ d → d < c → c < b.size → output_of b n c ≡ true → output_of b n d ≡ true
              → control_for b c ≡ control_for b d → ⊥
          apart-are c d l m h o u q =
              passed d l u
              (λ (r : d ≡ cell). clashes (ap met (sym (q ∙ ap (control_for b) r ∙ own)) ∙ (w.drivers c (omega arith) h o).1) new)
              (λ (r : suc cell ≤ d). w.apart c d r m h o u q)

  -- all are passed
  met-ended : (met : ℕ → Bool) → Met b n 0 met → clashing b n ≡ false
  met-ended met w = no-clash pair
    where
      pair : (c d : ℕ) → c < b.size → d < b.size → Clash b n c d → ⊥
      pair c d l m k = go k.why
        where
          go : Why b c d → ⊥
          go (inl a) = kinds-differ b c c a (w.drivers c (omega arith) l k.first).0 refl
          go (inr s) =
              ⊎_elim
              (λ (q : c < d). w.apart d c (omega arith) q m k.second k.first (sym s.2))
              (λ (q : d ≤ c). ⊎_elim (λ (r : d < c). w.apart c d (omega arith) r l k.first k.second s.2) (λ (r : c ≤ d). k.two (omega arith)) (order d c))
              (order c d)

  pub alone-clear : Alone b n → false ≡ clashing b n
  alone-clear a = sym (no-clash (λ c d l m k. k.two (a.only c d l m k.first k.second)))

pub meeting-under : (file : List ℕ) (n at : ℕ) (met : ℕ → Bool) → Met (board_of file) n at met → at ≤ cells_of file
unfolding board_of
meeting-under file n at met w = w.under

-- over the chain of a net of a whole file
module _ (file t : List ℕ) (chains : Chains file NetOf t) (n : ℕ) where
  abbrev pub Meeting : ℕ → (ℕ → Bool) → Type 0
  Meeting at met = Met (board_of file) n at met

  pub meeting-start : n < room NetOf → (at : ℕ) → at ≡ head_in NetOf t n → (met : ℕ → Bool) → ((k : ℕ) → met k ≡ false) → Meeting at met
  unfolding board_of
  meeting-start l at e met none = rw (e, chains.linked.head n l) (met-none (board_of file) n met none)

  -- the step's cell, which `at` names, is an output of the net
  pub meeting-on : (at : Option Position) (cell : Position) (met : ℕ → Bool) → Meeting (entry_of at) met → at ≡ Some cell → output_of (board_of file) n cell.0 ≡ true
  meeting-on at cell met w named = met-on (board_of file) n cell.0 met (rw named at w)

  pub meeting-again : (at : Option Position) (cell : Position) (met : ℕ → Bool) → Meeting (entry_of at) met → at ≡ Some cell
      → (k : Position) (m : Net) → driver_at (board_of file) cell.0 ≡ Of k m → met k.0 ≡ true → true ≡ clashing (board_of file) n
  meeting-again at cell met w named k m d t = again-clashes (board_of file) n cell.0 met (rw named at w) k m d t

  pub meeting-next : (at : Option Position) (cell : Position) (next : Option Position) (met more : ℕ → Bool) → Meeting (entry_of at) met → at ≡ Some cell
      → (k : Position) (m : Net) → driver_at (board_of file) cell.0 ≡ Of k m → met k.0 ≡ false → more ≡ plus met k.0
      → entry_of next ≡ link_in NetOf t cell.0 → Meeting (entry_of next) more
  unfolding board_of
  meeting-next at cell next met more w named k m d new grown e =
      let now : Meeting (suc cell.0) met = rw named at w in
      let u = now.under in
      let on = keyed-net (board_of file) n cell.0 ∙ met-on (board_of file) n cell.0 met now in
      rw (e, chains.linked.link cell.0 n (omega arith) on) (met_next (board_of file) n cell.0 met now k m d more new grown)

  pub meeting-ended : (at : Option Position) (met : ℕ → Bool) → Meeting (entry_of at) met → at ≡ None → false ≡ clashing (board_of file) n
  meeting-ended at met w ended = sym (met-ended (board_of file) n met (rw ended at w))

  -- no head, or no link of the head: one output at most; else beside each there is another
  pub none-alone : n < room NetOf → head_in NetOf t n ≡ 0 → Alone (board_of file) n
  unfolding board_of
  none-alone l z = record { only = λ c d lc ld o u. absurd (none_between (board_of file) n (cells_of file) c (let h = chains.linked.head n l in omega arith) lc o) }

  module _ (l : n < room NetOf) (cell : ℕ) (e : suc cell ≡ head_in NetOf t n) where
    top : last (cells_of file) (keyed (board_of file) NetOf n) ≡ suc cell
    top = sym (e ∙ chains.linked.head n l)

    pub head-below : (cell < cells_of file) × (output_of (board_of file) n cell ≡ true)
    unfolding board_of
    head-below =
        let u = last-le (cells_of file) (keyed (board_of file) NetOf n) in
        let p = top in
        (omega arith, sym (keyed-net (board_of file) n cell) ∙ last-member (cells_of file) (keyed (board_of file) NetOf n) cell top)

    second : link_in NetOf t cell ≡ last cell (keyed (board_of file) NetOf n)
    second = chains.linked.link cell n head-below.0 (keyed-net (board_of file) n cell ∙ head-below.1)

    pub one-alone : link_in NetOf t cell ≡ 0 → Alone (board_of file) n
    unfolding board_of
    one-alone z = record { only = λ c d lc ld o u. is c lc o ∙ sym (is d ld u) }
      where
        is : (c : ℕ) → c < cells_of file → output_of (board_of file) n c ≡ true → c ≡ cell
        is c lc o =
            let p = top in
            let s = second in
            ⊎_elim
            (λ (q : c < cell). absurd (none_between (board_of file) n cell c (omega arith) q o))
            (λ (q : cell ≤ c). ⊎_elim (λ (r : cell < c). absurd (none_between (board_of file) n (cells_of file) c (omega arith) lc o)) (λ (r : c ≤ cell). omega arith) (order cell c))
            (order c cell)

    pub more-several : (link_in NetOf t cell ≡ 0 → ⊥) → Several (board_of file) n
    unfolding board_of
    more-several z = record { another = other }
      where
        lower : ℕ
        lower = link_in NetOf t cell - 1

        other : (c : ℕ) → (d : ℕ) × (d < cells_of file) × (output_of (board_of file) n d ≡ true) × (c ≡ d → ⊥)
        other c =
            let s = second in
            let v = last-le cell (keyed (board_of file) NetOf n) in
            let h = head-below.0 in
            let on = sym (keyed-net (board_of file) n (link_in NetOf t cell - 1)) ∙ last-member cell (keyed (board_of file) NetOf n) (link_in NetOf t cell - 1) (sym s ∙ (omega arith)) in
            ⊎_elim
            (λ (q : eqb c cell ≡ true). let r = eqb-true c cell q in (link_in NetOf t cell - 1, omega arith, on, λ (y : c ≡ link_in NetOf t cell - 1). omega arith))
            (λ (q : eqb c cell ≡ false). (cell, h, head-below.1, λ y. eqb-false c cell q y))
            (decided (eqb c cell))
