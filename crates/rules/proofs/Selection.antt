-- How the two passes select: each group covers every net that has control cells, and turns on no control cell again before its nets' others
-- have had their turn. The idea: before group g each net of degree g or more has degree - (g - 1) control
-- cells that were on in no earlier group, and each group uses exactly one of them; the second pass serves the other nets.
use Prim.Native.Nat.{ℕ, zero, suc, ◌+◌, ◌<◌, ◌≤◌}
use mathlib.Core.Path.{◌≡◌, refl, sym, ◌∙◌}
use mathlib.Core.Logic.{◌⊎◌, inl, inr, ⊎_elim}
use mathlib.Core.Bool.{Bool, true, false, not, ◌&&◌, false≢true, and-true, and-false}
use mathlib.Core.List.{List, []}
use native.Mathlib.Omega.{arith}
use borrow.Author.Tests.{eqb-true, eq-eqb, ne_eqb, le-leb, ltb-true, lt-ltb}
use lib.Dec.{leb, ltb}
use Rattle.base.specs.Counting.{count}
use Rattle.base.specs.Lists.{has}
use Rattle.base.proofs.BoolLaws.{order, left, right, both, or_left, or_right, or_cases, not-fails, fails-not, clashes, same_test}
use Rattle.base.proofs.CountingLaws.{count_same, count_none, count-split}
use Rattle.base.proofs.OneToOne.{without, count-without}
use Rattle.base.proofs.ListLaws.{has-append}
use Rattle.rules.specs.File.{Board, board_of, net_of}
use Rattle.rules.specs.Drivers.{controlled, control_for, is_control, on_net, driver_of, controls, degree}
use Rattle.rules.specs.Groups.{first_pass, second_pass, selected, earlier, group}
use Rattle.rules.specs.Refusals.{Accepted, judge, early_checks, control_checks, board_checks}
use Rattle.rules.proofs.Verdicts.{all_pass, append-pass, accepted}
use Rattle.rules.proofs.Acceptance.{Early, early}
use Rattle.rules.proofs.NetSetLaws.{Affects, meets_at, drives-driver, driver-own, outputs-drivers}
use Rattle.rules.proofs.Requirement.{ControlCell, Requirement, accepted-exactly}
use Rattle.rules.proofs.Degree.{degree-drivers}
use Rattle.rules.proofs.PassLaws.{Apart, open_at, pass-keeps, pass-members, pass-apart, pass-marks}
use Rattle.rules.proofs.Cover.{available, available-cell, Passed, Covered, covered-by}

-- a sound board: one that checks 1 to 9 leave and that meets the requirement
pub record Sound (b : Board) : Type 0 where
  pub checked : Early b
  pub require : Requirement b

-- every accepted board is sound
pub sound : (file : List ℕ) → judge (board_checks file) ≡ Accepted → Sound (board_of file)
unfolding board_checks
sound file e =
    let parts = append-pass (early_checks file) (control_checks (board_of file)) (all_pass (board_checks file) e) in
    let first = accepted (early_checks file) parts.0 in
    record { checked = early file first; require = (accepted-exactly file first).0 e }

-- the two passes' tests: a net of degree g or more, one of lower degree; a control cell that was on in no earlier group, and any
abbrev reaches : Board → ℕ → ℕ → Bool
reaches b g n = leb g (degree b n)

abbrev falls-short : Board → ℕ → ℕ → Bool
falls-short b g n = ltb (degree b n) g

abbrev fresh : List ℕ → ℕ → Bool
fresh before k = not (has k before)

abbrev anyone : ℕ → Bool
anyone k = true

-- the control cells of net n that were on in one of groups 1 to j
abbrev pub used : Board → ℕ → ℕ → ℕ → Bool
used b n j k = controls b n k && has k (earlier b j)

module _ (b : Board) (s : Sound b) where
  -- a control cell's nets have one degree
  pub degrees-equal : (k n m : ℕ) → ControlCell b k → n < b.nets → m < b.nets → Affects b k n → Affects b k m → degree b n ≡ degree b m
  degrees-equal k n m x l l' p q =
      let e = s.checked in
      degree-drivers b e n l ∙ sym (outputs-drivers b e k n l p) ∙ s.require.equal k n m x l l' p q ∙ outputs-drivers b e k m l' q ∙ sym (degree-drivers b e m l')

  -- what a pass may turn on is a control cell, with a wanted net
  record Opened (wanted : ℕ → Bool) (k : ℕ) : Type 0 where
    cell : ControlCell b k
    net : ℕ
    below : net < b.nets
    affects : Affects b k net
    is-wanted : wanted net ≡ true

  opened : (wanted allowed : ℕ → Bool) (c k : ℕ) → c < b.size → open_at b wanted allowed c ≡ true → control_for b c ≡ k → Opened wanted k × (allowed k ≡ true)
  unfolding driver_of on_net
  opened wanted allowed c k l o e =
      let net = net_of (b.cell c) in
      let cw = left (controlled b c && wanted net) _ o in
      let is = left (controlled b c) _ cw in
      let own = s.checked.own-control c l is in
      let opens : Opened wanted (control_for b c) =
      record {
        cell = record { on-board = own.0; controlling = own.1 };
        net = net;
        below = s.checked.own-net c l (or_left _ is);
        affects = driver-own b c l is;
        is-wanted = right (controlled b c) cw;
      } in
      rw (← e) (opens, right (controlled b c && wanted net) o)

  -- and where a wanted net has an allowed control cell, a pass may turn that on
  may-open : (wanted allowed : ℕ → Bool) (k n : ℕ) → Affects b k n → wanted n ≡ true → allowed k ≡ true → (c : ℕ) × (c < b.size) × (open_at b wanted allowed c ≡ true) × (control_for b c ≡ k)
  unfolding driver_of on_net
  may-open wanted allowed k n h w a =
      let d = drives-driver b k n h in
      let at = eqb-true (net_of (b.cell d.0)) n (left (on_net b n d.0) _ d.2) in
      (d.0, d.1, both (both (right (on_net b n d.0) d.2) (rw at w)) (rw d.3 a), d.3)

  module _ (g : ℕ) (before : List ℕ) where
    -- first pass: unused control cells, whose nets have degree g or more
    first-members : (k : ℕ) → has k (first_pass b g before) ≡ true → Opened (reaches b g) k × (fresh before k ≡ true)
    unfolding first_pass has
    first-members k h =
        ⊎_elim
        (λ (e : has k [] ≡ true). absurd (false≢true e))
        (λ r. opened (reaches b g) (fresh before) r.0 k r.1 r.2 r.3)
        (pass-members b _ _ b.size [] k h)

    -- second pass: those of the first, and control cells with a net of degree below g
    second-members : (k : ℕ) → has k (selected b g before) ≡ true → (has k (first_pass b g before) ≡ true) ⊎ Opened (falls-short b g) k
    unfolding selected second_pass
    second-members k h =
        ⊎_elim inl (λ r. inr (opened (falls-short b g) anyone r.0 k r.1 r.2 r.3).0) (pass-members b _ _ b.size _ k h)

    pub selected-cell : (k : ℕ) → has k (selected b g before) ≡ true → (n : ℕ) × (n < b.nets) × Affects b k n × ControlCell b k
    selected-cell k h =
        ⊎_elim
        (λ e. let o = (first-members k e).0 in (o.net, o.below, o.affects, o.cell))
        (λ o. (o.net, o.below, o.affects, o.cell))
        (second-members k h)

    -- the cells of a group share no net
    pub selected-apart : Apart b (selected b g before)
    unfolding selected second_pass first_pass has
    selected-apart =
        pass-apart b _ _ b.size _ (pass-apart b _ _ b.size [] (λ t u x y z. absurd (false≢true x)))

    -- at a net of degree g or more a group has a cell that was on in no earlier one
    pub unused : (k n : ℕ) → n < b.nets → g ≤ degree b n → has k (selected b g before) ≡ true → Affects b k n → has k before ≡ false
    unused k n l d h a =
        ⊎_elim
        (λ e. fails-not _ (first-members k e).1)
        (λ o. let same = degrees-equal k n o.net o.cell l o.below a o.affects in
        let degree-below = ltb-true (degree b o.net) g o.is-wanted in
        absurd (omega arith))
        (second-members k h)

    -- a net of degree g or more is covered by the first pass where every such net has as many unused control cells as its degree says
    first-covered :
        (j : ℕ) → ((m : ℕ) → m < b.nets → g ≤ degree b m → count b.size (available b (fresh before) m) + j ≡ degree b m) → j < g →
        (n : ℕ) → n < b.nets → g ≤ degree b n → Covered b (first_pass b g before) n
    unfolding first_pass controls
    first-covered j left_over j<g n l d =
        let at_n = left_over n l d in
        covered-by b s.require (fresh before) (first_pass b g before) n l passed (omega arith)
      where
        passed : Passed b (fresh before) (first_pass b g before) n
        passed =
            record {
              members = λ k h. let o = first-members k h in (o.0.cell, o.1);
              all-marked = λ k m a. let x = available-cell b (fresh before) n k m a in
                  let c = may-open (reaches b g) (fresh before) k n x.1 (le-leb _ _ d) (right (controls b n k) a) in
                  rw (← c.3) (pass-marks b _ _ b.size [] c.0 c.1 c.2);
              even = λ k m u a v p. let x = available-cell b (fresh before) n k u a in
                  let same = degrees-equal k n m x.0 l v x.1 p in
                  let at_n = left_over n l d in
                  let at-m = left_over m v (omega arith) in
                  omega arith;
            }

    -- a net of degree g or more is covered where every such net has as many unused control cells as its degree says
    covered-first :
        (j : ℕ) → ((m : ℕ) → m < b.nets → g ≤ degree b m → count b.size (available b (fresh before) m) + j ≡ degree b m) → j < g →
        (n : ℕ) → n < b.nets → g ≤ degree b n → Covered b (selected b g before) n
    unfolding selected second_pass
    covered-first j left_over j<g n l d =
        let t = first-covered j left_over j<g n l d in
        (t.0, pass-keeps b _ _ b.size _ t.0 t.1, t.2)

    -- and a net of lower degree is covered by the second pass
    covered-second : (n : ℕ) → n < b.nets → degree b n < g → 0 < degree b n → Covered b (selected b g before) n
    unfolding selected second_pass degree
    covered-second n l d p =
        covered-by b s.require anyone (selected b g before) n l passed (rw (all_of n) p)
      where
        all_of : (m : ℕ) → count b.size (available b anyone m) ≡ degree b m
        all_of m = count_same _ _ _ (λ k u. and-true (controls b m k))

        passed : Passed b anyone (selected b g before) n
        passed =
            record {
              members = λ k h. ((selected-cell k h).3, refl);
              all-marked = λ k m a. let x = available-cell b anyone n k m a in
                  let c = may-open (falls-short b g) anyone k n x.1 (lt-ltb _ _ d) refl in
                  rw (← c.3) (pass-marks b _ _ b.size _ c.0 c.1 c.2);
              even = λ k m u a v q. let x = available-cell b anyone n k u a in
                  all_of m ∙ sym (degrees-equal k n m x.0 l v x.1 q) ∙ sym (all_of n);
            }

  -- before group j + 1 a net of degree at least j has used exactly j of its control cells, and all others are left
  left_over : (j n : ℕ) → count b.size (used b n j) ≡ j → count b.size (available b (fresh (earlier b j)) n) + j ≡ degree b n
  unfolding degree
  left_over j n h = let c = count-split b.size (controls b n) (λ k. has k (earlier b j)) in omega arith

  -- group j + 1 covers a net of degree above j, where the counts are right so far
  covered_next :
      (j : ℕ) → ((m : ℕ) → m < b.nets → j ≤ degree b m → count b.size (used b m j) ≡ j) →
      (n : ℕ) → n < b.nets → j < degree b n → Covered b (group b (suc j)) n
  unfolding group
  covered_next j counts n l d =
      covered-first (suc j) (earlier b j) j (λ m v e. left_over j m (counts m v (omega arith))) (omega arith) n l d

  -- group j + 1 uses one more of them
  one_more : (j n : ℕ) → n < b.nets → j < degree b n → (T : ℕ) → has T (group b (suc j)) ≡ true → Affects b T n → count b.size (used b n (suc j)) ≡ count b.size (used b n j) + 1
  unfolding earlier group controls
  one_more j n l d T h a =
      let cell = (selected-cell (suc j) (earlier b j) T h).3 in
      let w = count-without b.size (used b n (suc j)) cell.on-board (both (both cell.controlling a) (has-append T _ _ ∙ or_left _ h)) in
      let same = count_same b.size (without (used b n (suc j)) T) (used b n j) (λ k m. same_test _ _ (fewer k) (more k)) in
      omega arith
    where
      new : List ℕ
      new = selected b (suc j) (earlier b j)

      fewer : (k : ℕ) → without (used b n (suc j)) T k ≡ true → used b n j k ≡ true
      fewer k w =
          let u = left (used b n (suc j) k) _ w in
          let c = left (controls b n k) _ u in
          both c
          (⊎_elim
          (λ (e : has k new ≡ true).
          let meet = meets_at b k T n l (right (is_control b k) c) a in
          absurd (clashes (eq-eqb k T (selected-apart (suc j) (earlier b j) k T e h meet)) (fails-not _ (right (used b n (suc j) k) w))))
          (λ (e : has k (earlier b j) ≡ true). e)
          (or_cases (has k new) (sym (has-append k new (earlier b j)) ∙ right (controls b n k) u)))

      more : (k : ℕ) → used b n j k ≡ true → without (used b n (suc j)) T k ≡ true
      more k u =
          let e = right (controls b n k) u in
          both (both (left (controls b n k) _ u) (has-append k new (earlier b j) ∙ or_right (has k new) e))
          (not-fails (ne_eqb k T (λ q. clashes (rw q at e) (unused (suc j) (earlier b j) T n l d h a))))

  -- each group uses exactly one
  pub uses : (j n : ℕ) → n < b.nets → j ≤ degree b n → count b.size (used b n j) ≡ j
  unfolding earlier has
  uses zero n l d = count_none _ _ (λ k m. and-false (controls b n k))
  uses (suc j) n l d =
      let T = covered_next j (uses j) n l d in
      let more = one_more j n l d T.0 T.1 T.2 in
      let so_far = uses j n l (omega arith) in
      omega arith

  -- the first pass of each group covers every net whose degree is the group's number or more
  pub first-covers : (j n : ℕ) → n < b.nets → j < degree b n → Covered b (first_pass b (suc j) (earlier b j)) n
  first-covers j n l d =
      first-covered (suc j) (earlier b j) j (λ m v e. left_over j m (uses j m v (omega arith))) (omega arith) n l d

  -- every group covers every net that has control cells
  pub covered : (j n : ℕ) → n < b.nets → 0 < degree b n → Covered b (group b (suc j)) n
  unfolding group
  covered j n l p =
      ⊎_elim
      (λ (d : degree b n < suc j). covered-second (suc j) (earlier b j) n l d p)
      (λ (d : suc j ≤ degree b n). covered_next j (uses j) n l d)
      (order (degree b n) (suc j))
