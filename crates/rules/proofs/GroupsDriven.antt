-- Theorem 3, demand 3 on groups, from acceptance alone: in each group exactly one output is on at every net; a control cell has its turn in
-- exactly one of the first d groups, d the number of controlled drivers at its nets; one that switches nothing is never on.
use Prim.Native.Nat.{ℕ, zero, suc, ◌+◌, ◌<◌, ◌≤◌}
use mathlib.Core.Path.{◌≡◌, refl, sym, ◌∙◌, ap}
use mathlib.Core.Logic.{⊎_elim}
use mathlib.Core.Bool.{Bool, true, false, ◌&&◌, ◌||◌, false≢true}
use mathlib.Core.List.{List}
use native.Mathlib.Nat.{le-max_right}
use native.Mathlib.Numerals.{add-one}
use native.Mathlib.Omega.{arith}
use Rattle.base.specs.Counting.{count}
use Rattle.base.specs.Lists.{has}
use Rattle.base.specs.Tests.{largest}
use Rattle.base.proofs.BoolLaws.{order, below_suc, left, right, both, or_left, or_right, or_cases, clashes, fails-if, passes-if}
use Rattle.base.proofs.TestLaws.{any-member, largest-at}
use Rattle.base.proofs.CountingLaws.{count-one, count_same, count-strictly, count-pos}
use Rattle.base.proofs.ListLaws.{has-append}
use Rattle.rules.specs.File.{Board, board_of}
use Rattle.rules.specs.Drivers.{controlled, control_for, always_on, on_net, output_of, driver_of, drives, drivers, controls, degree, meets, groups_of}
use Rattle.rules.specs.Groups.{selected, earlier, group, on_in}
use Rattle.rules.specs.Refusals.{Accepted, judge, board_checks}
use Rattle.rules.proofs.NetSetLaws.{Affects, meets_at, driver-output, drives-driver, driver-drives, always-alone, driver-alone}
use Rattle.rules.proofs.Requirement.{ControlCell}
use Rattle.rules.proofs.Degree.{degree-drivers}
use Rattle.rules.proofs.Cover.{Covered}
use Rattle.rules.proofs.Selection.{Sound, sound, selected-cell, selected-apart, unused, used, uses, covered}

-- an output of net n is on: always, or because its control cell is; an open-drain output is on where it has the turn
abbrev pub live : Board → (ℕ → Bool) → ℕ → ℕ → Bool
live b on n c = output_of b n c && (always_on b c || on (control_for b c))

-- how many outputs of a net are on goes by the control cells of its drivers alone
pub live-count :
    (b : Board) (on on' : ℕ → Bool) (n : ℕ) →
    ((c : ℕ) → c < b.size → driver_of b n c ≡ true → on (control_for b c) ≡ on' (control_for b c)) →
    count b.size (live b on n) ≡ count b.size (live b on' n)
unfolding output_of driver_of
live-count b on on' n h = count_same b.size _ _ (λ c l. go (on_net b n c) (controlled b c) (always_on b c) (h c l))
  where
    go : (x y a : Bool) {p q : Bool} → ((x && y) ≡ true → p ≡ q) → (x && (y || a) && (a || p)) ≡ (x && (y || a) && (a || q))
    go true true a e = ap (λ (p : Bool). a || p) (e refl)
    go true false true e = refl
    go true false false e = refl
    go false y a e = refl

module _ (b : Board) (s : Sound b) where
  -- a driver's control cell is one
  pub own-cell : (n c : ℕ) → c < b.size → driver_of b n c ≡ true → ControlCell b (control_for b c)
  unfolding driver_of
  own-cell n c l h =
      let own = s.checked.own-control c l (right (on_net b n c) h) in
      record { on-board = own.0; controlling = own.1 }

  -- only control cells that switch something are on
  pub on-cell : (g k : ℕ) → on_in b g k ≡ true → (n : ℕ) × (n < b.nets) × Affects b k n × ControlCell b k
  unfolding on_in group has
  on-cell zero k h = absurd (false≢true h)
  on-cell (suc j) k h = selected-cell b s (suc j) (earlier b j) k h

  -- two cells that are on share no net
  on-apart : (g t u : ℕ) → on_in b g t ≡ true → on_in b g u ≡ true → meets b t u ≡ true → t ≡ u
  unfolding on_in group has
  on-apart zero t u x y m = absurd (false≢true x)
  on-apart (suc j) t u x y m = selected-apart b s (suc j) (earlier b j) t u x y m

  -- a net with a controlled driver has a control cell
  has-degree : (n c : ℕ) → c < b.size → driver_of b n c ≡ true → 0 < degree b n
  unfolding degree controls driver_of
  has-degree n c l h =
      let own = s.checked.own-control c l (right (on_net b n c) h) in
      count-pos b.size (controls b n) own.0 (both own.1 (driver-drives b n c l h))

  -- in each group exactly one output is on at every net
  pub once-driven : (j n : ℕ) → n < b.nets → count b.size (live b (on_in b (suc j)) n) ≡ 1
  unfolding output_of driver_of on_in
  once-driven j n l =
      let c = any-member _ _ (s.checked.driven n l) in
      let on-net = left (on_net b n c.0) _ c.2 in
      ⊎_elim
      (λ (k : controlled b c.0 ≡ true). by-control (covered b s j n l (has-degree n c.0 c.1 (both on-net k))))
      (λ (a : always_on b c.0 ≡ true).
      count-one _ _ c.1 (both c.2 (or_left _ a))
      (λ d m h. sym (always-alone b s.checked n c.0 d l c.1 m c.2 (left (output_of b n d) _ h) a)))
      (or_cases (controlled b c.0) (right (on_net b n c.0) c.2))
    where
      by-control : Covered b (group b (suc j)) n → count b.size (live b (on_in b (suc j)) n) ≡ 1
      by-control T =
          let d = drives-driver b T.0 n T.2 in
          let on : on_in b (suc j) (control_for b d.0) ≡ true = rw d.3 T.1 in
          let is_live = both (driver-output b n d.0 d.2) (or_right (always_on b d.0) on) in
          count-one _ _ d.1 is_live (only d.0 d.1 d.2 d.3)
        where
          -- an output that is on is the one that T switches
          only :
              (d : ℕ) → d < b.size → driver_of b n d ≡ true → control_for b d ≡ T.0 →
              (c : ℕ) → c < b.size → live b (on_in b (suc j)) n c ≡ true → c ≡ d
          only d v x e c m h =
              let o = left (output_of b n c) _ h in
              let always : always_on b c ≡ true → c ≡ d = always-alone b s.checked n c d l m v o (driver-output b n d x) in
              ⊎_elim
              always
              (λ on. ⊎_elim (λ k. switched on (both (left (on_net b n c) _ o) k)) always (or_cases (controlled b c) (right (on_net b n c) o)))
              (or_cases (always_on b c) (right (output_of b n c) h))
            where
              switched : on_in b (suc j) (control_for b c) ≡ true → driver_of b n c ≡ true → c ≡ d
              switched on y =
                  let meet = meets_at b (control_for b c) T.0 n l (driver-drives b n c m y) T.2 in
                  driver-alone b s.checked n c d l m v y x (on-apart (suc j) (control_for b c) T.0 on T.1 meet ∙ sym e)

  -- what was on earlier was on in a group
  earlier-group : (j k : ℕ) → has k (earlier b j) ≡ true → (i : ℕ) × (i < j) × (on_in b (suc i) k ≡ true)
  unfolding earlier has on_in group
  earlier-group zero k h = absurd (false≢true h)
  earlier-group (suc j) k h =
      ⊎_elim
      (λ (e : has k (selected b (suc j) (earlier b j)) ≡ true). (j, omega arith, e))
      (λ (e : has k (earlier b j) ≡ true). let r = earlier-group j k e in (r.0, omega arith, r.2))
      (or_cases (has k (selected b (suc j) (earlier b j))) (sym (has-append k (selected b (suc j) (earlier b j)) (earlier b j)) ∙ h))

  group-earlier : (j i k : ℕ) → i < j → on_in b (suc i) k ≡ true → has k (earlier b j) ≡ true
  unfolding earlier on_in group
  group-earlier zero i k l h = absurd (omega arith)
  group-earlier (suc j) i k l h =
      has-append k (selected b (suc j) (earlier b j)) (earlier b j)
      ∙ ⊎_elim
      (λ (e : i ≡ j). or_left _ (rw e at h))
      (λ (e : i < j). or_right (has k (selected b (suc j) (earlier b j))) (group-earlier j i k e h))
      (below_suc l)

  -- a control cell is on in exactly one of groups 1 to d, d the degree of its nets, and d is at most G
  pub one-turn : (k n : ℕ) → ControlCell b k → n < b.nets → Affects b k n → count (degree b n) (λ i. on_in b (suc i) k) ≡ 1
  unfolding on_in group degree controls
  one-turn k n x l a =
      let first = earlier-group (degree b n) k (passes-if _ unspent) in
      count-one _ _ first.1 first.2 (λ i m h. only first.0 first.1 first.2 i m h)
    where
      -- had k had no turn, n would have used fewer than it has
      unspent : has k (earlier b (degree b n)) ≡ false → ⊥
      unspent z =
          let all-used = uses b s (degree b n) n l (omega arith) in
          let not-k = fails-if _ (λ h. clashes (right (controls b n k) h) z) in
          let fewer =
          count-strictly b.size (used b n (degree b n)) (controls b n)
          (λ i m h. left (controls b n i) _ h) x.on-board not-k (both x.controlling a) in
          omega arith

      after : (i g : ℕ) → i < g → g < degree b n → on_in b (suc i) k ≡ true → on_in b (suc g) k ≡ true → ⊥
      after i g u v p q = clashes (group-earlier g i k u p) (unused b s (suc g) (earlier b g) k n l v q a)

      only : (g : ℕ) → g < degree b n → on_in b (suc g) k ≡ true → (i : ℕ) → i < degree b n → on_in b (suc i) k ≡ true → i ≡ g
      only g v q i m h =
          ⊎_elim
          (λ (o : i < g). absurd (after i g o v h q))
          (λ (o : g ≤ i). ⊎_elim (λ (r : g < i). absurd (after g i r m q h)) (λ (r : i ≤ g). omega arith) (order g i))
          (order i g)

  pub degree-within : (n : ℕ) → n < b.nets → degree b n ≤ groups_of b
  unfolding groups_of
  degree-within n l =
      let m = le-max_right 1 (largest b.nets (degree b)) in
      let d = largest-at b.nets (degree b) l in
      omega arith

-- The theorem, from acceptance alone
module _ (file : List ℕ) (ok : judge (board_checks file) ≡ Accepted) where
  -- in each group, from 1 on, exactly one output is on at every net, kind 4 included
  pub group-drives-once : (g : ℕ) → 0 < g → (n : ℕ) → n < (board_of file).nets → count (board_of file).size (live (board_of file) (on_in (board_of file) g) n) ≡ 1
  group-drives-once zero p n l = absurd (omega arith)
  group-drives-once (suc j) p n l = once-driven (board_of file) (sound file ok) j n l

  -- a control cell whose nets have d controlled drivers is on in exactly one of groups 1 to d, and d is at most G
  pub turn-in-time :
      (k n : ℕ) → ControlCell (board_of file) k → n < (board_of file).nets → Affects (board_of file) k n →
      (count (drivers (board_of file) n) (λ i. on_in (board_of file) (i + 1) k) ≡ 1) × (drivers (board_of file) n ≤ groups_of (board_of file))
  turn-in-time k n x l a =
      let b = board_of file in
      let s = sound file ok in
      let same = degree-drivers b s.checked n l in
      (rw (← same) (count_same (degree b n) _ _ (λ i m. ap (λ (g : ℕ). on_in b g k) (add-one i)) ∙ one-turn b s k n x l a), rw (← same) (degree-within b s n l))

  -- a control cell that switches nothing is never on
  pub idle-off : (k : ℕ) → ((n : ℕ) → n < (board_of file).nets → drives (board_of file) k n ≡ false) → (g : ℕ) → on_in (board_of file) g k ≡ false
  idle-off k none g =
      fails-if _ (λ h. let c = on-cell (board_of file) (sound file ok) g k h in clashes c.2 (none c.0 c.1))
