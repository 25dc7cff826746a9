-- Why a pass leaves no wanted net without a driver. The idea: an eligible control cell S of an undriven net meets a cell T that is on, at a
-- net m. Were every eligible cell of n also at m, m would have one more than n, namely T. So some eligible cell of n is not at m; by nesting
-- it lies inside S and is smaller: go on with it.
use Prim.Native.Nat.{ℕ, zero, suc, ◌<◌}
use mathlib.Core.Path.{◌≡◌}
use mathlib.Core.Logic.{inl, inr, ⊎_elim}
use mathlib.Core.Bool.{Bool, true, false, not, ◌&&◌, ◌||◌}
use mathlib.Core.List.{List}
use native.Mathlib.Omega.{arith}
use Rattle.base.specs.Counting.{count}
use Rattle.base.specs.Lists.{has}
use Rattle.base.specs.Tests.{all}
use Rattle.base.proofs.BoolLaws.{Decided, decided, left, right, both, or_cases, or-neither, passes-not, fails-not, clashes, fails-if}
use Rattle.base.proofs.TestLaws.{all-at, all-fails}
use Rattle.base.proofs.CountingLaws.{count-strictly, count-member}
use Rattle.rules.specs.File.{Board}
use Rattle.rules.specs.Drivers.{is_control, drives, controls, meets}
use Rattle.rules.specs.Groups.{marked}
use Rattle.rules.proofs.NetSetLaws.{Affects, Disjoint, Included, meets-net}
use Rattle.rules.proofs.Requirement.{ControlCell, Requirement}
use Rattle.rules.proofs.PassLaws.{marked_by}

-- k is an eligible control cell of net n
abbrev pub available : Board → (ℕ → Bool) → ℕ → ℕ → Bool
available b eligible n k = controls b n k && eligible k

-- it is a control cell, and affects n
pub available-cell : (b : Board) (eligible : ℕ → Bool) (n k : ℕ) → k < b.size → available b eligible n k ≡ true → ControlCell b k × Affects b k n
unfolding controls
available-cell b eligible n k l a =
    let c = left (controls b n k) _ a in
    (record { on-board = l; controlling = left (is_control b k) _ c }, right (is_control b k) c)

-- what a pass leaves
pub record Passed (b : Board) (eligible : ℕ → Bool) (on : List ℕ) (n : ℕ) : Type 0 where
  -- those that are on are eligible control cells
  pub members : (t : ℕ) → has t on ≡ true → ControlCell b t × (eligible t ≡ true)
  -- each eligible control cell of n is marked
  pub all-marked : (k : ℕ) → k < b.size → available b eligible n k ≡ true → marked b on k ≡ true
  -- and the nets that one of them affects have as many of them as n has
  pub even :
      (k m : ℕ) → k < b.size → available b eligible n k ≡ true → m < b.nets → Affects b k m →
      count b.size (available b eligible m) ≡ count b.size (available b eligible n)

-- some cell that is on affects net n
abbrev pub Covered : Board → List ℕ → ℕ → Type 0
Covered b on n = (T : ℕ) × (has T on ≡ true) × Affects b T n

module _ (b : Board) (require : Requirement b) (eligible : ℕ → Bool) (on : List ℕ) (n : ℕ) (l : n < b.nets) (pass : Passed b eligible on n) where
  cell : (k : ℕ) → k < b.size → available b eligible n k ≡ true → ControlCell b k × Affects b k n
  cell = available-cell b eligible n

  -- an eligible cell of n with fewer nets than S
  Smaller : ℕ → Type 0
  Smaller S = (R : ℕ) × (R < b.size) × (available b eligible n R ≡ true) × (count b.nets (drives b R) < count b.nets (drives b S))

  -- S meets T, which is on, at m, and T is not at n: then a smaller eligible cell of n is not at m
  smaller :
      (S T m : ℕ) → S < b.size → available b eligible n S ≡ true → has T on ≡ true → drives b T n ≡ false →
      m < b.nets → Affects b S m → Affects b T m → Smaller S
  unfolding controls Smaller
  smaller S T m u a h out k x y = go (decided (all b.size (λ j. not (available b eligible n j) || drives b j m)))
    where
      lies : (R : ℕ) → R < b.size → available b eligible n R ≡ true → drives b R m ≡ false → count b.nets (drives b R) < count b.nets (drives b S)
      lies R r a_r z =
          let at-S = cell S u a in
          let at-R = cell R r a_r in
          ⊎_elim
          (λ (d : Disjoint b S R). absurd (d n l at-S.1 at-R.1))
          (λ p. ⊎_elim (λ (i : Included b S R). absurd (clashes (i m k x) z)) (λ (i : Included b R S). count-strictly _ _ _ i k z x) p)
          (require.nested S R at-S.0 at-R.0)

      go : Decided (all b.size (λ j. not (available b eligible n j) || drives b j m)) → Smaller S
      go (inl e) =
          let at = pass.members T h in
          let not-n = fails-if _ (λ c. clashes (cell T at.0.on-board c).1 out) in
          let at-m = both (both at.0.controlling y) at.1 in
          let more = count-strictly b.size (available b eligible n) (available b eligible m) also at.0.on-board not-n at-m in
          let same = pass.even S m u a k x in
          absurd (omega arith)
        where
          -- each eligible cell of n is at m
          also : (j : ℕ) → j < b.size → available b eligible n j ≡ true → available b eligible m j ≡ true
          also j v c =
              let at-m = ⊎_elim (λ q. absurd (clashes c (fails-not _ q))) (λ q. q) (or_cases (not (available b eligible n j)) (all-at _ _ e v)) in
              both (both (left (is_control b j) _ (left (controls b n j) _ c)) at-m) (right (controls b n j) c)
      go (inr e) =
          let f = all-fails _ _ e in
          let q = or-neither (not (available b eligible n f.0)) f.2 in
          let a_r = passes-not _ q.0 in
          (f.0, f.1, a_r, lies f.0 f.1 a_r q.1)

  -- from an eligible cell S of n: the cell that marks it is at n, or a smaller one goes on
  covers : (fuel S : ℕ) → count b.nets (drives b S) < fuel → S < b.size → available b eligible n S ≡ true → Covered b on n
  unfolding Smaller
  covers zero S f u a = absurd (omega arith)
  covers (suc fuel) S f u a =
      let t = marked_by b on S (pass.all-marked S u a) in
      ⊎_elim
      (λ (e : t.0 ≡ S). (t.0, t.1, rw e (cell S u a).1))
      (λ (e : meets b t.0 S ≡ true).
      ⊎_elim
      (λ (d : drives b t.0 n ≡ true). (t.0, t.1, d))
      (λ (d : drives b t.0 n ≡ false).
      let m = meets-net b t.0 S e in
      let r = smaller S t.0 m.0 u a t.1 d m.1 m.3 m.2 in
      covers fuel r.0 (omega arith) r.1 r.2)
      (decided (drives b t.0 n)))
      t.2

  -- a net that has an eligible control cell is covered
  pub covered-by : 0 < count b.size (available b eligible n) → Covered b on n
  covered-by h =
      let found = count-member b.size (available b eligible n) h in
      covers (suc (count b.nets (drives b found.0))) found.0 (omega arith) found.1 found.2
