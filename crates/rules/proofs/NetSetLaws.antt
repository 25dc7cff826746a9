-- Laws of drivers and net sets: a control cell's nets and its drivers there, how two net sets lie, and what a net without clashes has.
use Prim.Native.Nat.{ℕ, ◌<◌}
use mathlib.Core.Path.{◌≡◌, refl}
use mathlib.Core.Logic.{⊎_elim}
use mathlib.Core.Bool.{true, false, not, ◌&&◌, ◌||◌}
use borrow.Author.Tests.{eqb-true, eq-eqb}
use lib.Dec.{eqb}
use Rattle.base.proofs.BoolLaws.{left, right, or_left, or_right, or_cases, or-neither, not-fails, fails-not, passes-not, clashes, both, passes-if, same_test}
use Rattle.base.proofs.TestLaws.{any_at, any-member, any_none, all-at, all-fails}
use Rattle.base.proofs.CountingLaws.{count_same}
use Rattle.rules.specs.File.{Board, net_of}
use Rattle.rules.specs.Drivers.{controlled, control_for, always_on, on_net, output_of, driver_of, drives, drivers, outputs, meets, inside}
use Rattle.rules.specs.Refusals.{clash}
use Rattle.rules.proofs.DriverLaws.{not-both}
use Rattle.rules.proofs.Acceptance.{Early}

-- a control cell's net set, and how two lie
abbrev pub Affects : Board → ℕ → ℕ → Type 0
Affects b k n = drives b k n ≡ true

abbrev pub Disjoint : Board → ℕ → ℕ → Type 0
Disjoint b i j = (n : ℕ) → n < b.nets → Affects b i n → Affects b j n → ⊥

abbrev pub Included : Board → ℕ → ℕ → Type 0
Included b i j = (n : ℕ) → n < b.nets → Affects b i n → Affects b j n

-- what the tests on two sets say of them
pub meets-net : (b : Board) (i j : ℕ) → meets b i j ≡ true → (n : ℕ) × (n < b.nets) × Affects b i n × Affects b j n
unfolding meets
meets-net b i j h =
    let m = any-member _ _ h in
    (m.0, m.1, left (drives b i m.0) _ m.2, right (drives b i m.0) m.2)

pub meets_at : (b : Board) (i j n : ℕ) → n < b.nets → Affects b i n → Affects b j n → meets b i j ≡ true
unfolding meets
meets_at b i j n l x y = any_at _ _ l (both x y)

pub apart : (b : Board) (i j : ℕ) → meets b i j ≡ false → Disjoint b i j
unfolding meets
apart b i j h n l x y = clashes (both x y) (any_none _ _ h l)

pub included : (b : Board) (i j : ℕ) → inside b i j ≡ true → Included b i j
unfolding inside
included b i j h n l x =
    ⊎_elim (λ q. absurd (clashes x (fails-not _ q))) (λ q. q) (or_cases (not (drives b i n)) (all-at _ _ h l))

pub not-included : (b : Board) (i j : ℕ) → inside b i j ≡ false → Included b i j → ⊥
unfolding inside
not-included b i j h f =
    let m = all-fails _ _ h in
    let q = or-neither (not (drives b i m.0)) m.2 in
    clashes (f m.0 m.1 (passes-not _ q.0)) q.1

-- an output is never controlled and always on
pub kinds-differ : (b : Board) (c d : ℕ) → always_on b c ≡ true → controlled b d ≡ true → c ≡ d → ⊥
kinds-differ b c d x y e = not-both b d (rw e at x) y

-- a controlled driver of a net is an output of it
pub driver-output : (b : Board) (n c : ℕ) → driver_of b n c ≡ true → output_of b n c ≡ true
unfolding driver_of output_of
driver-output b n c h = both (left (on_net b n c) _ h) (or_left _ (right (on_net b n c) h))

-- a control cell has a driver at each of its nets
pub drives-driver : (b : Board) (k n : ℕ) → Affects b k n → (c : ℕ) × (c < b.size) × (driver_of b n c ≡ true) × (control_for b c ≡ k)
unfolding drives
drives-driver b k n h =
    let m = any-member _ _ h in
    (m.0, m.1, left (driver_of b n m.0) _ m.2, eqb-true _ _ (right (driver_of b n m.0) m.2))

-- and a driver's net is in its control cell's set
pub driver-drives : (b : Board) (n c : ℕ) → c < b.size → driver_of b n c ≡ true → Affects b (control_for b c) n
unfolding drives
driver-drives b n c l h = any_at _ _ l (both h (eq-eqb (control_for b c) (control_for b c) refl))

pub driver-own : (b : Board) (c : ℕ) → c < b.size → controlled b c ≡ true → Affects b (control_for b c) (net_of (b.cell c))
unfolding driver_of on_net
driver-own b c l x = driver-drives b (net_of (b.cell c)) c l (both (eq-eqb (net_of (b.cell c)) (net_of (b.cell c)) refl) x)

-- two outputs of a net that clash unless they are one
module _ (b : Board) (early : Early b) (n c d : ℕ) (l : n < b.nets) (m : c < b.size) (k : d < b.size) where
  alone : output_of b n c ≡ true → output_of b n d ≡ true → (always_on b c || (controlled b c && controlled b d && eqb (control_for b c) (control_for b d))) ≡ true → c ≡ d
  unfolding clash
  alone x y z = eqb-true c d (passes-if (eqb c d) (λ q. clashes (both (both (both (not-fails q) x) y) z) (early.no-clash n c d l m k)))

  -- one is always on
  pub always-alone : output_of b n c ≡ true → output_of b n d ≡ true → always_on b c ≡ true → c ≡ d
  always-alone x y a = alone x y (or_left _ a)

  -- or both are of one control cell
  pub driver-alone : driver_of b n c ≡ true → driver_of b n d ≡ true → control_for b c ≡ control_for b d → c ≡ d
  unfolding driver_of
  driver-alone x y a =
      let controlled-both = both (right (on_net b n c) x) (right (on_net b n d) y) in
      alone (driver-output b n c x) (driver-output b n d y) (or_right (always_on b c) (both controlled-both (eq-eqb _ _ a)))

-- a net that a control cell affects has controlled drivers alone, so source 000's degree is document 01's number of controlled drivers
pub outputs-drivers : (b : Board) → Early b → (k n : ℕ) → n < b.nets → Affects b k n → outputs b n ≡ drivers b n
unfolding outputs drivers output_of driver_of
outputs-drivers b early k n l h = count_same _ _ _ (λ c m. same_test _ _ (λ o. out c m o) (driver-output b n c))
  where
    out : (c : ℕ) → c < b.size → output_of b n c ≡ true → driver_of b n c ≡ true
    out c m o =
        let d = drives-driver b k n h in
        both (left (on_net b n c) _ o)
        (⊎_elim
        (λ q. q)
        (λ a. absurd (kinds-differ b c d.0 a (right (on_net b n d.0) d.2) (always-alone b early n c d.0 l m d.1 o (driver-output b n d.0 d.2) a)))
        (or_cases (controlled b c) (right (on_net b n c) o)))
