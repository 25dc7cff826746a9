-- Theorem 4: once check 8 has passed, the number of control cells of a net is the number of its controlled drivers, of kinds 3 and 5. The idea: each
-- such output has one control cell, and no control cell two outputs on the net.
use Prim.Native.Nat.{ℕ, ◌<◌}
use mathlib.Core.Path.{◌≡◌, sym, ◌∙◌}
use mathlib.Core.Bool.{true}
use Rattle.base.proofs.BoolLaws.{right, both, fails-if}
use Rattle.base.proofs.CountingLaws.{count_none}
use Rattle.base.proofs.OneToOne.{count-onto}
use Rattle.rules.specs.File.{Board}
use Rattle.rules.specs.Drivers.{control_for, is_control, always_on, on_net, output_of, driver_of, drivers, controls, degree}
use Rattle.rules.proofs.Acceptance.{Early}
use Rattle.rules.proofs.NetSetLaws.{kinds-differ, driver-output, drives-driver, driver-drives, always-alone, driver-alone}

pub degree-drivers : (b : Board) → Early b → (n : ℕ) → n < b.nets → degree b n ≡ drivers b n
unfolding degree drivers controls driver_of
degree-drivers b early n l =
    sym
    (count-onto b.size b.size (driver_of b n) (controls b n) (control_for b)
    (record {
      into = λ c m h. let own = early.own-control c m (right (on_net b n c) h) in (own.0, both own.1 (driver-drives b n c m h));
      once = λ c d m k x y e. driver-alone b early n c d l m k x y e;
      hit = λ k m h. drives-driver b k n (right (is_control b k) h);
    }))

-- "a net with a kind 4 output has degree 0"
pub always-on-degree : (b : Board) → Early b → (n c : ℕ) → n < b.nets → c < b.size → output_of b n c ≡ true → always_on b c ≡ true → degree b n ≡ 0
unfolding drivers driver_of
always-on-degree b early n c l m o a =
    degree-drivers b early n l
    ∙ count_none _ _ (λ d k. fails-if _ (λ h. kinds-differ b c d a (right (on_net b n d) h) (always-alone b early n c d l m k o (driver-output b n d h) a)))
