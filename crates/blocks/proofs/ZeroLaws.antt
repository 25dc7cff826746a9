-- Zeros in a range of bytes, byte by byte: the digits of all that were seen, together, are none exactly where each byte is zero.
use Rattle.std.proofs.Common.{◌≡◌, ℕ, suc, ◌+◌, ◌-◌, ◌≤◌, true, ◌&&◌, eqb, List, ◌∙◌, add-sub_of_le, arith, eq-eqb, eqb-true}
use lib.Bits.{bit_or, or_add_and, and_le_l, and_le_r}
use Rattle.base.specs.Tests.{all}
use Rattle.base.proofs.BoolLaws.{same_test, both, left, right}
use Rattle.rules.specs.File.{byte_at, zeros}

-- no digit of two numbers: none of either
or-none : (a b : ℕ) → eqb (bit_or a b) 0 ≡ (eqb b 0 && eqb a 0)
or-none a b =
    let h = or_add_and a b in
    let l = and_le_l a b in
    let r = and_le_r a b in
    same_test (eqb (bit_or a b) 0) (eqb b 0 && eqb a 0)
    (λ e. let z = eqb-true (bit_or a b) 0 e in both (eq-eqb b 0 (omega arith)) (eq-eqb a 0 (omega arith)))
    (λ e. let y = eqb-true b 0 (left (eqb b 0) (eqb a 0) e) in let x = eqb-true a 0 (right (eqb b 0) e) in eq-eqb (bit_or a b) 0 (omega arith))

module _ (file : List ℕ) (from : ℕ) where
  pub zeros-none : true ≡ zeros file from from
  unfolding zeros all
  zeros-none = let e : from - from ≡ 0 = omega arith in rw e

  pub zeros-next : (at digits : ℕ) → from ≤ at → eqb digits 0 ≡ zeros file from at → eqb (bit_or digits (byte_at file at)) 0 ≡ zeros file from (at + 1)
  unfolding zeros all
  zeros-next at digits l e =
      let n : at + 1 - from ≡ suc (at - from) = omega arith in
      or-none digits (byte_at file at) ∙ rw (n, add-sub_of_le l, e)

  pub zeros-end : (at to : ℕ) → at - from ≡ to - from → zeros file from at ≡ zeros file from to
  unfolding zeros
  zeros-end at to e = rw e

-- what the search takes for the zeros
pub ruleset zeroing = (zeros-none, zeros-next, zeros-end)
