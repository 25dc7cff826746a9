-- As many of the word's lowest digits are kept as there are nets from 64 * w on.
use Prim.Native.Nat.{◌*◌, ◌-◌}
use mathlib.Core.Path.{◌∙◌, ap}
use mathlib.Core.Bool.{Bool, ◌&&◌}
use native.Mathlib.Omega.{arith}
use Rattle.base.specs.Digits.{bit}
use Rattle.base.proofs.WordLaws.{bit-and, one_shifted, bit-ones}
use Rattle.plan.proofs.Patterns.{below-from}
use Rattle.plan.proofs.codes.cut.Goals as goal

pub returns : goal.returns
returns c k h =
    let a = c.args in
    rw (one_shifted 64 (a.nets - 64 * a.w) (omega arith), bit-and)
    (ap (λ (d : Bool). d && bit a.word k) (bit-ones _ k ∙ below-from a.w a.nets k))
