-- The library's division rounded up is `ceil`.
use Prim.Native.Nat.{ℕ, ◌+◌, ◌-◌, ◌<◌}
use mathlib.Core.Path.{◌≡◌}
use native.Mathlib.Omega.{arith}
use Rattle.std.specs.Int.{div_ceil}
use Rattle.std.proofs.lemmas.Grind.{div_ceil_times}
use Rattle.std.proofs.lemmas.Nat.{div_below, le-div}
use Rattle.base.specs.Digits.{ceil}
use Rattle.plan.proofs.codes.inserted.Goals as goal

div_ceil-is : (h s : ℕ) → 0 < s → div_ceil h s ≡ ceil h s
unfolding ceil
div_ceil-is h s p =
    let d = div_ceil h s in
    let b = div_ceil_times h s p in
    omega (arith, b, le-div d (h + (s - 1)) s p (omega (arith, b)), div_below (h + (s - 1)) s (d + 1) p (omega (arith, b)))

pub returns : goal.returns
returns c = rw (c.saturating_sub.ensures, c.div_ceil.ensures, div_ceil-is c.args.changes c.args.limit c.requires.1)
