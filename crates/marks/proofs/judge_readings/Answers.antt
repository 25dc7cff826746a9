-- The sets are the tests' nets, so the marks written and counted are those of the readings (marks-in).
use mathlib.Core.Path.{◌∙◌, ap}
use mathlib.Core.List.{List}
use Prim.Native.Nat.{ℕ}
use native.Mathlib.Omega.{arith}
use Rattle.rules.specs.File.{board_of}
use Rattle.rules.specs.Answers.{over}
use Rattle.rules.proofs.Shape.{laid, shaped}
use Rattle.marks.proofs.MarkedLaws.{marks-in, counted-in}
use Rattle.marks.proofs.judge_readings.Goals as goal

pub write_marks-requires : goal.write_marks-requires
write_marks-requires c =
    let n = c.requires.sized.nets-are in
    let nets-bounded = (laid _ (shaped _ c.requires.readings.checked)).nets.at_most in
    record { nets_in_bounds = c.requires.nets_in_bounds; nets_bound = omega arith }

pub returns : goal.returns
unfolding board_of
returns c =
    let m = c.write_marks.ensures in
    let t = marks-in _ _ _ c.collect-tests.ensures _ c.requires.sized.nets-are in
    record { out_after = m.buffer ∙ ap (λ (bytes : List ℕ). over bytes c.args.out.now) t; counted = counted-in _ _ _ _ m.counted t }
