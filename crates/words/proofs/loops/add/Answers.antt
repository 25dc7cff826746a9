-- `words::loops::add` meets its contract: 1 shifted up by i % 64 loses nothing and is one digit, which word i / 64 has besides.
use Prim.Native.Nat.{ℕ, ◌/◌, ◌%◌}
use mathlib.Core.Path.{◌∙◌, ap}
use native.Mathlib.Omega.{arith}
use lib.Bits.{bit_or}
use lib.ListN.{get_or, set}
use Rattle.base.proofs.WordLaws.{one_shifted}
use Rattle.words.specs.Sets.{member}
use Rattle.words.proofs.SetLaws.{member-plus}
use Rattle.words.proofs.loops.add.Goals as goal

pub returns : goal.returns
returns c =
    let i = c.args.i in
    let ws = c.args.words.now in
    ap (λ (x : ℕ). member (set ws (i / 64) (bit_or (get_or ws (i / 64) 0) x))) (one_shifted 64 (i % 64) (omega arith))
    ∙ member-plus ws i c.requires
