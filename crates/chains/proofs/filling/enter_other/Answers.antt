-- No output: nothing changes; an output is linked by its net.
use mathlib.Core.Path.{sym}
use native.Mathlib.Omega.{arith}
use Rattle.chains.proofs.Entering.{enter-none, enter-output, output-fits}
use Rattle.chains.proofs.filling.enter_other.Goals as goal

pub returns-in_default : goal.returns-in_default
returns-in_default c = enter-none _ _ _ c.requires.entered c.requires.c_bound (sym c.in_default.ensures)

pub splice-requires : goal.splice-requires
splice-requires c =
    let f = output-fits _ _ _ c.requires.entered c.requires.c_bound _ (sym c.in-Some.ensures) in
    (f.0, let l = f.1 in omega arith)

pub returns : goal.returns
returns c = rw c.splice.ensures (enter-output _ _ _ c.requires.entered c.requires.c_bound _ (sym c.in-Some.ensures) c.requires.c_value)
