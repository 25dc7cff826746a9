-- A net whose head names none has no output.
use Rattle.std.proofs.Common.{rules}
use Rattle.nets.specs.Nets.{undriven_in}
use Rattle.nets.proofs.NetChecks.{none-zero}
use Rattle.nets.proofs.undriven_verdict.Goals as goal

pub returns : goal.returns
unfolding undriven_in
returns c = c.each.ensures (undriven_in c.args.board.now.table.now) (λ place fails l gives. search (rules, none-zero))
