-- Bit by bit, from pattern 1 on: t is where part j begins, and the entries have the bits of the base vectors before it.
use Rattle.std.proofs.Common.{◌≡◌}
use Rattle.plan.specs.Plans.{start_of}
use Rattle.readings.specs.Readings.{code_from, Mapped}
use Rattle.readings.proofs.codes.read_codes.Given as goal

abbrev pub invariant-loop-j : goal.invariant-loop-j
invariant-loop-j l =
    record { begins : l.t ≡ start_of l.plan l.j; codes : Mapped (code_from l.plan l.bytes l.capture l.j) l.initial.table l.cells l.table }
