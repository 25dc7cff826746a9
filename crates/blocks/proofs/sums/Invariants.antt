-- `blocks::sums` meets its contract. The invariant: what is left of the bytes, added to the sums so far, gives the sums of all.
use Rattle.std.proofs.Common.{◌≡◌, drop}
use Rattle.rules.specs.File.{sums_from, sums_of}
use Rattle.blocks.proofs.sums.Given as goal

abbrev pub invariant-loop-byte : goal.invariant-loop-byte
invariant-loop-byte l = sums_from (record { a = l.a; b = l.b }) (drop l.byte-index l.bytes) ≡ sums_of l.bytes
