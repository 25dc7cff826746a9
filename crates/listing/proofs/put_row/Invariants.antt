-- Each byte passed has put two digits.
use Rattle.std.proofs.Common.{◌≡◌, ◌+◌, ◌*◌, length}
use Rattle.listing.proofs.put_row.Given as goal

abbrev pub invariant-loop-byte : goal.invariant-loop-byte
invariant-loop-byte l = (length l.line ≡ length l.fn.line) × (l.next ≡ l.at + 2 * l.byte-index)
