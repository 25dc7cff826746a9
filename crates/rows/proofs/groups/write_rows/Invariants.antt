-- The rows of the groups before g stand in the buffer, and `earlier` has the cells that are on in these.
use Prim.Native.Nat.{◌+◌, ◌*◌, ◌-◌, ◌≤◌}
use mathlib.Core.Path.{◌≡◌}
use Rattle.rules.specs.Answers.{over}
use Rattle.rules.specs.File.{board_of}
use Rattle.rules.specs.Groups as Groups
use Rattle.words.specs.Sets.{member}
use Rattle.select.specs.Turns.{listed}
use Rattle.rows.proofs.groups.write_rows.Given as goal

abbrev pub invariant-loop-g : goal.invariant-loop-g
invariant-loop-g l =
    record {
      reached : l.g ≤ l.groups + 1;
      placed : l.at ≡ (l.g - 1) * l.bytes;
      earlier : member l.earlier.words ≡ listed (Groups.earlier (board_of l.file) (l.g - 1));
      written : l.out ≡ over (Groups.group_rows (board_of l.file) (l.g - 1)) l.initial.out;
    }
