-- The order of the checks of a file's shape, each row as its first check and then the rest, and what an accepted one leaves for the next.
use Rattle.std.proofs.Common.{◌≡◌, ℕ, ◌<◌, false, not, List, [], ◌∷◌, ◌++◌, sym, ◌∙◌, arith, ltb-true}
use Rattle.base.proofs.BoolLaws.{left, passes-not}
use Rattle.rules.specs.File.{summed, blocks_in, zeros, head_right, header_right}
use Rattle.rules.specs.Refusals.{Check, judge, once, each, wrong_length, outside, block_wrong, shape_checks, Accepted}
use Rattle.rules.proofs.CheckLaws.{once-accepted, found, ended}
use Rattle.base.proofs.TestLaws.{search-next}
use Rattle.rules.proofs.Verdicts.{stopped, passed, Then, then_append, all_pass}
use Rattle.blocks.specs.Reading.{signature_right, sums_check}
use Rattle.blocks.proofs.ReadingLaws.{held, refused}
use Rattle.blocks.proofs.Lengths.{lengths}
use Rattle.blocks.specs.Places.{Headed}
use Rattle.blocks.proofs.Heading.{head-right, right-one-more, right-no-more, headed-first, header-parts}

module _ (file : List ℕ) where
  abbrev length-check : List Check
  length-check = once 1 (wrong_length file) ∷ []

  abbrev header-checks : List Check
  header-checks = once 3 (not (header_right file)) ∷ once 4 (outside file) ∷ []

  abbrev layout-check : List Check
  layout-check = each 5 (blocks_in file) (block_wrong file) ∷ []

  pub row-length : Then (judge length-check) (judge (sums_check file ++ header-checks ++ layout-check)) (judge (shape_checks file))
  unfolding shape_checks
  row-length = then_append length-check (sums_check file ++ header-checks ++ layout-check)

  pub row-sums : Then (judge (sums_check file)) (judge (header-checks ++ layout-check)) (judge (sums_check file ++ header-checks ++ layout-check))
  row-sums = then_append (sums_check file) (header-checks ++ layout-check)

  pub row-three : Then (judge (once 3 (not (header_right file)) ∷ [])) (judge (once 4 (outside file) ∷ [])) (judge header-checks)
  row-three = then_append (once 3 (not (header_right file)) ∷ []) (once 4 (outside file) ∷ [])

  pub row-header : Then (judge header-checks) (judge layout-check) (judge (header-checks ++ layout-check))
  row-header = then_append header-checks layout-check

  -- a header that is accepted has its head
  pub heads-positive : (heads : ℕ) → Headed file heads → judge header-checks ≡ Accepted → 0 < heads
  heads-positive heads h e =
      let right = passes-not (header_right file) ((all_pass header-checks e).0 0 (omega arith)) in
      ltb-true 0 heads (headed-first file heads h ∙ left (head_right file 0 1 0) (signature_right file) (left _ (zeros file 16 summed) (sym (header-parts file) ∙ right)))

  pub accepted-length : Accepted ≡ judge length-check → wrong_length file ≡ false
  accepted-length e = once-accepted 1 _ (sym e)

-- what the search takes: to read all blocks, for the header's row, for the layout's check, for all five checks in their row
pub ruleset reading = (lengths, held, refused, found, ended, search-next, head-right, right-one-more, right-no-more)

pub ruleset heading = (lengths, row-three, stopped, passed)

pub ruleset laying = (lengths, ended, search-next)

pub ruleset shaping = (lengths, accepted-length, row-length, row-sums, row-header, stopped, passed)
