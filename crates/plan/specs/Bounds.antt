-- How large a plan's four numbers may be, said of numbers alone: the type of a plan cites it. Assumes nothing.
use Rattle.std.specs.Prelude.{ℕ, ◌*◌, ◌≤◌}
use Rattle.rules.specs.File.{most_number}
use Rattle.words.specs.Sets.{net_words}

-- as many patterns as a code may have, loosely: `most_width` of them and some more
abbrev pub most_patterns : ℕ
most_patterns = 20

-- loose bounds of N, p, G and SSOL, within which no count overflows
pub record Bounded (n p g ssol : ℕ) : Type 0 where
  pub nets : n ≤ 64 * net_words
  pub coded : 1 ≤ p
  pub narrow : p ≤ most_patterns
  pub turns : 1 ≤ g
  pub groups-bounded : g ≤ most_number
  pub limited : 1 ≤ ssol
  pub limit-bounded : ssol ≤ most_number
