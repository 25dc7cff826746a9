-- The limits that follow from others: a row of the most cells, and the code of the most nets. A larger limit that these do not fit fails here.
use mathlib.Core.Path.{◌≡◌, refl}
use Rattle.base.specs.Digits.{ceil}
use Rattle.base.specs.Tests.{seek, least}
use Rattle.rules.specs.Rows.{row_bytes}
use Rattle.rules.specs.Refusals.{most_cells, most_nets, most_bytes, most_width}
use Rattle.rules.specs.Vectors.{code_width}

-- R is `most_bytes` for the most cells
pub most_bytes-is : row_bytes most_cells ≡ most_bytes
unfolding row_bytes ceil
most_bytes-is = refl

-- p is `most_width` for the most nets
pub most-width : code_width most_nets ≡ most_width
unfolding code_width least seek
most-width = refl
