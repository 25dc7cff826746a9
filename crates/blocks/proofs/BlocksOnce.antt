-- The header's sizes are one answer: two that meet the contract of `read_sizes` on one file are equal. The idea: each of the three numbers is the file's.
use Rattle.std.proofs.Common.{◌≡◌, ℕ, List, sym, ◌∙◌}
use Rattle.blocks.specs.Reading.{SizesOf}
use Rattle.blocks.specs.declared.Sizes.{Sizes}

-- number by number
pub sizes-once : (file : List ℕ) (r s : Sizes) → SizesOf file r → SizesOf file s → r ≡ s
sizes-once file r s h k =
    λ i. record { cells = (h.cells ∙ sym k.cells) i; nets = (h.nets ∙ sym k.nets) i; limit = (h.limit ∙ sym k.limit) i }
