-- The numbers of pass, fail and unsure are one answer: two that meet the contract of `judge_readings` on one board and one list of readings are equal.
use Prim.Native.Nat.{ℕ}
use mathlib.Core.Path.{◌≡◌, sym, ◌∙◌}
use mathlib.Core.List.{List}
use Rattle.rules.specs.File.{Board}
use Rattle.marks.specs.Judging.{Counted}
use Rattle.marks.specs.declared.Counts.{Counts}

-- number by number
pub counted-once : (b : Board) (readings : List ℕ) (r s : Counts) → Counted b readings r → Counted b readings s → r ≡ s
counted-once b readings r s h k =
    λ i. record { pass = (h.pass ∙ sym k.pass) i; fail = (h.fail ∙ sym k.fail) i; unsure = (h.unsure ∙ sym k.unsure) i }
