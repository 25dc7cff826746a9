-- The net at a position is one answer: two that meet the contract of `net_at` on one file are equal, since a `Net` is its number.
use Prim.Native.Nat.{ℕ}
use mathlib.Core.Path.{◌≡◌, sym, ◌∙◌}
use mathlib.Core.List.{List}
use Rattle.rules.specs.File.{board_of, net_of}
use Rattle.rules.specs.declared.Net.{Net}

-- two that have the number of the net at p
pub net-once : (file : List ℕ) (p : ℕ) (r s : Net) → r.0 ≡ net_of ((board_of file).cell p) → s.0 ≡ net_of ((board_of file).cell p) → r ≡ s
net-once file p r s h k = λ i. record { 0 = (h ∙ sym k) i }
