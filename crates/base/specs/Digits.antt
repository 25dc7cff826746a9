-- Binary digits, words made of them, and division rounded up. Assumes nothing.
use Rattle.std.specs.Prelude.{ℕ, ◌+◌, ◌-◌, ◌/◌, ◌%◌, ◌^◌, zero, suc, ◌*◌, Bool, eqb}
use Rattle.base.specs.Tests.{digit}

-- h / s, rounded up
unfoldable pub ceil : ℕ → ℕ → ℕ
ceil h s = (h + (s - 1)) / s

-- binary digit k of w, from the least
unfoldable pub bit : ℕ → ℕ → Bool
bit w k = eqb (w / 2 ^ k % 2) 1

-- the number whose n lowest binary digits are f 0, f 1, ..
unfoldable pub word : ℕ → (ℕ → Bool) → ℕ
word zero f = 0
word (suc n) f = word n f + digit (f n) * 2 ^ n
