-- How many of the numbers below n pass a test, and which are the lowest that do. Assumes nothing.
use Rattle.std.specs.Prelude.{ℕ, zero, suc, ◌+◌, Bool, ◌&&◌, ltb}
use Rattle.base.specs.Tests.{digit}

-- how many numbers below n pass
unfoldable pub count : ℕ → (ℕ → Bool) → ℕ
count zero p = 0
count (suc n) p = count n p + digit (p n)

-- m is one of the k lowest members of f
unfoldable pub among : ℕ → (ℕ → Bool) → ℕ → Bool
among k f m = f m && ltb (count m f) k
