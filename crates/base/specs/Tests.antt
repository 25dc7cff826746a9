-- Tests on the numbers below n: whether some or each passes, the lowest that does, and the largest of so many. Assumes nothing.
use Rattle.std.specs.Prelude.{ℕ, zero, suc, max, Bool, cond, false, ◌||◌, true, ◌&&◌}

-- 1 where the test passes, else 0
abbrev pub digit : Bool → ℕ
digit b = cond b 1 0

-- some number below n passes
unfoldable pub any : ℕ → (ℕ → Bool) → Bool
any zero p = false
any (suc n) p = p n || any n p

-- each number below n passes
unfoldable pub all : ℕ → (ℕ → Bool) → Bool
all zero p = true
all (suc n) p = p n && all n p

-- the largest of f 0 to f (n - 1), 0 where n is 0
unfoldable pub largest : ℕ → (ℕ → ℕ) → ℕ
largest zero f = 0
largest (suc n) f = max (largest n f) (f n)

-- the lowest of the `left` numbers from i on that passes, i + left where none does
unfoldable pub seek : (ℕ → Bool) → ℕ → ℕ → ℕ
seek p zero i = i
seek p (suc left) i =
    let later : ℕ = seek p left (suc i) in
    cond (p i) i later

-- the lowest number below n that passes, n where none does
unfoldable pub least : ℕ → (ℕ → Bool) → ℕ
least n p = seek p n 0
