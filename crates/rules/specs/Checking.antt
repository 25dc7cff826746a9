-- What a check of many places is lent: a function that tells of each place whether it fails there. Assumes nothing.
use Rattle.std.specs.Prelude.{◌≡◌, ℕ, ◌<◌, Bool}

-- each call at a place below `places` gives what the test says of it
abbrev pub Computes : (ℕ → Bool → Type 0) → ℕ → (ℕ → Bool) → Type 0
Computes gives places test = (place : ℕ) (fails : Bool) → place < places → gives place fails → fails ≡ test place
