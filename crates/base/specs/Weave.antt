-- Values with lists woven in between them. Assumes nothing.
use Rattle.std.specs.Prelude.{ℕ, zero, suc, List, [], ◌∷◌, ◌++◌}

-- for each i below n, base i and then the list between i
unfoldable pub weave {ℓ} : {A : Type ℓ} → (ℕ → A) → (ℕ → List A) → ℕ → List A
weave base after zero = []
weave base after (suc n) = weave base after n ++ (base n ∷ after n)
