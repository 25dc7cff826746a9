-- Laws of tests' answers: both, either, not, and two that are the same; a flag that is kept along a chain of tests; two numbers in order.
use Prim.Native.Nat.{ℕ, suc, ◌<◌, ◌≤◌}
use mathlib.Core.Path.{◌≡◌, refl, sym, ◌∙◌}
use mathlib.Core.Logic.{◌⊎◌, inl, inr, ⊎_elim}
use mathlib.Core.Bool.{Bool, true, false, ◌&&◌, false≢true, ◌||◌, true≢false, not, xor, beq}
use native.Mathlib.Nat.{eq-or-lt_of_le, le_of_suc-le-suc}
use borrow.Author.Tests.{eqb-true, eq-eqb, ltb-true, ltb-false}
use lib.Dec.{eqb, ltb}

-- a test either passes or fails
abbrev pub Decided : Bool → Type 0
Decided a = (a ≡ true) ⊎ (a ≡ false)

pub decided : (a : Bool) → Decided a
decided true = inl refl
decided false = inr refl

pub both : {a b : Bool} → a ≡ true → b ≡ true → (a && b) ≡ true
both {a} {b} ha hb = rw (ha, hb)

pub left : (a b : Bool) → (a && b) ≡ true → a ≡ true
left true b h = refl
left false b h = h

pub right : (a : Bool) {b : Bool} → (a && b) ≡ true → b ≡ true
right true h = h
right false h = absurd (false≢true h)

pub or_left : {a : Bool} (b : Bool) → a ≡ true → (a || b) ≡ true
or_left b h = rw h

pub or_right : (a : Bool) {b : Bool} → b ≡ true → (a || b) ≡ true
or_right true h = refl
or_right false h = h

pub or_cases : (a : Bool) {b : Bool} → (a || b) ≡ true → (a ≡ true) ⊎ (b ≡ true)
or_cases true h = inl refl
or_cases false h = inr h

-- where neither passes, and where one fails
pub or-neither : (a : Bool) {b : Bool} → (a || b) ≡ false → (a ≡ false) × (b ≡ false)
or-neither true h = absurd (true≢false h)
or-neither false h = (refl, h)

pub not-fails : {a : Bool} → a ≡ false → not a ≡ true
not-fails h = rw h

pub fails-not : (a : Bool) → not a ≡ true → a ≡ false
fails-not true h = absurd (false≢true h)
fails-not false h = refl

-- two answers that are not different are the same
pub alike : (a b : Bool) → xor a b ≡ false → a ≡ b
unfolding xor
alike true true h = refl
alike true false h = absurd (true≢false h)
alike false true h = absurd (true≢false h)
alike false false h = refl

pub passes-not : (a : Bool) → not a ≡ false → a ≡ true
passes-not true h = refl
passes-not false h = absurd (true≢false h)

-- a test that cannot pass fails, and one that cannot fail passes
pub fails-if : (a : Bool) → (a ≡ true → ⊥) → a ≡ false
fails-if true h = absurd (h refl)
fails-if false h = refl

pub passes-if : (a : Bool) → (a ≡ false → ⊥) → a ≡ true
passes-if true h = refl
passes-if false h = absurd (h refl)

pub clashes : {a : Bool} → a ≡ true → a ≡ false → ⊥
clashes t f = true≢false (sym t ∙ f)

-- two tests that pass together are equal
pub same_test : (a c : Bool) → (a ≡ true → c ≡ true) → (c ≡ true → a ≡ true) → a ≡ c
same_test true c f g = sym (f refl)
same_test false true f g = g refl
same_test false false f g = refl

-- two numbers are compared either way round
pub eqb-back : (a b : ℕ) → eqb a b ≡ eqb b a
eqb-back a b =
    same_test _ _ (λ t. eq-eqb b a (sym (eqb-true a b t))) (λ t. eq-eqb a b (sym (eqb-true b a t)))

-- below suc n: n itself, or below n
pub below_suc : {i n : ℕ} → i < suc n → (i ≡ n) ⊎ (i < n)
below_suc h = eq-or-lt_of_le (le_of_suc-le-suc h)

-- two numbers are in order one way or the other
pub order : (a b : ℕ) → (a < b) ⊎ (b ≤ a)
order a b = ⊎_elim (λ e. inl (ltb-true a b e)) (λ e. inr (ltb-false a b e)) (decided (ltb a b))

-- two answers compared
pub beq-true : (a b : Bool) → beq a b ≡ true → a ≡ b
beq-true true true h = refl
beq-true true false h = sym h
beq-true false true h = h
beq-true false false h = refl

pub beq-false : (a b : Bool) → beq a b ≡ false → a ≡ b → ⊥
beq-false true true h e = true≢false h
beq-false true false h e = true≢false e
beq-false false true h e = false≢true e
beq-false false false h e = true≢false h

-- a chain of tests, `a && b && ..`: the code keeps a flag, and tests it before each next test. Each law takes that f is the chain up to here,
-- what the test of f said, and what the flag r is then; r is what the chain says so far.
-- each: f passed, and r is the next test; or f failed, and r is f
pub and-next : {a b f r : Bool} → f ≡ a → f ≡ true → r ≡ b → r ≡ (a && b)
and-next e t n = rw (sym e ∙ t) n

pub and-stop : {a f r : Bool} (b : Bool) → f ≡ a → f ≡ false → r ≡ f → r ≡ (a && b)
and-stop b e t s = rw (sym e ∙ t) (s ∙ t)

-- some: f passed, and r is f; or f failed, and r is the next test
pub or-stop : {a f r : Bool} (b : Bool) → f ≡ a → f ≡ true → r ≡ f → r ≡ (a || b)
or-stop b e t s = rw (sym e ∙ t) (s ∙ t)

pub or-next : {a b f r : Bool} → f ≡ a → f ≡ false → r ≡ b → r ≡ (a || b)
or-next e t n = rw (sym e ∙ t) n
