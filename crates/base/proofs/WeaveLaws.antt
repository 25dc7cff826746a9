-- Laws of `weave`, over any base and any list between, for all that walks a plan's vectors.
-- The idea: part b of the weave is `base b ∷ after b`, and it starts where the weave of the b parts before it ends. So each place of the
-- weave is place k of one part b (`weave-finds`), and there stands what stands in that part (`weave_at`).
use Prim.Native.Nat.{ℕ, zero, suc, ◌+◌, ◌-◌, ◌≤◌, ◌<◌}
use mathlib.Core.Path.{◌≡◌, ◌∙◌}
use mathlib.Core.Logic.{◌⊎◌, inl, inr, ⊎_elim}
use mathlib.Core.List.{List, ◌∷◌}
use native.Mathlib.Nat.{add-zero, eq-or-lt_of_le}
use native.Mathlib.Numerals.{add-one}
use native.Mathlib.Omega.{arith}
use lib.ListN.{length, get_or, length-append, get_or-append}
use lib.Seq.{get_or-append-add}
use Rattle.base.specs.Weave.{weave}
use Rattle.base.proofs.BoolLaws.{order, below_suc}

module _ {ℓ} {A : Type ℓ} (base : ℕ → A) (after : ℕ → List A) where
  -- one more part adds its own length
  pub weave-length : (n : ℕ) → length (weave base after (suc n)) ≡ length (weave base after n) + suc (length (after n))
  unfolding weave
  weave-length n = length-append (weave base after n) (base n ∷ after n)

  -- a part starts no later than those after it
  pub weave-grows : (n : ℕ) {b : ℕ} → b ≤ n → length (weave base after b) ≤ length (weave base after n)
  weave-grows zero {b} h = let e : b ≡ 0 = omega arith in rw e (omega arith)
  weave-grows (suc n) {b} h =
      ⊎_elim (λ (e : b ≡ suc n). rw e (omega arith)) (λ (l : b < suc n). let g = weave-grows n {b = b} (omega arith) in omega (arith, weave-length n)) (eq-or-lt_of_le h)

  -- a part ends before those after it start
  pub weave-fits : (n : ℕ) {b : ℕ} → b < n → length (weave base after b) + suc (length (after b)) ≤ length (weave base after n)
  weave-fits n {b} h = omega (arith, weave-length b, weave-grows n h)

  -- place k of part b holds what that part holds there
  pub weave_at :
      (n : ℕ) (d : A) {b : ℕ} → b < n → (k : ℕ) → k ≤ length (after b) →
      get_or (weave base after n) (length (weave base after b) + k) d ≡ get_or (base b ∷ after b) k d
  unfolding weave
  weave_at zero d h k l = absurd (omega arith)
  weave_at (suc n) d {b} h k l =
      ⊎_elim
      (λ (e : b ≡ n). rw e (get_or-append-add (weave base after n) (base n ∷ after n) k d))
      (λ (m : b < n). get_or-append (weave base after n) (base n ∷ after n) d (length (weave base after b) + k) (omega (arith, weave-fits n m)) ∙ weave_at n d m k l)
      (below_suc h)

  -- a part starts with its base
  pub weave-at-base : (n : ℕ) (d : A) {b : ℕ} → b < n → get_or (weave base after n) (length (weave base after b)) d ≡ base b
  weave-at-base n d h = rw add-zero at (weave_at n d h 0 (omega arith))

  -- each place stands in one of the parts
  pub weave-finds : (n t : ℕ) → t < length (weave base after n) → (b : ℕ) × (b < n) × (k : ℕ) × (k ≤ length (after b)) × (t ≡ length (weave base after b) + k)
  unfolding weave
  weave-finds zero t h = absurd (omega arith)
  weave-finds (suc n) t h =
      ⊎_elim
      (λ (l : t < length (weave base after n)). let r = weave-finds n t l in (r.0, omega arith, r.2, r.3, r.4))
      (λ (l : length (weave base after n) ≤ t).
      (n, omega arith, t - length (weave base after n), omega (arith, weave-length n), omega arith))
      (order t (length (weave base after n)))

  -- what holds in every part holds everywhere
  pub weave-each {κ} :
      (n : ℕ) (d : A) (P : A → Type κ) →
      ((b : ℕ) → b < n → P (base b)) →
      ((b : ℕ) → b < n → (k : ℕ) → k < length (after b) → P (get_or (after b) k d)) →
      (t : ℕ) → t < length (weave base after n) → P (get_or (weave base after n) t d)
  weave-each n d P first rest t h = let r = weave-finds n t h in go r.0 r.1 r.2 r.3 r.4
    where
      go : (b : ℕ) → b < n → (k : ℕ) → k ≤ length (after b) → t ≡ length (weave base after b) + k → P (get_or (weave base after n) t d)
      go b m zero l e = rw (e, weave_at n d m 0 l) (first b m)
      go b m (suc k) l e = rw (e, weave_at n d m (suc k) l) (rest b m k l)

  -- what relates the neighbours in every part, and each part's last to the next part's base, relates all neighbours
  pub weave-neighbours {κ} :
      (n : ℕ) (d : A) (R : A → A → Type κ) →
      ((b : ℕ) → b < n → (k : ℕ) → k < length (after b) → R (get_or (base b ∷ after b) k d) (get_or (after b) k d)) →
      ((b : ℕ) → b + 1 < n → R (get_or (base b ∷ after b) (length (after b)) d) (base (b + 1))) →
      (t : ℕ) → t + 1 < length (weave base after n) → R (get_or (weave base after n) t d) (get_or (weave base after n) (t + 1) d)
  weave-neighbours n d R inside across t h =
      let r = weave-finds n t (omega arith) in
      go r.0 r.1 r.2 r.4 (eq-or-lt_of_le r.3)
    where
      go :
          (b : ℕ) → b < n → (k : ℕ) → t ≡ length (weave base after b) + k →
          (k ≡ length (after b)) ⊎ (k < length (after b)) → R (get_or (weave base after n) t d) (get_or (weave base after n) (t + 1) d)
      go b m k e (inl q) =
          let next : t + 1 ≡ length (weave base after (b + 1)) = rw (add-one b) (omega (arith, weave-length b)) in
          let ends : (suc b ≡ n) → ⊥ = λ z. omega (arith, weave-grows (suc b) {b = n} (omega arith), weave-length b) in
          let l : b + 1 < n = ⊎_elim (λ z. absurd (ends z)) (λ (l : suc b < n). omega arith) (eq-or-lt_of_le m) in
          rw (next, e, weave_at n d m k (omega arith), weave-at-base n d l, q) (across b l)
      go b m k e (inr l) =
          let next : t + 1 ≡ length (weave base after b) + suc k = omega arith in
          rw (next, e, weave_at n d m k (omega arith), weave_at n d m (suc k) l) (inside b m k l)
