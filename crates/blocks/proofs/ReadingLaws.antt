-- What a block that was read says of its sums: one that holds something passed, and holds its own head; one that is refused failed, with
-- refusal 2 at its own place. The idea: reading goes by one test, and its two results are never equal.
use Rattle.std.proofs.Common.{Ok, Err, ◌≡◌, ℕ, Bool, true, false, cond, not, List, refl}
use Rattle.rules.specs.File.{sums_right}
use Rattle.rules.specs.Refusals.{numbered}
use Rattle.rules.specs.declared.Refusal.{Refusal}
use Rattle.blocks.specs.Reading.{head_of, block_of}
use Rattle.blocks.specs.declared.Head.{Head}

passed : (right : Bool) (h : Head) (r : Refusal) {head : Head} → Ok head ≡ cond right (Ok h) (Err r) → (not right ≡ false) × (head ≡ h)
passed true h r e = (refl, cc)
passed false h r e = (cc, cc)

failed : (right : Bool) (h : Head) (r : Refusal) {s : Refusal} → Err s ≡ cond right (Ok h) (Err r) → (not right ≡ true) × (s ≡ r)
failed true h r e = (cc, cc)
failed false h r e = (refl, cc)

pub held : (file : List ℕ) (i : ℕ) {head : Head} → Ok head ≡ block_of file i → (not (sums_right file i) ≡ false) × (head ≡ head_of file i)
unfolding block_of
held file i e = passed (sums_right file i) _ _ e

pub refused : (file : List ℕ) (i : ℕ) {s : Refusal} → Err s ≡ block_of file i → (not (sums_right file i) ≡ true) × (s ≡ numbered 2 i)
unfolding block_of
refused file i e = failed (sums_right file i) _ _ e
