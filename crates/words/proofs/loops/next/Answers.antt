-- `words::loops::next` meets its contract: from `from` to i there is no member, and the lowest one of word i / 64, shifted down to i, is
-- the lowest member from i on.
use Prim.Native.Nat.{ℕ, ◌+◌, ◌*◌, ◌-◌, ◌/◌, ◌%◌, ◌^◌, ◌≤◌, ◌<◌}
use mathlib.Core.Path.{◌≡◌, sym, ◌∙◌, ap}
use mathlib.Core.Logic.{⊎_elim}
use mathlib.Core.List.{List}
use native.Mathlib.Omega.{arith}
use lib.Count.{count_trailing_zeros, trailing_le}
use lib.ListN.{length, get_or}
use lib.Pow.{shr_lt}
use Rattle.base.specs.Digits.{bit}
use Rattle.base.proofs.TestLaws.{Lowest, lowest-none, lowest-on, seek-at}
use Rattle.base.proofs.BoolLaws.{order}
use Rattle.base.proofs.WordLaws.{bit-zero, none-zero, trailing-lowest}
use Rattle.words.specs.Sets.{member}
use Rattle.words.proofs.SetLaws.{member-from}
use Rattle.words.proofs.loops.next.Goals as goal
use Rattle.words.proofs.loops.next.Goals.{Then-word-ne0}

-- word i / 64, shifted down to i
abbrev shifted : List ℕ → ℕ → ℕ
shifted ws i = get_or ws (i / 64) 0 / 2 ^ (i % 64)

module _ (ws : List ℕ) (i : ℕ) where
  -- no member from i to the end of its word, where that word is zero from i on
  none_here : shifted ws i ≡ 0 → Lowest (member ws) i (64 * (i / 64 + 1)) (64 * (i / 64 + 1))
  none_here e =
      lowest-none _ (omega arith) (λ m l h. member-from ws i l h ∙ ap (λ (w : ℕ). bit w (m - i)) e ∙ bit-zero (m - i))

  -- and else the lowest member is there
  lowest-here :
      i / 64 < length ws → get_or ws (i / 64) 0 < 2 ^ 64 → (shifted ws i ≡ 0 → ⊥) →
      Lowest (member ws) i (64 * length ws) (i + count_trailing_zeros 64 (shifted ws i))
  lowest-here l h e = go (count_trailing_zeros 64 (shifted ws i)) (trailing-lowest 64 (shifted ws i))
    where
      word-bounded : shifted ws i < 2 ^ (64 - i % 64)
      word-bounded = let n : (64 - i % 64) + i % 64 ≡ 64 = omega arith in shr_lt (64 - i % 64) (i % 64) (rw n h)

      go : (t : ℕ) → Lowest (bit (shifted ws i)) 0 64 t → Lowest (member ws) i (64 * length ws) (i + t)
      go t s =
          let zero : 64 - i % 64 ≤ t → shifted ws i ≡ 0 = λ q. none-zero (64 - i % 64) _ word-bounded (λ k m. s.lower k (omega arith) (omega arith)) in
          let q : t < 64 - i % 64 = ⊎_elim (λ q. q) (λ q. absurd (e (zero q))) (order t (64 - i % 64)) in
          let x : i + t - i ≡ t = omega arith in
          record {
            above = omega arith;
            under = omega arith;
            passes = λ m. member-from ws i {m = i + t} (omega arith) (omega arith) ∙ ap (bit (shifted ws i)) x ∙ s.passes (omega arith);
            lower = λ m a b. member-from ws i a (omega arith) ∙ s.lower (m - i) (omega arith) (omega arith);
          }

zeros : (c : Then-word-ne0) → count_trailing_zeros 64 (shifted c.args.words.now c.loop-i.i) ≤ 64
zeros c = trailing_le 64 _

pub returns-then-word-ne0 : goal.returns-then-word-ne0
returns-then-word-ne0 c =
    let fits = (c.shared_slice_known-1.given (c.loop-i.i / 64)).fits in
    sym (seek-at _ (lowest-on c.loop-i.invariant.1 (lowest-here _ c.loop-i.i c.loop-i-test.true fits c.if-word-ne0.true)))

pub loop-i-preserved : goal.loop-i-preserved
loop-i-preserved c =
    (omega arith, lowest-on c.loop-i.invariant.1 (none_here _ c.loop-i.i c.if-word-ne0.false))

pub returns : goal.returns
returns c =
    let ws = c.args.words.now in
    let e : c.loop-i.i ≡ 64 * length ws = omega arith in
    e ∙ sym (seek-at (member ws) (rw e at c.loop-i.invariant.1))
