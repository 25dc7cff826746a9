-- `words::loops::keep_lowest` meets its contract: the first j words hold their part of the k lowest, and `left` of the k are still to come.
use Prim.Native.Nat.{ℕ, ◌+◌, ◌*◌, ◌-◌, ◌^◌, ◌≤◌, ◌<◌}
use mathlib.Core.Path.{◌≡◌, sym, ◌∙◌, ap, ap₂}
use mathlib.Core.Bool.{Bool, ◌&&◌}
use mathlib.Core.List.{List}
use native.Mathlib.Omega.{arith}
use borrow.Author.Tests.{lt-ltb, ltb-true}
use lib.Count.{ones}
use lib.Dec.{ltb}
use lib.ListN.{get_or}
use Rattle.base.specs.Counting.{count, among}
use Rattle.base.specs.Digits.{bit}
use Rattle.base.proofs.BoolLaws.{same_test}
use Rattle.base.proofs.CountingLaws.{count-among}
use Rattle.base.proofs.WordLaws.{count_bits}
use Rattle.words.specs.Sets.{member}
use Rattle.words.proofs.SetLaws.{member-at, member-out, members-count, written_none, written-more, written_all}
use Rattle.words.proofs.loops.keep_lowest.Goals as goal
use Rattle.words.proofs.loops.keep_lowest.Goals.{After-cut}
use Rattle.words.proofs.loops.keep_lowest.Invariants.{left_at}

-- word j's own lowest, as many as are left, are its part of the k lowest
part_at : (ws : List ℕ) (k j i : ℕ) → i < 64 → among (left_at ws k j) (bit (get_or ws j 0)) i ≡ among k (member ws) (64 * j + i)
unfolding among
part_at ws k j i h =
    ap₂ ◌&&◌ (sym (member-at ws j i h)) (room (count i (bit (get_or ws j 0))) (count (64 * j + i) (member ws)) (members-count ws j i (omega arith)))
  where
    room : (x y : ℕ) → y ≡ count (64 * j) (member ws) + x → ltb x (left_at ws k j) ≡ ltb y k
    room x y e =
        same_test (ltb x (left_at ws k j)) (ltb y k)
        (λ t. lt-ltb y k (omega (arith, ltb-true x (left_at ws k j) t)))
        (λ t. lt-ltb x (left_at ws k j) (omega (arith, ltb-true y k t)))

-- what word j keeps: its part, and how many then are left
record Part (ws : List ℕ) (k j kept : ℕ) : Type 0 where
  digits : (i : ℕ) → i < 64 → bit kept i ≡ among k (member ws) (64 * j + i)
  within : ones kept ≤ left_at ws k j
  next : left_at ws k j - ones kept ≡ left_at ws k (j + 1)

part : (ws : List ℕ) (k j kept : ℕ) → kept < 2 ^ 64 → bit kept ≡ among (left_at ws k j) (bit (get_or ws j 0)) → Part ws k j kept
part ws k j kept h b =
    let own = bit (get_or ws j 0) in
    let o = sym (count_bits 64 kept h) ∙ ap (count 64) b ∙ count-among 64 (left_at ws k j) own in
    let e : 64 * (j + 1) ≡ 64 * j + 64 = omega arith in
    let c : count (64 * (j + 1)) (member ws) ≡ count (64 * j) (member ws) + count 64 own = rw e (members-count ws j 64 (omega arith)) in
    record { digits = λ i l. ap (λ (f : ℕ → Bool). f i) b ∙ part_at ws k j i l; within = omega arith; next = omega arith }

-- the word that `cut` gave is word j's part, by the invariant
here : (c : After-cut) → Part c.args.words.now c.args.k c.loop-word.word-index c.cut.result
here c =
    let own = ap₂ (λ (n w : ℕ). among n (bit w)) c.loop-word.invariant.1 (c.loop-word.invariant.0.rest c.loop-word.word-index (omega arith)) in
    part _ _ c.loop-word.word-index c.cut.result (omega arith) (c.cut.ensures ∙ own)

pub returns : goal.returns
unfolding among
returns c =
    let ws = c.args.words.now in
    written_all _ _ c.loop-word.invariant.0 (omega arith) (λ i h. rw (member-out ws h))

pub loop-word-init : goal.loop-word-init
unfolding count
loop-word-init c = (written_none _ _, omega arith)

pub overflow_sub-left : goal.overflow_sub-left
overflow_sub-left c = omega (arith, (here (goal.at.overflow_sub-left c).After-cut).within)

pub loop-word-preserved : goal.loop-word-preserved
loop-word-preserved c =
    let p = here (goal.at.loop-word-preserved c).After-cut in
    (written-more _ _ c.loop-word.invariant.0 (omega arith) c.cut.result p.digits, ap (λ (n : ℕ). n - ones c.cut.result) c.loop-word.invariant.1 ∙ p.next)
