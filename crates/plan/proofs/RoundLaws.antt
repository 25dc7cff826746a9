-- Why one round of the patterns tells of all groups: base vector turn * wide + j has the values of base vector j, so as many vectors
-- follow it, and the parts start as far apart.
use Prim.Native.Nat.{ℕ, zero, suc, ◌+◌, ◌*◌, ◌-◌, ◌≤◌, ◌<◌}
use mathlib.Core.Path.{◌≡◌, refl, sym, ◌∙◌, ap, ap₂}
use mathlib.Core.Logic.{⊎_elim}
use mathlib.Core.Bool.{Bool}
use native.Mathlib.Nat.{add-zero, zero-mul, one-mul, add-mul, le_trans, mul-le-mul_left, mul-le-mul_right, mul-add-mod_self_right}
use native.Mathlib.Numerals.{add-one}
use native.Mathlib.Omega.{arith}
use lib.ListN.{length, get_or}
use Rattle.base.specs.Counting.{count}
use Rattle.base.specs.Digits.{ceil}
use Rattle.base.proofs.BoolLaws.{order}
use Rattle.base.proofs.WeaveLaws.{weave-finds}
use Rattle.base.proofs.DigitLaws.{ceil-bounded}
use Rattle.rules.specs.File.{most_number}
use Rattle.rules.specs.Vectors.{code_bit, changes, differs, inserted_after, between, steps_of}
use Rattle.rules.specs.declared.Step.TheVariants.{Base, Inserted}
use Rattle.words.specs.Sets.{net_words, unlike, up_to}
use Rattle.plan.specs.declared.numbers.Plan.{Plan}
use Rattle.plan.specs.Bounds.{most_patterns}
use Rattle.plan.specs.Plans.{bases_for, inserted_between, full_after, full_start, round_of, start_of}
use Rattle.plan.proofs.StepLaws.{size, size-positive, changes-all, changes-bounded, extra-with-next, extra-none, start-zero, start-next, start-end, part_length, step-base, step-inserted}

-- each vector before part k is one of an earlier part
pub locate : (p : Plan) (k u : ℕ) → u < start_of p k → (i : ℕ) × (i < k) × (j : ℕ) × (j ≤ inserted_after (bases_for p) i) × (u ≡ start_of p i + j)
unfolding start_of
locate p k u h =
    let r = weave-finds Base (between (bases_for p)) k u h in
    (r.0, r.1, r.2, rw (part_length p r.0) at r.3, r.4)

-- every turn has the same base vectors
pub base-turns : (p : Plan) (turn i : ℕ) → (bases_for p).value (turn * p.wide + i) ≡ (bases_for p).value i
unfolding bases_for
base-turns p turn i = ap (λ (k : ℕ). up_to p.nets (code_bit p.wide k)) (mul-add-mod_self_right turn p.wide i)

changes-turns : (p : Plan) (turn i : ℕ) → changes (bases_for p) (turn * p.wide + i) ≡ changes (bases_for p) i
unfolding changes differs
changes-turns p turn i =
    let e : turn * p.wide + i + 1 ≡ turn * p.wide + (i + 1) = omega arith in
    ap₂ (λ (f g : ℕ → Bool). count (bases_for p).nets (unlike f g)) (base-turns p turn i) (ap (bases_for p).value e ∙ base-turns p turn (i + 1))

-- so as many vectors follow each, where there is a next
pub full-turns : (p : Plan) (turn i : ℕ) → full_after p (turn * p.wide + i) ≡ full_after p i
unfolding full_after
full-turns p turn i = ap (λ (h : ℕ). ceil h p.limit - 1) (changes-turns p turn i)

pub full_is : (p : Plan) (i : ℕ) → i + 1 < size p → full_after p i ≡ inserted_after (bases_for p) i
unfolding full_after
full_is p i l = extra-with-next p i (changes (bases_for p) i) l refl

-- and each round starts as far behind the one before
pub full-zero : (p : Plan) → full_start p 0 ≡ 0
unfolding full_start
full-zero p = refl

pub full-next : (p : Plan) (i : ℕ) → full_start p (i + 1) ≡ full_start p i + (1 + full_after p i)
unfolding full_start
full-next p i = rw (add-one i) (omega arith)

full-later : (p : Plan) (turn i : ℕ) → full_start p (turn * p.wide + i) ≡ full_start p (turn * p.wide) + full_start p i
unfolding full_start
full-later p turn zero = rw (add-zero (turn * p.wide), add-zero (full_start p (turn * p.wide)))
full-later p turn (suc i) =
    let r = full-later p turn i in
    let f = full-turns p turn i in
    let e : turn * p.wide + suc i ≡ suc (turn * p.wide + i) = omega arith in
    rw e (omega arith)

full-rounds : (p : Plan) (turn : ℕ) → full_start p (turn * p.wide) ≡ turn * round_of p
unfolding full_start round_of
full-rounds p zero = rw (zero-mul p.wide, zero-mul (full_start p p.wide))
full-rounds p (suc turn) =
    let r = full-rounds p turn in
    let e : suc turn * p.wide ≡ turn * p.wide + p.wide = omega arith in
    rw e (omega (arith, full-later p turn p.wide))

-- a part of the plan starts where it does with another always following
pub full-starts : (p : Plan) (i : ℕ) → i < size p → start_of p i ≡ full_start p i
unfolding full_start
full-starts p zero l = start-zero p
full-starts p (suc i) l =
    let r = full-starts p i (omega arith) in
    let f = full_is p i (omega arith) in
    rw (← add-one i) (omega (arith, start-next p i, full-next p i))

-- so part j of a later turn starts as many rounds later
pub start-turns : (p : Plan) (turn j : ℕ) → turn * p.wide + j < size p → start_of p (turn * p.wide + j) ≡ turn * round_of p + full_start p j
start-turns p turn j l = full-starts p _ l ∙ full-later p turn j ∙ ap (λ (t : ℕ). t + full_start p j) (full-rounds p turn)

-- a group later as many vectors follow, and the part starts a round later
pub extra-repeats : (p : Plan) (i : ℕ) → p.wide + i + 1 < size p → inserted_after (bases_for p) (p.wide + i) ≡ inserted_after (bases_for p) i
extra-repeats p i l =
    sym (full_is p (p.wide + i) l) ∙ (rw one-mul at (full-turns p 1 i)) ∙ full_is p i (omega arith)

pub start-repeats : (p : Plan) (i : ℕ) → p.wide + i < size p → start_of p (p.wide + i) ≡ round_of p + start_of p i
unfolding round_of
start-repeats p i l = full-starts p (p.wide + i) l ∙ (rw one-mul at (full-later p 1 i)) ∙ ap (λ (t : ℕ). round_of p + t) (sym (full-starts p i (omega arith)))

-- after the very last base vector nothing is inserted
pub total-rounds : (p : Plan) → length (steps_of (bases_for p)) + full_after p (p.wide - 1) ≡ p.groups * round_of p
total-rounds p = go (size p - 1) (let z = size-positive p in omega arith)
  where
    go : (i : ℕ) → i + 1 ≡ size p → length (steps_of (bases_for p)) + full_after p (p.wide - 1) ≡ p.groups * round_of p
    go i q =
        let w = p.small.coded in
        let g = p.small.turns in
        let m : p.groups ≡ p.groups - 1 + 1 = omega arith in
        let n = ap (λ (k : ℕ). k * p.wide) m ∙ add-mul (p.groups - 1) 1 p.wide in
        let last : i ≡ (p.groups - 1) * p.wide + (p.wide - 1) = omega arith in
        let f = ap (full_after p) last ∙ full-turns p (p.groups - 1) (p.wide - 1) in
        omega (arith, start-end p, ap (start_of p) q, start-next p i, extra-none p i (omega arith), full-starts p i (omega arith), full-next p i, ap (full_start p) q, full-rounds p p.groups)

-- the first round's base vectors are the plan's
pub round-below : (p : Plan) → (j : ℕ) → j < p.wide → j < size p
round-below p j l = let m = mul-le-mul_right p.wide p.small.turns in omega (arith, one-mul p.wide)

-- the bounds of a round
pub full-bounded : (p : Plan) → (i : ℕ) → full_after p i ≤ 64 * net_words
unfolding full_after
full-bounded p i = le_trans (ceil-bounded (changes (bases_for p) i) p.limit p.small.limited) (changes-bounded p i)

pub full-start-bounded : (p : Plan) → (i : ℕ) → full_start p i ≤ (64 * net_words + 1) * i
unfolding full_start
full-start-bounded p zero = omega arith
full-start-bounded p (suc i) = let r = full-start-bounded p i in omega (arith, full-bounded p i)

pub round-bounded : (p : Plan) → round_of p ≤ (64 * net_words + 1) * most_patterns
unfolding round_of
round-bounded p = let n = p.small.narrow in omega (arith, full-start-bounded p p.wide)

pub rounds-bounded : (p : Plan) → p.groups * round_of p ≤ most_number * ((64 * net_words + 1) * most_patterns)
rounds-bounded p = le_trans (mul-le-mul_right (round_of p) p.small.groups-bounded) (mul-le-mul_left most_number (round-bounded p))

full-start-at-least : (p : Plan) (i : ℕ) → i ≤ full_start p i
unfolding full_start
full-start-at-least p zero = omega arith
full-start-at-least p (suc i) = let r = full-start-at-least p i in omega arith

pub round-positive : (p : Plan) → 1 ≤ round_of p
unfolding round_of
round-positive p = let w = p.small.coded in omega (arith, full-start-at-least p p.wide)

-- what is inserted between the values of two neighbours
pub between_is : (p : Plan) → (i : ℕ) (old new : ℕ → Bool) → old ≡ (bases_for p).value i → new ≡ (bases_for p).value (i + 1) → inserted_between old new p.limit ≡ full_after p i
unfolding inserted_between full_after differs
between_is p i old new e h =
    ap₂ (λ (f g : ℕ → Bool). ceil (count (64 * net_words) (unlike f g)) p.limit - 1) e h ∙ ap (λ (n : ℕ). ceil n p.limit - 1) (changes-all p i)

-- vector t of a turn, in part j of its round, and what stands there
module _ (p : Plan) (turn t j left : ℕ) (h : turn * round_of p + t < length (steps_of (bases_for p))) (l : j < p.wide) (e : full_start p j + left ≡ t) where
  pub turn-bounded : turn * p.wide + j < size p
  turn-bounded = ⊎_elim inside past (order turn p.groups)
    where
      inside : turn < p.groups → turn * p.wide + j < size p
      inside q = let m = mul-le-mul_right p.wide q in omega arith

      past : p.groups ≤ turn → turn * p.wide + j < size p
      past q = absurd (let m = mul-le-mul_right (round_of p) q in omega (arith, total-rounds p))

  turn-start : start_of p (turn * p.wide + j) + left ≡ turn * round_of p + t
  turn-start = omega (arith, start-turns p turn j turn-bounded)

  turn-left : left ≤ full_after p j → left ≤ inserted_after (bases_for p) (turn * p.wide + j)
  turn-left m = ⊎_elim more last (order (turn * p.wide + j + 1) (size p))
    where
      more : turn * p.wide + j + 1 < size p → left ≤ inserted_after (bases_for p) (turn * p.wide + j)
      more q = omega (arith, full_is p (turn * p.wide + j) q, full-turns p turn j)

      last : size p ≤ turn * p.wide + j + 1 → left ≤ inserted_after (bases_for p) (turn * p.wide + j)
      last q =
          let z : turn * p.wide + j + 1 ≡ size p = omega (arith, turn-bounded) in
          omega (arith, turn-start, start-next p (turn * p.wide + j), ap (start_of p) z, start-end p)

  pub turn-base : left ≡ 0 → Base (turn * p.wide + j) ≡ get_or (steps_of (bases_for p)) (turn * round_of p + t) (Base 0)
  turn-base z = step-base p _ _ left turn-bounded turn-start z

  pub turn-inserted : (left ≡ 0 → ⊥) → left ≤ full_after p j → Inserted (turn * p.wide + j) left ≡ get_or (steps_of (bases_for p)) (turn * round_of p + t) (Base 0)
  turn-inserted z m = step-inserted p _ _ left turn-bounded turn-start z (turn-left m)
