-- A plan's steps, part by part: part i is base vector i with those inserted after it, and `start_of` is where it starts.
use Prim.Native.Nat.{ℕ, zero, suc, ◌+◌, ◌*◌, ◌-◌, ◌≤◌, ◌<◌}
use mathlib.Core.Path.{◌≡◌, refl, sym, ◌∙◌, ap}
use mathlib.Core.Logic.{⊎_elim}
use mathlib.Core.Bool.{xor}
use mathlib.Core.List.{◌∷◌}
use native.Mathlib.Nat.{le_trans, mul-le-mul_left, mul-le-mul_right}
use native.Mathlib.Numerals.{add-one}
use native.Mathlib.Omega.{arith}
use borrow.Author.Tests.{lt-ltb, le-ltb}
use lib.ListN.{length, get_or}
use Rattle.base.specs.Counting.{count}
use Rattle.base.specs.Digits.{ceil}
use Rattle.base.specs.Weave.{weave}
use Rattle.base.proofs.CountingLaws.{count-le}
use Rattle.base.proofs.BoolLaws.{order}
use Rattle.base.proofs.ListLaws.{length-table, table_at}
use Rattle.base.proofs.WeaveLaws.{weave-length, weave_at}
use Rattle.base.proofs.BoundLaws.{count-bound}
use Rattle.base.proofs.DigitLaws.{ceil-bounded}
use Rattle.rules.specs.File.{most_number}
use Rattle.rules.specs.Vectors.{differs, changes, inserted_after, between, steps_of}
use Rattle.rules.specs.declared.Step.TheVariants.{Base, Inserted}
use Rattle.words.specs.Sets.{net_words, up_to}
use Rattle.plan.specs.declared.numbers.Plan.{Plan}
use Rattle.plan.specs.Bounds.{most_patterns}
use Rattle.plan.specs.Plans.{bases_for, start_of}

-- the number of base vectors
abbrev pub size : Plan → ℕ
size p = p.groups * p.wide

pub size-bounded : (p : Plan) → size p ≤ most_number * most_patterns
size-bounded p = le_trans (mul-le-mul_right p.wide p.small.groups-bounded) (mul-le-mul_left most_number p.small.narrow)

pub size-positive : (p : Plan) → 1 ≤ size p
size-positive p = le_trans (mul-le-mul_right 1 p.small.turns) (mul-le-mul_left p.groups p.small.coded)

-- what differs lies below N, so a count over all members of a set counts it
pub changes-all : (p : Plan) → (i : ℕ) → count (64 * net_words) (differs (bases_for p) i) ≡ changes (bases_for p) i
unfolding changes differs bases_for up_to xor
changes-all p i = count-bound _ p.small.nets (λ m h l. rw (le-ltb m p.nets h) refl)

pub changes-bounded : (p : Plan) → (i : ℕ) → changes (bases_for p) i ≤ 64 * net_words
unfolding changes bases_for
changes-bounded p i = le_trans (count-le p.nets (differs (bases_for p) i)) p.small.nets

-- how many are inserted after base vector i, by whether there is a next
pub extra-with-next : (p : Plan) (i h : ℕ) → i + 1 < size p → h ≡ changes (bases_for p) i → ceil h p.limit - 1 ≡ inserted_after (bases_for p) i
unfolding inserted_after bases_for
extra-with-next p i h l e = rw (e, lt-ltb (i + 1) (size p) l) refl

pub extra-none : (p : Plan) (i : ℕ) → size p ≤ i + 1 → 0 ≡ inserted_after (bases_for p) i
unfolding inserted_after bases_for
extra-none p i l = rw (le-ltb (i + 1) (size p) l) refl

pub extra-bounded : (p : Plan) → (i : ℕ) → inserted_after (bases_for p) i ≤ 64 * net_words
extra-bounded p i = ⊎_elim has-next none (order (i + 1) (size p))
  where
    has-next : i + 1 < size p → inserted_after (bases_for p) i ≤ 64 * net_words
    has-next l =
        rw (← extra-with-next p i (changes (bases_for p) i) l refl) (le_trans (ceil-bounded (changes (bases_for p) i) p.limit p.small.limited) (changes-bounded p i))

    none : size p ≤ i + 1 → inserted_after (bases_for p) i ≤ 64 * net_words
    none l = rw (← extra-none p i l) (omega arith)

-- where the parts start
pub start-zero : (p : Plan) → start_of p 0 ≡ 0
unfolding start_of weave
start-zero p = refl

pub part_length : (p : Plan) (i : ℕ) → length (between (bases_for p) i) ≡ inserted_after (bases_for p) i
unfolding between
part_length p i = length-table (inserted_after (bases_for p) i) (λ t. Inserted i (t + 1))

pub start-next : (p : Plan) (i : ℕ) → start_of p (i + 1) ≡ start_of p i + (1 + inserted_after (bases_for p) i)
unfolding start_of
start-next p i = rw (add-one i, weave-length Base (between (bases_for p)) i, part_length p i) (omega arith)

-- the parts of all base vectors are all steps
pub start-end : (p : Plan) → start_of p (size p) ≡ length (steps_of (bases_for p))
unfolding start_of steps_of bases_for
start-end p = refl

-- in part i stands the base vector, then those inserted after it
step_in :
    (p : Plan) (i left : ℕ) → i < size p → left ≤ inserted_after (bases_for p) i →
    get_or (steps_of (bases_for p)) (start_of p i + left) (Base 0) ≡ get_or (Base i ∷ between (bases_for p) i) left (Base 0)
unfolding start_of steps_of bases_for
step_in p i left l m = weave_at Base (between (bases_for p)) (size p) (Base 0) l left (rw (part_length p i) m)

pub step-base : (p : Plan) (t i left : ℕ) → i < size p → start_of p i + left ≡ t → left ≡ 0 → Base i ≡ get_or (steps_of (bases_for p)) t (Base 0)
step-base p t i left l e z = sym (rw (← e, z) (step_in p i 0 l (omega arith)))

pub step-inserted :
    (p : Plan) (t i left : ℕ) → i < size p → start_of p i + left ≡ t → (left ≡ 0 → ⊥) → left ≤ inserted_after (bases_for p) i →
    Inserted i left ≡ get_or (steps_of (bases_for p)) t (Base 0)
unfolding between
step-inserted p t i zero l e z m = absurd (z refl)
step-inserted p t i (suc k) l e z m =
    sym (rw (← e) (step_in p i (suc k) l m ∙ table_at (inserted_after (bases_for p) i) (λ t. Inserted i (t + 1)) (Base 0) {i = k} m ∙ ap (Inserted i) (add-one k)))
