-- Vector by vector: where each stands in the capture, and the values of its nets.
use Prim.Native.Nat.{ℕ, zero, suc, ◌+◌, ◌*◌, ◌-◌, ◌≤◌, ◌<◌}
use mathlib.Core.Path.{◌≡◌, refl, sym, ◌∙◌, ap}
use mathlib.Core.Bool.{Bool}
use mathlib.Core.List.{List}
use native.Mathlib.Omega.{arith}
use lib.ListN.{length}
use Rattle.base.specs.Digits.{ceil}
use Rattle.rules.specs.Rows.{row_bytes}
use Rattle.rules.specs.File.{number_values}
use Rattle.rules.specs.Refusals.{most_vectors, most_bytes}
use Rattle.rules.specs.Vectors.{inserted_after, steps_of}
use Rattle.plan.specs.declared.numbers.Plan.{Plan}
use Rattle.plan.specs.Plans.{bases_for, mix, start_of}
use Rattle.plan.proofs.MixLaws.{value-at}
use Rattle.plan.proofs.StepLaws.{size, start-zero, start-next, start-end}
use Rattle.rows.proofs.GroupRows.{row_fits, place-small}
use Rattle.readings.specs.Readings.{value_at, Scanned, Captured, Rowed, Part}

-- where the parts start
pub starts_none : (p : Plan) → 0 ≡ start_of p 0
starts_none p = sym (start-zero p)

pub starts-next : (p : Plan) (i t extra : ℕ) → t ≡ start_of p i → extra ≡ inserted_after (bases_for p) i → t + (1 + extra) ≡ start_of p (i + 1)
starts-next p i t extra e h = omega (arith, e, h, start-next p i)

pub starts-end : (p : Plan) (i t : ℕ) → t ≡ start_of p i → i ≡ size p → t ≡ length (steps_of (bases_for p))
starts-end p i t e h = e ∙ ap (start_of p) h ∙ start-end p

-- the parts up to i are no longer than all
pub start-bounded : (p : Plan) (left i : ℕ) → i + left ≡ size p → start_of p i ≤ length (steps_of (bases_for p))
start-bounded p zero i e = let s : i ≡ size p = omega arith in rw s (omega (arith, start-end p))
start-bounded p (suc left) i e = let r = start-bounded p left (i + 1) (omega arith) in omega (arith, start-next p i)

-- so a vector of part i is one of the plan
pub part-below : (p : Plan) (i k t : ℕ) → i < size p → t ≡ start_of p i → k ≤ inserted_after (bases_for p) i → t + k < length (steps_of (bases_for p))
part-below p i k t l e h =
    let r = start-bounded p (size p - (i + 1)) (i + 1) (omega arith) in
    omega (arith, start-next p i, e)

-- row t of so many lies in the capture, and its place is a small number
pub row_in : (t vectors bytes long : ℕ) → t < vectors → long ≡ vectors * bytes → t * bytes + bytes ≤ long
row_in t vectors bytes long l e = row_fits t vectors bytes bytes (t * bytes) long l refl (omega (arith, e)) refl

pub place_in : (t vectors bytes : ℕ) → t < vectors → vectors ≤ most_vectors → bytes ≤ most_bytes → t * bytes ≤ number_values * most_bytes
place_in t vectors bytes l bounded short = omega (arith, place-small t bytes (omega arith) short)

-- the same of the row of vector t
pub rowed : (p : Plan) (capture : List ℕ) (cells bytes : ℕ) → Captured p capture cells bytes → Rowed p capture bytes
unfolding row_bytes ceil
rowed p capture cells bytes k =
    record { short = (let f = k.cells-bounded in omega (arith, k.bytes-are)); vectors = k.vectors; rows_are = k.rows_are }

module _ (p : Plan) (capture : List ℕ) (bytes : ℕ) (k : Rowed p capture bytes) where
  pub row_inside : (t : ℕ) → t < length (steps_of (bases_for p)) → t * bytes + bytes ≤ length capture
  row_inside t l = row_in t _ bytes _ l k.rows_are

  pub place-bounded : (t : ℕ) → t < length (steps_of (bases_for p)) → t * bytes ≤ number_values * most_bytes
  place-bounded t l = place_in t _ bytes l k.vectors k.short

pub row-scanned : (p : Plan) (capture : List ℕ) (cells bytes : ℕ) → Captured p capture cells bytes → (t : ℕ) → t < length (steps_of (bases_for p)) → Scanned capture (t * bytes) cells
row-scanned p capture cells bytes k t l =
    record { cells-bounded = k.cells-bounded; inside = omega (arith, row_inside p capture bytes (rowed p capture cells bytes k) t l, k.bytes-are) }

-- the values of the k-th vector of a part
pub part-value :
    (p : Plan) (i extra t k : ℕ) (old new f : ℕ → Bool) →
    Part p i extra t →
    k < 1 + extra →
    old ≡ (bases_for p).value i →
    new ≡ (bases_for p).value (i + 1) →
    f ≡ mix (k * p.limit) old new →
    f ≡ value_at p (t + k)
unfolding value_at
part-value p i extra t k old new f h l o n m =
    value-at p (t + k) i k old new f h.below (omega (arith, h.start_is)) (omega (arith, h.extra-is)) o n m
