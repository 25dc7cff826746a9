-- `words::loops::compare` meets its contract: each arm goes by what the calls said.
use Prim.Native.Nat.{ℕ, ◌*◌}
use mathlib.Core.Path.{◌≡◌, refl, sym, ◌∙◌, ap}
use mathlib.Core.Bool.{Bool}
use mathlib.Core.List.{List}
use lib.ListN.{length}
use Rattle.words.specs.Sets.{member, meets_in, inside_in, relation_by, relation_of, Alike}
use Rattle.words.proofs.loops.compare.Goals as goal

-- the three answers of the calls, and the relation that they say
relation-by :
    (a b : List ℕ) {x y z : Bool} → Alike a b →
    x ≡ inside_in (64 * length a) (member a) (member b) →
    y ≡ inside_in (64 * length b) (member b) (member a) →
    z ≡ meets_in (64 * length a) (member a) (member b) →
    relation_by x y z ≡ relation_of (64 * length a) (member a) (member b)
unfolding relation_of
relation-by a b s p q r = rw (p, q ∙ ap (λ (n : ℕ). inside_in (64 * n) (member b) (member a)) (sym s.long), r)

pub returns-in-true-true : goal.returns-in-true-true
returns-in-true-true c = relation-by _ _ c.requires c.in-true-true.ensures c.in-true-true.ensures' refl

pub returns-in-true-false : goal.returns-in-true-false
returns-in-true-false c = relation-by _ _ c.requires c.in-true-false.ensures c.in-true-false.ensures' refl

pub returns-in-false-true : goal.returns-in-false-true
returns-in-false-true c = relation-by _ _ c.requires c.in-false-true.ensures c.in-false-true.ensures' refl

pub returns-then-meets : goal.returns-then-meets
returns-then-meets c =
    relation-by _ _ c.requires c.in-false-false.ensures c.in-false-false.ensures' (sym c.if-meets.true ∙ c.meets.ensures)

pub returns-else-meets : goal.returns-else-meets
returns-else-meets c =
    relation-by _ _ c.requires c.in-false-false.ensures c.in-false-false.ensures' (sym c.if-meets.false ∙ c.meets.ensures)
