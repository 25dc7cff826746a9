-- Refusals 10 and 11 over the chains: how two gathered net sets lie is whether the control cells cross, and one differing driver along a
-- control cell's chain is an unequal pair.
use Prim.Native.Nat.{ℕ, ◌*◌, ◌+◌, ◌-◌, ◌<◌, ◌≤◌}
use mathlib.Core.Path.{◌≡◌, refl, sym, ◌∙◌, ap, ap₂}
use mathlib.Core.Logic.{⊎_elim}
use mathlib.Core.Bool.{Bool, true, false, not, ◌&&◌}
use mathlib.Core.List.{List}
use native.Mathlib.Omega.{arith}
use borrow.Author.Tests.{eqb-true, eqb-false, eq-eqb, ne_eqb, lt-ltb}
use lib.Dec.{eqb}
use Rattle.base.specs.Tests.{any, seek}
use Rattle.base.proofs.BoolLaws.{decided, left, right, both, or_left, not-fails, fails-not, clashes, fails-if, order, same_test}
use Rattle.base.proofs.TestLaws.{any_at, any-member, Lowest, seek-lowest}
use Rattle.rules.specs.File.{Board, board_of, cells_of, nets_of, net_of}
use Rattle.rules.specs.Drivers.{controlled, control_for, is_control, on_net, driver_of, drives, drivers, meets, inside, crosses}
use Rattle.rules.specs.Refusals.{judge, crossed, crossed_by, unequal, file_checks, Accepted}
use Rattle.rules.proofs.NetSetLaws.{drives-driver, meets-net}
use Rattle.rules.proofs.CrossingLaws.{parts, crossing-of, crossed-by, by-crossing, crossed-none}
use Rattle.rules.proofs.Shape.{laid, shaped, whole-records}
use Rattle.rules.proofs.DriverLaws.{kept-control, kept-net}
use Rattle.words.specs.Sets.{net_words, cell_words, meets_in, inside_in, relation_by, relation_of}
use Rattle.words.proofs.SetLaws.{meets-bound, inside-bound}
use Rattle.chains.specs.Table.{ControlCell, head_in}
use Rattle.chains.specs.Chains.{keyed, Chains}
use Rattle.chains.specs.Sharing.{partners_of}
use Rattle.chains.proofs.Chaining.{keyed-control}
use Rattle.chains.proofs.Walks.{cell-fits, none-keyed}
use Rattle.chains.proofs.Brought.{own-net}
use Rattle.std.specs.Prelude.{Some, None}
use Rattle.board.specs.Controls.{is_crossing, crosser_of, drivers_at, any_other}
use Rattle.nesting.proofs.ControlNets.{idle-none, driven-below}
use Rattle.board.proofs.PairLaws.{crosser_found, crosser-none}

-- a control cell that switches nothing crosses none
crossed-idle : (b : Board) (i : ℕ) → ((c : ℕ) → c < b.size → keyed b ControlCell i c ≡ false) → crossed b i ≡ false
crossed-idle b i none =
    crossed-none b i (λ j l m t. let n = meets-net b i j (parts b i j t).meet in idle-none b i none n.0 n.2)

-- crossing is: meeting, and neither inside the other
crossing-by : (x y z : Bool) → is_crossing (relation_by x y z) ≡ (z && not x && not y)
unfolding is_crossing
crossing-by true true true = refl
crossing-by true true false = refl
crossing-by true false true = refl
crossing-by true false false = refl
crossing-by false true true = refl
crossing-by false true false = refl
crossing-by false false true = refl
crossing-by false false false = refl

-- a driver's net and its control cell are known to the board
abbrev pub Known : Board → Type 0
Known b = (c : ℕ) → c < b.size → controlled b c ≡ true → (net_of (b.cell c) < b.nets) × (is_control b (control_for b c) ≡ true)

-- a search over i's partners from i + 1 on: none up to j crosses i
pub record Uncrossed (b : Board) (i j : ℕ) : Type 0 where
  pub higher : i < j
  pub at_most : j ≤ 64 * cell_words
  pub none : (x : ℕ) → i < x → x < j → crosses b i x ≡ false

module _ (file : List ℕ) (ok : judge (file_checks file) ≡ Accepted) where
  abbrev board : Board
  board = board_of file

  -- what switches a net is a control cell
  drives-control : (k n : ℕ) → drives board k n ≡ true → is_control board k ≡ true
  unfolding driver_of board_of
  drives-control k n h =
      let c = drives-driver board k n h in
      rw c.3 at (kept-control file (whole-records file ok) c.0 c.1 (right (on_net board n c.0) c.2)).1

  -- a driver's net and control cell are known
  pub known : Known board
  unfolding board_of
  known c l x = (kept-net file (whole-records file ok) c l (or_left _ x), (kept-control file (whole-records file ok) c l x).1)

  past : (k i : ℕ) → nets_of file ≤ i → drives board k i ≡ false
  past k i l = fails-if _ (λ t. let b = driven-below file ok k i t in omega arith)

  nets-fit : nets_of file ≤ 64 * net_words
  nets-fit = let f = (laid file (shaped file ok)).nets.at_most in omega arith

  -- two control cells' net sets, as the words hold them
  module _ (i j : ℕ) where
    abbrev nets-i : ℕ → Bool
    nets-i = drives board i

    abbrev nets-j : ℕ → Bool
    nets-j = drives board j

    crossing-sets : is_crossing (relation_of (64 * net_words) nets-i nets-j) ≡ (meets board i j && not (inside board i j) && not (inside board j i))
    unfolding relation_of meets inside meets_in inside_in board_of
    crossing-sets =
        crossing-by (inside_in (64 * net_words) nets-i nets-j) (inside_in (64 * net_words) nets-j nets-i) (meets_in (64 * net_words) nets-i nets-j)
        ∙ ap₂ (λ (x y : Bool). x && y)
        (ap₂ (λ (x y : Bool). x && not y) (meets-bound nets-i nets-j nets-fit (λ m l u. past i m l)) (inside-bound nets-i nets-j nets-fit (λ m l u. past i m l)))
        (ap not (inside-bound nets-j nets-i nets-fit (λ m l u. past j m l)))

    -- sets that cross are those of control cells
    forth : (meets board i j && not (inside board i j) && not (inside board j i)) ≡ true → crosses board i j ≡ true
    forth t =
        let t2 = left (meets board i j && not (inside board i j)) _ t in
        let m = left (meets board i j) _ t2 in
        let n = meets-net board i j m in
        crossing-of board i j
        (record {
          first = drives-control i n.0 n.2;
          second = drives-control j n.0 n.3;
          meet = m;
          out = fails-not _ (right (meets board i j) t2);
          back = fails-not _ (right (meets board i j && not (inside board i j)) t);
        })

    back : crosses board i j ≡ true → (meets board i j && not (inside board i j) && not (inside board j i)) ≡ true
    back t = let c = parts board i j t in both (both c.meet (not-fails c.out)) (not-fails c.back)

    -- how the two sets lie says whether the control cells cross
    pub crosses-is : (f g : ℕ → Bool) → f ≡ nets-i → g ≡ nets-j → is_crossing (relation_of (64 * net_words) f g) ≡ crosses board i j
    crosses-is f g e h =
        ap₂ (λ (x y : ℕ → Bool). is_crossing (relation_of (64 * net_words) x y)) e h ∙ crossing-sets ∙ same_test _ _ forth back

  unmet : (i x : ℕ) (met : ℕ → Bool) → met ≡ partners_of board i → i < x → met x ≡ false → crosses board i x ≡ false
  unfolding partners_of
  unmet i x met e l f =
      let apart : meets board i x ≡ false = fails-if _ (λ t. clashes (both t (lt-ltb i x l)) (ap (λ (g : ℕ → Bool). g x) (sym e) ∙ f)) in
      fails-if _ (λ t. clashes (parts board i x t).meet apart)

  -- the search begins above i, and goes on above a partner that does not cross it
  module _ (i next : ℕ) (met : ℕ → Bool) (e : met ≡ partners_of board i) where
    pub search-from : i + 1 ≤ 64 * cell_words → next ≡ seek met (64 * cell_words - (i + 1)) (i + 1) → Uncrossed board i next
    search-from l h =
        let s = seek-lowest met l in
        let a = s.above in
        let u = s.under in
        record { higher = omega arith; at_most = omega arith; none = λ x y z. unmet i x met e y (s.lower x (omega arith) (omega arith)) }

    pub search-on : (j : ℕ) → Uncrossed board i j → j < 64 * cell_words → crosses board i j ≡ false → next ≡ seek met (64 * cell_words - (j + 1)) (j + 1)
        → (j < next) × Uncrossed board i next
    search-on j v l f h =
        let s = seek-lowest met {from = j + 1} {to = 64 * cell_words} (omega arith) in
        let a = s.above in
        let u = s.under in
        let w = v.higher in
        (omega arith, record { higher = omega arith; at_most = omega arith; none = none-are s })
      where
        none-are : Lowest met (j + 1) (64 * cell_words) (seek met (64 * cell_words - (j + 1)) (j + 1)) → (x : ℕ) → i < x → x < next → crosses board i x ≡ false
        none-are s x y z =
            ⊎_elim
            (λ (q : x < j). v.none x y q)
            (λ (q : j ≤ x). ⊎_elim
            (λ (r : j < x). unmet i x met e y (s.lower x (omega arith) (omega arith)))
            (λ (r : x ≤ j). let t : x ≡ j = omega arith in rw t f)
            (order j x))
            (order x j)

  -- the search meets one that crosses i, or ends
  module _ (i j : ℕ) (v : Uncrossed (board_of file) i j) where
    lower : (x : ℕ) → x < j → crossed_by (board_of file) i x ≡ false
    lower x m = fails-if _ (λ t. let c = crossed-by (board_of file) i x t in clashes c.1 (v.none x c.0 m))

    pub search-found : j < cells_of file → crosses (board_of file) i j ≡ true → Some (record { 0 = j }) ≡ crosser_of (board_of file) i
    unfolding board_of
    search-found l t = crosser_found (board_of file) i j l (by-crossing (board_of file) i j v.higher t) lower

    pub search-ended : cells_of file ≤ j → None ≡ crosser_of (board_of file) i
    unfolding board_of
    search-ended l = crosser-none (board_of file) i (crossed-none (board_of file) i (λ x u m t. clashes t (v.none x u (omega arith))))

-- the driver at c is one of control cell k, and its net has another number of drivers
abbrev pub other : Board → ℕ → ℕ → ℕ → Bool
other b k first c = keyed b ControlCell k c && not (eqb (drivers_at b c) first)

-- along k's chain from h: one driver whose net has another count than h's is an unequal pair
module _ (b : Board) (known : Known b) (k : ℕ) where
  -- a driver of k at c
  on : (c : ℕ) → keyed b ControlCell k c ≡ true → (controlled b c ≡ true) × (control_for b c ≡ k)
  on c h =
      let t = sym (keyed-control b k c) ∙ h in
      (left (controlled b c) _ t, eqb-true _ _ (right (controlled b c) t))

  counts : (c : ℕ) → keyed b ControlCell k c ≡ true → drivers_at b c ≡ drivers b (net_of (b.cell c))
  unfolding drivers_at
  counts c h = rw (on c h).0

  -- a net of k has a driver of k on it
  driver-at : (n : ℕ) → drives b k n ≡ true → (c : ℕ) × (c < b.size) × (keyed b ControlCell k c ≡ true) × (drivers_at b c ≡ drivers b n)
  unfolding driver_of on_net
  driver-at n h =
      let c = drives-driver b k n h in
      let key = keyed-control b k c.0 ∙ both (right (on_net b n c.0) c.2) (eq-eqb _ _ c.3) in
      let e = eqb-true (net_of (b.cell c.0)) n (left (on_net b n c.0) _ c.2) in
      (c.0, c.1, key, counts c.0 key ∙ ap (drivers b) e)

  pub unequal-other : (h first : ℕ) → h < b.size → keyed b ControlCell k h ≡ true → first ≡ drivers_at b h → unequal b k ≡ any b.size (other b k first)
  unfolding unequal
  unequal-other h first l key e = same_test _ _ forth back
    where
      find : (n : ℕ) → drives b k n ≡ true → (drivers b n ≡ first → ⊥) → any b.size (other b k first) ≡ true
      find n d z =
          let c = driver-at n d in
          any_at _ _ c.1 (both c.2 (not-fails (ne_eqb _ _ (λ q. z (sym c.3 ∙ q)))))

      forth : unequal b k ≡ true → any b.size (other b k first) ≡ true
      forth t =
          let n = any-member _ _ (right (is_control b k) t) in
          let m = any-member _ _ n.2 in
          let p = left (drives b k n.0 && drives b k m.0) _ m.2 in
          let apart = eqb-false _ _ (fails-not _ (right (drives b k n.0 && drives b k m.0) m.2)) in
          ⊎_elim
          (λ (q : eqb (drivers b n.0) first ≡ true). find m.0 (right (drives b k n.0) p) (λ r. apart (eqb-true _ _ q ∙ sym r)))
          (λ (q : eqb (drivers b n.0) first ≡ false). find n.0 (left (drives b k n.0) _ p) (eqb-false _ _ q))
          (decided (eqb (drivers b n.0) first))

      back : any b.size (other b k first) ≡ true → unequal b k ≡ true
      back t =
          let c = any-member _ _ t in
          let kc = left (keyed b ControlCell k c.0) _ c.2 in
          let apart = eqb-false _ _ (fails-not _ (right (keyed b ControlCell k c.0) c.2)) in
          let o = on c.0 kc in
          let is = known c.0 c.1 o.0 in
          let differ = not-fails (ne_eqb _ _ (λ q. apart (counts c.0 kc ∙ q ∙ sym (counts h key) ∙ sym e))) in
          let pair = both (both (own-net b k c.0 c.1 kc) (own-net b k h l key)) differ in
          both (rw o.1 at is.1) (any_at _ _ is.0 (any_at _ _ (known h l (on h key).0).0 pair))

  -- an empty chain has no pair
  pub unequal-none : ((c : ℕ) → c < b.size → keyed b ControlCell k c ≡ false) → unequal b k ≡ false
  unfolding unequal
  unequal-none none = fails-if _ driven
    where
      driven : unequal b k ≡ true → ⊥
      driven t =
          let n = any-member _ _ (right (is_control b k) t) in
          let m = any-member _ _ n.2 in
          let c = driver-at n.0 (left (drives b k n.0) _ (left (drives b k n.0 && drives b k m.0) _ m.2)) in
          clashes c.2 (none c.0 c.1)

-- over a file
module _ (file : List ℕ) (ok : judge (file_checks file) ≡ Accepted) (k : ℕ) where
  pub unequal-by :
      (h first : ℕ) → h < cells_of file → keyed (board_of file) ControlCell k h ≡ true → first ≡ drivers_at (board_of file) h →
      any_other (board_of file) k first ≡ unequal (board_of file) k
  unfolding board_of any_other
  unequal-by h first l key e = sym (unequal-other (board_of file) (known file ok) k h first l key e)

  pub unequal-empty : ((c : ℕ) → c < cells_of file → keyed (board_of file) ControlCell k c ≡ false) → false ≡ unequal (board_of file) k
  unfolding board_of
  unequal-empty none = sym (unequal-none (board_of file) (known file ok) k none)

-- a control cell that switches nothing
module _ (file t : List ℕ) (ch : Chains file ControlCell t) (j : ℕ) (l : j < cells_of file) (z : head_in ControlCell t j ≡ 0) where
  none : (c : ℕ) → c < cells_of file → keyed (board_of file) ControlCell j c ≡ false
  none = none-keyed file ControlCell t ch j (cell-fits file ch.checked j l) z

  pub idle-equal : unequal (board_of file) j ≡ false
  idle-equal = sym (unequal-empty file ch.checked j none)

  pub idle-uncrossed : None ≡ crosser_of (board_of file) j
  unfolding board_of
  idle-uncrossed = crosser-none (board_of file) j (crossed-idle (board_of file) j none)
