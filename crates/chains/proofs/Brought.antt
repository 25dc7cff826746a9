-- What a whole chain brings: a control cell's nets, a net's control cells, and the control cells that share a net.
use Prim.Native.Nat.{ℕ, ◌*◌, ◌<◌}
use mathlib.Core.Path.{◌≡◌, sym, ◌∙◌, ap, fun_ext}
use mathlib.Core.Bool.{Bool, true, ◌&&◌, ◌||◌, and-true, or_comm}
use mathlib.Core.List.{List}
use native.Mathlib.Omega.{arith}
use borrow.Author.Tests.{eqb-true, eq-eqb}
use lib.Dec.{eqb, ltb}
use Rattle.base.specs.Tests.{any}
use Rattle.base.proofs.BoolLaws.{left, right, both, or_left, same_test, eqb-back}
use Rattle.base.proofs.TestLaws.{any_at, any-member}
use Rattle.rules.specs.File.{Board, board_of, cells_of, nets_of, net_of}
use Rattle.rules.specs.Drivers.{controlled, control_for, on_net, output_of, driver_of, drives, meets}
use Rattle.rules.specs.Refusals.{judge, file_checks, Accepted}
use Rattle.rules.proofs.NetSetLaws.{driver-output, drives-driver, driver-own, meets_at, meets-net}
use Rattle.rules.proofs.Shape.{laid, shaped, whole-records}
use Rattle.rules.proofs.DriverLaws.{kept-net}
use Rattle.words.specs.Sets.{net_words, nothing, plus}
use Rattle.chains.specs.Table.{ControlCell, NetOf}
use Rattle.chains.specs.Chains.{keyed}
use Rattle.chains.specs.Sharing.{with_control, with_controls, with_sharers, partners_of}
use Rattle.chains.proofs.Chaining.{keyed-net, keyed-control}

-- a driver of k is a driver
pub keyed-controlled : (b : Board) (k c : ℕ) → keyed b ControlCell k c ≡ true → controlled b c ≡ true
keyed-controlled b k c h = left (controlled b c) _ (sym (keyed-control b k c) ∙ h)

module _ (b : Board) where
  -- control cell k's driver at c brings net m; net n's driver at c brings control cell j: the same test
  abbrev pub brings : ℕ → ℕ → ℕ → Bool
  brings k m c = driver_of b m c && eqb (control_for b c) k

  pub brings-control : (k m c : ℕ) → brings k m c ≡ true → keyed b ControlCell k c ≡ true
  unfolding driver_of
  brings-control k m c h = keyed-control b k c ∙ both (right (on_net b m c) (left (driver_of b m c) _ h)) (right (driver_of b m c) h)

  -- the same for the control cells above floor alone
  abbrev pub brings_above : ℕ → ℕ → ℕ → ℕ → Bool
  brings_above floor n j c = brings j n c && ltb floor j

  pub brings-net : (floor n j c : ℕ) → brings_above floor n j c ≡ true → keyed b NetOf n c ≡ true
  brings-net floor n j c h = keyed-net b n c ∙ driver-output b n c (left (driver_of b n c) _ (left (brings j n c) _ h))

  net-grown : (k c : ℕ) (f : ℕ → Bool) → keyed b ControlCell k c ≡ true → (m : ℕ) → plus f (net_of (b.cell c)) m ≡ (brings k m c || f m)
  unfolding driver_of on_net
  net-grown k c f h m =
      let on = sym (keyed-control b k c) ∙ h in
      let e : brings k m c ≡ eqb m (net_of (b.cell c)) =
      rw (left (controlled b c) _ on, right (controlled b c) on, and-true (eqb (net_of (b.cell c)) m), and-true (eqb (net_of (b.cell c)) m)) (eqb-back (net_of (b.cell c)) m) in
      ap (λ (x : Bool). x || f m) (sym e)

  pub net-brought : (k c n : ℕ) (f g : ℕ → Bool) → n ≡ net_of (b.cell c) → g ≡ plus f n → keyed b ControlCell k c ≡ true → (m : ℕ) → g m ≡ (brings k m c || f m)
  net-brought k c n f g e h on m =
      ap (λ (s : ℕ → Bool). s m) h ∙ ap (λ (x : ℕ). plus f x m) e ∙ net-grown k c f on m

  pub control-grown : (floor n c : ℕ) (f : ℕ → Bool) → keyed b NetOf n c ≡ true → (j : ℕ) → with_control b floor c f j ≡ (brings_above floor n j c || f j)
  unfolding with_control driver_of output_of
  control-grown floor n c f h j = rw (left (on_net b n c) _ (sym (keyed-net b n c) ∙ h))

  -- the driver at c shares its net with control cell j; the same for the control cells above k alone
  abbrev pub shares : ℕ → ℕ → ℕ → Bool
  shares k j c = keyed b ControlCell k c && drives b j (net_of (b.cell c))

  abbrev pub shares_above : ℕ → ℕ → ℕ → Bool
  shares_above k j c = shares k j c && ltb k j

  pub shares-control : (k j c : ℕ) → shares_above k j c ≡ true → keyed b ControlCell k c ≡ true
  shares-control k j c h = left (keyed b ControlCell k c) _ (left (shares k j c) _ h)

  pub sharers-grown : (k c : ℕ) (f : ℕ → Bool) → keyed b ControlCell k c ≡ true → (j : ℕ) → with_sharers b k c f j ≡ (shares_above k j c || f j)
  unfolding with_sharers
  sharers-grown k c f h j = rw (h, keyed-controlled b k c h)

-- some number passes and x holds, where x does not speak of the number
any-both : (n : ℕ) (p : ℕ → Bool) (x : Bool) → any n (λ c. p c && x) ≡ (any n p && x)
any-both n p x =
    same_test _ _
    (λ t. let m = any-member _ _ t in both (any_at n p m.1 (left (p m.0) _ m.2)) (right (p m.0) m.2))
    (λ t. let m = any-member n p (left (any n p) _ t) in any_at _ _ m.1 (both m.2 (right (any n p) t)))

-- all of a chain
pub all-nets : (file : List ℕ) (k : ℕ) (s : ℕ → Bool) → ((m : ℕ) → s m ≡ (nothing m || any (cells_of file) (brings (board_of file) k m))) → s ≡ drives (board_of file) k
unfolding drives board_of
all-nets file k s h = fun_ext h

pub all-controls :
    (file : List ℕ) (floor n : ℕ) (f s : ℕ → Bool) → ((j : ℕ) → s j ≡ (f j || any (cells_of file) (brings_above (board_of file) floor n j))) → s ≡ with_controls (board_of file) floor n f
unfolding with_controls drives board_of
all-controls file floor n f s h =
    fun_ext (λ j. h j ∙ or_comm (f j) _ ∙ ap (λ (x : Bool). x || f j) (any-both (cells_of file) (brings (board_of file) j n) (ltb floor j)))

-- a driver's own net is in its control cell's set
pub own-net : (b : Board) (k c : ℕ) → c < b.size → keyed b ControlCell k c ≡ true → drives b k (net_of (b.cell c)) ≡ true
own-net b k c l h =
    let e = eqb-true (control_for b c) k (right (controlled b c) (sym (keyed-control b k c) ∙ h)) in
    rw e at (driver-own b c l (keyed-controlled b k c h))

module _ (b : Board) (known : (c : ℕ) → c < b.size → controlled b c ≡ true → net_of (b.cell c) < b.nets) (k j : ℕ) where
  shares-meets : any b.size (shares b k j) ≡ true → meets b k j ≡ true
  shares-meets t =
      let c = any-member _ _ t in
      let on = left (keyed b ControlCell k c.0) _ c.2 in
      meets_at b k j (net_of (b.cell c.0)) (known c.0 c.1 (keyed-controlled b k c.0 on)) (own-net b k c.0 c.1 on) (right (keyed b ControlCell k c.0) c.2)

  meets-shares : meets b k j ≡ true → any b.size (shares b k j) ≡ true
  unfolding driver_of on_net
  meets-shares t =
      let n = meets-net b k j t in
      let c = drives-driver b k n.0 n.2 in
      let on = keyed-control b k c.0 ∙ both (right (on_net b n.0 c.0) c.2) (eq-eqb _ _ c.3) in
      let at = eqb-true (net_of (b.cell c.0)) n.0 (left (on_net b n.0 c.0) _ c.2) in
      any_at _ _ c.1 (both on (rw at n.3))

-- the net of a driver is one of the file's
pub known-net : (file : List ℕ) → judge (file_checks file) ≡ Accepted → (c : ℕ) → c < cells_of file → controlled (board_of file) c ≡ true → net_of ((board_of file).cell c) < nets_of file
unfolding board_of
known-net file ok c l x = kept-net file (whole-records file ok) c l (or_left _ x)

pub all-sharers : (file : List ℕ) → judge (file_checks file) ≡ Accepted → (k : ℕ) (s : ℕ → Bool)
    → ((j : ℕ) → s j ≡ (nothing j || any (cells_of file) (shares_above (board_of file) k j))) → s ≡ partners_of (board_of file) k
unfolding board_of partners_of
all-sharers file ok k s h =
    fun_ext (λ j. h j ∙ any-both (cells_of file) (shares (board_of file) k j) (ltb k j) ∙ ap (λ (x : Bool). x && ltb k j) (shared j))
  where
    shared : (j : ℕ) → any (board_of file).size (shares (board_of file) k j) ≡ meets (board_of file) k j
    shared j = same_test _ _ (shares-meets (board_of file) (known-net file ok) k j) (meets-shares (board_of file) (known-net file ok) k j)

-- the net of a driver on a chain fits a set of nets
pub chained-net :
    (file : List ℕ) → judge (file_checks file) ≡ Accepted → (k c : ℕ) → c < cells_of file → keyed (board_of file) ControlCell k c ≡ true → net_of ((board_of file).cell c) < 64 * net_words
unfolding board_of
chained-net file ok k c l h =
    let b = known-net file ok c l (keyed-controlled (board_of file) k c h) in
    let f = (laid file (shaped file ok)).nets.at_most in
    omega arith
