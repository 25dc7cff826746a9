-- A blank table holds no position. One position more: a cell that is no output changes nothing, an output is linked by its net, a driver also by
-- its control cell, and counted.
use Prim.Native.Nat.{ℕ, ◌+◌, ◌<◌, ◌≤◌}
use mathlib.Core.Path.{◌≡◌, refl, ◌∙◌}
use mathlib.Core.List.{List}
use native.Mathlib.Omega.{arith}
use lib.ListN.{length, set, length-set}
use lib.Seq.{get_or-set_other}
use Rattle.base.specs.Counting.{count}
use Rattle.rules.specs.File.{Board, board_of, cells_of}
use Rattle.rules.specs.Drivers.{Of, driver_at}
use Rattle.rules.specs.Refusals.{judge, file_checks, most_cells, most_nets, Accepted}
use Rattle.rules.specs.declared.Driver.{Driver}
use Rattle.std.specs.Prelude.{Option, Some, None}
use Rattle.rules.specs.declared.Position.{Position}
use Rattle.rules.specs.declared.Net.{Net}
use Rattle.rules.proofs.Shape.{laid, shaped}
use Rattle.rules.proofs.DriverLaws.{is-driver, no-driver}
use Rattle.chains.specs.Table.{By, ControlCell, NetOf, links_from, room, counts_from, spare_from, table_size, count_in, spliced, one_more, Blank, Same}
use Rattle.chains.specs.Chains.{key_at, Grown}
use Rattle.chains.specs.Counts.{Counted}
use Rattle.chains.specs.Filling.{Entered, Filled}
use Rattle.chains.proofs.TableLaws.{spliced_long, spliced-apart, more-long, more-before}
use Rattle.chains.proofs.Chaining.{linked-none, linked-same, linked-skip, linked-add, linked-free, key_below}
use Rattle.chains.proofs.CountLaws.{counted_same, counted_skip, counted-add, counts-bounded}

module _ (b : Board) (c : ℕ) where
  -- the control cell's chains go by drivers alone
  no-control : driver_at b c ≡ None → key_at b ControlCell c ≡ None
  unfolding key_at
  no-control e = rw (no-driver b c e)

  -- a driver's keys are its control cell and its net
  keys : (k : Position) (n : Net) → driver_at b c ≡ Of k n → (key_at b ControlCell c ≡ Some k.0) × (key_at b NetOf c ≡ Some n.0)
  unfolding key_at
  keys k n e = let d = is-driver b c k n e in (rw (d.0, d.1), rw (d.0, d.2))

  -- what is no output is no driver
  no_output : key_at b NetOf c ≡ None → driver_at b c ≡ None
  no_output e = go (driver_at b c) refl
    where
      go : (d : Option Driver) → driver_at b c ≡ d → driver_at b c ≡ None
      go None q = q
      go (Some d) q = cc ((keys d.control d.net q).1)

-- a blank table is that of no position
pub enter-first : (file : List ℕ) → judge (file_checks file) ≡ Accepted → (t : List ℕ) → Blank t → Entered file 0 t
unfolding count
enter-first file ok t z =
    record {
      long = z.long;
      by-control = grown-none ControlCell;
      by-net = grown-none NetOf;
      counted = record { checked = ok; counted = λ m l. z.zero-at (counts_from + m) };
    }
  where
    grown-none : (by : By) → Grown file by 0 t
    grown-none by = record { checked = ok; linked = linked-none (board_of file) by t z.zero-at }

-- the chains of a family by one cell more
module _ (file : List ℕ) (by : By) (c : ℕ) (t : List ℕ) (g : Grown file by c t) where
  pub grown-skip : key_at (board_of file) by c ≡ None → Grown file by (c + 1) t
  grown-skip e = record { checked = g.checked; linked = linked-skip (board_of file) by c t g.linked e }

  pub grown-add : links_from by + (most_cells + room by) ≤ length t → c < cells_of file → (x : ℕ) → key_at (board_of file) by c ≡ Some x → Grown file by (c + 1) (spliced (links_from by) c x t)
  grown-add long l x e =
      record {
        checked = g.checked;
        linked = linked-add (board_of file) by c t g.linked x e (key_below file g.checked by c x l e) (let f = (laid file (shaped file g.checked)).cells.at_most in omega arith) long;
      }

-- a part that another store leaves
pub grown-same : (file : List ℕ) (by : By) (n : ℕ) (t t' : List ℕ) → n ≤ cells_of file → Grown file by n t → Same (links_from by) (links_from by + (most_cells + room by)) t t' → Grown file by n t'
grown-same file by n t t' l g same =
    let f = (laid file (shaped file g.checked)).cells.at_most in
    record { checked = g.checked; linked = linked-same (board_of file) by n t t' (omega arith) same g.linked }

-- the families and the numbers of drivers lie apart
module _ (c x : ℕ) (t : List ℕ) (l : c < most_cells) where
  abbrev Kept : By → By → Type 0
  Kept by other = Same (links_from by) (links_from by + (most_cells + room by)) t (spliced (links_from other) c x t)

  net-apart-control : x < room NetOf → Kept ControlCell NetOf
  net-apart-control m = spliced-apart (links_from NetOf) c x t _ _ most_nets l m (λ i p q r s. omega arith)

  control-apart-net : x < room ControlCell → Kept NetOf ControlCell
  control-apart-net m = spliced-apart (links_from ControlCell) c x t _ _ most_cells l m (λ i p q r s. omega arith)

-- each family lies before the numbers of drivers
before-counts : (by : By) → links_from by + (most_cells + room by) ≤ counts_from
before-counts ControlCell = omega arith
before-counts NetOf = omega arith

apart-counts : (by : By) (c x : ℕ) (t : List ℕ) → c < most_cells → x < room by → Same counts_from (counts_from + most_nets) t (spliced (links_from by) c x t)
apart-counts by c x t l m =
    let b = before-counts by in
    spliced-apart (links_from by) c x t _ _ (room by) l m (λ i p q r s. omega arith)

module _ (file : List ℕ) (c : ℕ) (t : List ℕ) (so_far : Entered file c t) (l : c < cells_of file) where
  position-fits : c < most_cells
  position-fits = let f = (laid file (shaped file so_far.by-net.checked)).cells.at_most in omega arith

  pub enter-none : key_at (board_of file) NetOf c ≡ None → Entered file (c + 1) t
  enter-none e =
      let d = no_output _ _ e in
      record {
        long = so_far.long;
        by-control = grown-skip _ _ _ _ so_far.by-control (no-control _ _ d);
        by-net = grown-skip _ _ _ _ so_far.by-net e;
        counted = counted_skip _ _ _ so_far.counted d;
      }

  -- linked by its net n
  abbrev netted : ℕ → List ℕ
  netted n = spliced (links_from NetOf) c n t

  module _ (n : ℕ) (e : key_at (board_of file) NetOf c ≡ Some n) where
    net-fits : n < room NetOf
    net-fits = key_below file so_far.by-net.checked NetOf c n l e

    netted-long : length (netted n) ≡ table_size
    netted-long = spliced_long (links_from NetOf) c n t ∙ so_far.long

    netted-control : Grown file ControlCell c (netted n)
    netted-control = grown-same file ControlCell c t (netted n) (omega arith) so_far.by-control (net-apart-control c n t position-fits net-fits)

    netted-net : Grown file NetOf (c + 1) (netted n)
    netted-net = grown-add file NetOf c t so_far.by-net (let q = so_far.long in omega arith) l n e

    netted-counts : Counted file c (netted n)
    netted-counts = counted_same file c t (netted n) (apart-counts NetOf c n t position-fits net-fits) so_far.counted

    -- where the stores stand
    pub output-fits : (c < most_cells) × (n < most_nets)
    output-fits = (position-fits, net-fits)

    pub enter-output : driver_at (board_of file) c ≡ None → Entered file (c + 1) (netted n)
    enter-output d =
        record {
          long = netted-long;
          by-control = grown-skip _ _ _ _ netted-control (no-control _ _ d);
          by-net = netted-net;
          counted = counted_skip _ _ _ netted-counts d;
        }

  -- linked by its net and its control cell, and counted
  module _ (k : Position) (n : Net) (d : driver_at (board_of file) c ≡ Of k n) where
    control-fits : k.0 < room ControlCell
    control-fits = key_below file so_far.by-net.checked ControlCell c k.0 l (keys (board_of file) c k n d).0

    own : key_at (board_of file) NetOf c ≡ Some n.0
    own = (keys (board_of file) c k n d).1

    abbrev both : List ℕ
    both = spliced (links_from ControlCell) c k.0 (netted n.0)

    both-counts : Counted file c both
    both-counts = counted_same file c (netted n.0) both (apart-counts ControlCell c k.0 (netted n.0) position-fits control-fits) (netted-counts n.0 own)

    -- where the stores stand, and that one driver more fits
    pub driver-fits : (c < most_cells) × (n.0 < most_nets) × (k.0 < most_cells) × (count_in both n.0 < most_cells)
    driver-fits =
        let f = position-fits in
        let o = counts-bounded file c both both-counts n.0 (net-fits n.0 own) in
        (position-fits, net-fits n.0 own, control-fits, omega arith)

    both_long : length both ≡ table_size
    both_long = spliced_long (links_from ControlCell) c k.0 (netted n.0) ∙ netted-long n.0 own

    both-control : Grown file ControlCell (c + 1) both
    both-control =
        grown-add file ControlCell c (netted n.0) (netted-control n.0 own) (let q = netted-long n.0 own in omega arith) l k.0 (keys (board_of file) c k n d).0

    both-net : Grown file NetOf (c + 1) both
    both-net =
        grown-same file NetOf (c + 1) (netted n.0) both (omega arith) (netted-net n.0 own) (control-apart-net c k.0 (netted n.0) position-fits control-fits)

    pub enter-driver : Entered file (c + 1) (one_more n.0 both)
    enter-driver =
        record {
          long = more-long n.0 both ∙ both_long;
          by-control = grown-same file ControlCell (c + 1) both _ (omega arith) both-control (more-before n.0 both _ _ (before-counts ControlCell));
          by-net = grown-same file NetOf (c + 1) both _ (omega arith) both-net (more-before n.0 both _ _ (before-counts NetOf));
          counted = counted-add file c both both-counts k n driver-fits.1 both_long d;
        }

-- one store leaves a part that it lies apart from
stored-apart : (at v : ℕ) (t : List ℕ) (a z : ℕ) → ((j : ℕ) → a ≤ j → j < z → j ≡ at → ⊥) → Same a z t (set t at v)
stored-apart at v t a z apart = record { entry = λ j p q. get_or-set_other t at j v 0 (apart j p q) }

-- what is kept in the spare room leaves the chains by control cell and the numbers of drivers
module _ (i v : ℕ) (t : List ℕ) (l : i < most_cells) where
  pub spare-control : (file : List ℕ) → Grown file ControlCell (cells_of file) t → Grown file ControlCell (cells_of file) (set t (spare_from + i) v)
  spare-control file g =
      grown-same file ControlCell (cells_of file) t _ (omega arith) g (stored-apart _ v t _ _ (λ j p q (e : j ≡ spare_from + i). omega arith))

  pub spare-counts : (file : List ℕ) → Counted file (cells_of file) t → Counted file (cells_of file) (set t (spare_from + i) v)
  spare-counts file g =
      counted_same file (cells_of file) t _ (stored-apart _ v t _ _ (λ j p q (e : j ≡ spare_from + i). omega arith)) g

-- the link of a cell that drives nothing is free (linked-free), and lies apart from all else
module _ (file t : List ℕ) (k v : ℕ) (h : Filled file t) (l : k < cells_of file) where
  free-fits : k < most_cells
  free-fits = let f = (laid file (shaped file h.by-net.checked)).cells.at_most in omega arith

  pub filled-free : driver_at (board_of file) k ≡ None → v ≤ k → Filled file (set t (links_from ControlCell + k) v)
  filled-free d no-higher =
      let position-fits = free-fits in
      let fits : links_from ControlCell + k < length t = (let q = h.long in omega arith) in
      record {
        long = length-set t (links_from ControlCell + k) v ∙ h.long;
        by-control = record {
          checked = h.by-control.checked;
          linked = linked-free (board_of file) ControlCell _ t k v (no-control _ _ d) position-fits no-higher fits h.by-control.linked;
        };
        by-net = grown-same file NetOf _ t _ (omega arith) h.by-net (stored-apart _ v t _ _ (λ j p q (e : j ≡ links_from ControlCell + k). omega arith));
        counted = counted_same file _ t _ (stored-apart _ v t _ _ (λ j p q (e : j ≡ links_from ControlCell + k). omega arith)) h.counted;
      }
