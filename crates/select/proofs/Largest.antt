-- The degree of a net of an accepted board is the count of its drivers, and G grows net by net.
use Prim.Native.Nat.{ℕ, ◌+◌, ◌<◌, max}
use mathlib.Core.Path.{◌≡◌, sym, ◌∙◌, ap}
use mathlib.Core.List.{List}
use native.Mathlib.Numerals.{add-one}
use native.Mathlib.Omega.{arith}
use Rattle.std.proofs.Common.{nat_cmp}
use Rattle.std.proofs.lemmas.Bool.Decides.{nat_tests}
use Rattle.std.specs.Ordering.{ord_max}
use Rattle.base.specs.Tests.{largest}
use Rattle.rules.specs.File.{board_of, nets_of}
use Rattle.rules.specs.Drivers.{drivers, degree, groups_of}
use Rattle.rules.proofs.Degree.{degree-drivers}
use Rattle.rules.proofs.Selection.{sound}
use Rattle.chains.specs.Table.{count_in}
use Rattle.chains.proofs.Walks.{net-fits}
use Rattle.select.specs.Turns.{Ready}

-- the largest degree of the nets below n, but at least 1
unfoldable pub so_far : List ℕ → ℕ → ℕ
so_far file n = max 1 (largest n (degree (board_of file)))

-- the library's larger number of two
max-is : (a b c : ℕ) → c ≡ ord_max nat_cmp a b → c ≡ max a b
max-is a b c e = grind (arith, nat_tests)

module _ (file t : List ℕ) (ready : Ready file t) where
  pub degree-held : (n : ℕ) → n < nets_of file → count_in t n ≡ degree (board_of file) n
  unfolding drivers board_of
  degree-held n l =
      ready.counted.counted n (net-fits file ready.counted.checked n l)
      ∙ sym (degree-drivers (board_of file) (sound file ready.accepted).checked n l)

  pub so-far-none : 1 ≡ so_far file 0
  unfolding largest so_far
  so-far-none = omega arith

  pub so_far_more : (n most held next : ℕ) → n < nets_of file → most ≡ so_far file n → held ≡ count_in t n → next ≡ ord_max nat_cmp most held → next ≡ so_far file (n + 1)
  unfolding largest so_far
  so_far_more n most held next l e h m =
      let larger : next ≡ max most held = max-is most held next m in
      let own = degree-held n l in
      rw (add-one n) (omega arith)

  pub so-far-all : (n : ℕ) → n ≡ nets_of file → so_far file n ≡ groups_of (board_of file)
  unfolding groups_of board_of so_far
  so-far-all n e = ap (so_far file) e
