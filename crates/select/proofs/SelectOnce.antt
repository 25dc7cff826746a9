-- One outcome of a selection. The contract of `selected` speaks of every list that the lent set of earlier control cells holds. The idea: each set of words
-- holds some list, that of its own members, so the contract always says something, and what it says is which members the result has. And two tables that
-- are the order of one board agree on the number of highest drivers and on each entry that names one; what else a ready table leaves open is said last.
use Prim.Native.Nat.{ℕ, zero, suc, ◌*◌, ◌<◌, ◌≤◌}
use mathlib.Core.Path.{◌≡◌, refl, sym, ◌∙◌, ap, fun_ext}
use mathlib.Core.Logic.{⊎_elim}
use mathlib.Core.Bool.{Bool, true, false, cond, ◌&&◌}
use mathlib.Core.List.{List, [], ◌∷◌}
use native.Mathlib.Numerals.{add-one}
use native.Mathlib.Omega.{arith}
use borrow.Author.Tests.{lt-ltb, le-ltb}
use lib.ListN.{length, get_or, drop}
use Rattle.base.specs.Lists.{has}
use Rattle.base.proofs.BoolLaws.{order, below_suc}
use Rattle.rules.specs.File.{board_of}
use Rattle.rules.specs.Groups.{selected}
use Rattle.words.specs.Sets.{CellSet, cell_words, member, plus_if, up_to}
use Rattle.words.proofs.SetLaws.{member-out, plus-passes, plus-fails, up_none, up-grown}
use Rattle.words.proofs.WordsOnce.{Wide, sets-once}
use Rattle.chains.specs.Table.{ControlCell, spare_from, counts_from, spare_in, Same}
use Rattle.chains.proofs.ChainsOnce.{SameLinks, tables-once}
use Rattle.select.specs.Turns.{listed, Ready}
use Rattle.select.specs.Highest.{backwards, Order}
use Rattle.select.proofs.Passing.{on-grown}

-- the numbers below n that pass, as a list
abbrev pub list_of : ℕ → (ℕ → Bool) → List ℕ
list_of zero f = []
list_of (suc n) f = cond (f n) (n ∷ list_of n f) (list_of n f)

-- every set of numbers below n is held by some list
pub list-holds : (n : ℕ) (f : ℕ → Bool) → up_to n f ≡ listed (list_of n f)
unfolding has
list-holds zero f = sym (up_none f)
list-holds (suc n) f = rw (← add-one n) (sym (up-grown f n) ∙ go (f n) refl (list-holds n f))
  where
    go : (a : Bool) → f n ≡ a → up_to n f ≡ listed (list_of n f) → plus_if f n (up_to n f) ≡ listed (cond (f n) (n ∷ list_of n f) (list_of n f))
    go true e r = rw e (on-grown (up_to n f) (plus_if f n (up_to n f)) (list_of n f) n r (sym (plus-passes f n (up_to n f) e)))
    go false e r = rw e (sym (plus-fails f n (up_to n f) e) ∙ r)

-- so is the set that a list of words holds
pub words-list : List ℕ → List ℕ
words-list ws = list_of (64 * length ws) (member ws)

pub words-listed : (ws : List ℕ) → member ws ≡ listed (words-list ws)
unfolding words-list up_to
words-listed ws =
    fun_ext (λ i. ⊎_elim
    (λ (l : i < 64 * length ws). ap (λ (a : Bool). a && member ws i) (sym (lt-ltb i (64 * length ws) l)))
    (λ (l : 64 * length ws ≤ i). member-out ws l ∙ ap (λ (a : Bool). a && member ws i) (sym (le-ltb i (64 * length ws) l)))
    (order i (64 * length ws)))
    ∙ list-holds (64 * length ws) (member ws)

-- what the contract of `selected` says of its result
abbrev pub SelectedAfter : List ℕ → ℕ → CellSet → CellSet → Type 0
SelectedAfter file g earlier r = (used : List ℕ) → member earlier.words ≡ listed used → member r.words ≡ listed (selected (board_of file) g used)

-- two results that meet it are equal
pub selected-once :
    (file : List ℕ) (g : ℕ) (earlier r s : CellSet) → Wide cell_words r.words → Wide cell_words s.words →
    SelectedAfter file g earlier r → SelectedAfter file g earlier s → r ≡ s
selected-once file g earlier r s wr ws h k =
    let used = words-list earlier.words in
    let held = words-listed earlier.words in
    sets-once r s wr ws (h used held ∙ sym (k used held))

-- lists of entries that are equal are equal entry by entry
entry-once : (t t' : List ℕ) (n : ℕ) → backwards t n ≡ backwards t' n → (i : ℕ) → i < n → spare_in t i ≡ spare_in t' i
unfolding backwards
entry-once t t' zero e i l = absurd (omega arith)
entry-once t t' (suc n) e i l =
    ⊎_elim
    (λ (q : i ≡ n). rw q (ap (λ (xs : List ℕ). get_or xs 0 0) e))
    (λ (q : i < n). entry-once t t' n (ap (drop 1) e) i q)
    (below_suc l)

-- two tables that are the order of a board: as many highest drivers, and the same
pub order-once :
    (file t t' : List ℕ) (found found' : ℕ) → Order file t found → Order file t' found' →
    (found ≡ found') × ((i : ℕ) → i < found → spare_in t i ≡ spare_in t' i)
order-once file t t' found found' o o' =
    let same : found ≡ found' = o.found-are ∙ sym o'.found-are in
    (same, entry-once t t' found (o.entries ∙ sym o'.entries ∙ ap (backwards t') (sym same)))

-- two ready tables are equal, where the links of cells without a key and the room of the chains by net are
pub ready-once : (file t t' : List ℕ) → Ready file t → Ready file t' → SameLinks file ControlCell t t' → Same spare_from counts_from t t' → t ≡ t'
ready-once file t t' h k links nets =
    tables-once file t t' h.long k.long h.by-control k.by-control h.counted k.counted links nets
