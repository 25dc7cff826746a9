-- The two passes, one after the other, from nothing.
use mathlib.Core.Path.{refl}
use borrow.Author.Rules.{rules}
use Rattle.words.specs.Sets.{cell_words}
use Rattle.words.proofs.SetLaws.{member-zeros}
use Rattle.select.proofs.Passing.{holds-none, selected-is, board-size}
use Rattle.select.proofs.groups.selected.Goals as goal

pub returns : goal.returns
returns c used e =
    let none = holds-none _ _ (member-zeros cell_words) c.empty.ensures in
    selected-is _ _ used _ _ _ e (board-size _ _ refl)
    (c.run_pass.ensures _ _ (λ d k stops l h. search rules) _ (c.run_pass-covered.ensures _ _ (λ d k stops l h. search rules) _ none))
