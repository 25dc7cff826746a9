-- A walk along k's chain that gathers the control cells of its drivers' nets.
use Prim.Native.Nat.{ℕ}
use mathlib.Core.Path.{◌∙◌, ap}
use mathlib.Core.Bool.{Bool}
use Rattle.words.specs.Sets.{nothing}
use Rattle.chains.proofs.Walks.{cell-fits, below-named, walk-falls}
use Rattle.chains.proofs.Gathering.{gather-start, gather-on, gather-next, gather-ended}
use Rattle.chains.proofs.Brought.{shares-control, sharers-grown, all-sharers}
use Rattle.chains.proofs.sharing.partners.Goals as goal

pub head-at-requires : goal.head-at-requires
head-at-requires c = cell-fits _ c.requires.chains.checked _ c.requires.k_bound

pub loop-at-init : goal.loop-at-init
loop-at-init c =
    rw c.empty-set.ensures
    (gather-start _ _ _ c.requires.chains _ _ (shares-control _ _) (cell-fits _ c.requires.chains.checked _ c.requires.k_bound) nothing _ c.head-at.ensures)

pub link-at-requires : goal.link-at-requires
link-at-requires c = cell-fits _ c.requires.chains.checked _ (below-named _ _ _ c.loop-at.invariant.under c.in-Some.is)

pub loop-at-smaller : goal.loop-at-smaller
loop-at-smaller c =
    walk-falls _ _ _ c.requires.chains _ _ _ (below-named _ _ _ c.loop-at.invariant.under c.in-Some.is) c.in-Some.is c.link-at.ensures

pub loop-at-preserved : goal.loop-at-preserved
loop-at-preserved c =
    let on = gather-on _ _ _ c.requires.chains _ _ (shares-control _ _) _ _ c.loop-at.invariant c.in-Some.is in
    gather-next _ _ _ c.requires.chains _ _ (shares-control _ _) _ _ _ _ c.loop-at.invariant c.in-Some.is
    (λ m. ap (λ (f : ℕ → Bool). f m) c.add_sharers-set.ensures ∙ sharers-grown _ _ _ _ on m) c.link-at.ensures

pub returns : goal.returns
returns c = all-sharers _ c.requires.chains.checked _ _ (gather-ended _ _ _ c.requires.chains _ _ (shares-control _ _) _ c.loop-at.invariant c.in_default.is)
