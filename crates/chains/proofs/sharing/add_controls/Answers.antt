-- A walk along n's chain that gathers the control cells of its drivers.
use Prim.Native.Nat.{ℕ}
use mathlib.Core.Path.{◌∙◌, ap}
use mathlib.Core.Bool.{Bool}
use Rattle.chains.proofs.Walks.{net-fits, cell-fits, below-named, walk-falls}
use Rattle.chains.proofs.Gathering.{gather-start, gather-on, gather-next, gather-ended}
use Rattle.chains.proofs.Brought.{brings-net, control-grown, all-controls}
use Rattle.chains.proofs.sharing.add_controls.Goals as goal

pub net_head-at-requires : goal.net_head-at-requires
net_head-at-requires c = net-fits _ c.requires.chains.checked _ c.requires.n_bound

pub loop-at-init : goal.loop-at-init
loop-at-init c =
    gather-start _ _ _ c.requires.chains _ _ (brings-net _ _ _) (net-fits _ c.requires.chains.checked _ c.requires.n_bound) _ _ c.net_head-at.ensures

pub net_link-at-requires : goal.net_link-at-requires
net_link-at-requires c = cell-fits _ c.requires.chains.checked _ (below-named _ _ _ c.loop-at.invariant.under c.in-Some.is)

pub loop-at-smaller : goal.loop-at-smaller
loop-at-smaller c =
    walk-falls _ _ _ c.requires.chains _ _ _ (below-named _ _ _ c.loop-at.invariant.under c.in-Some.is) c.in-Some.is c.net_link-at.ensures

pub loop-at-preserved : goal.loop-at-preserved
loop-at-preserved c =
    let on = gather-on _ _ _ c.requires.chains _ _ (brings-net _ _ _) _ _ c.loop-at.invariant c.in-Some.is in
    gather-next _ _ _ c.requires.chains _ _ (brings-net _ _ _) _ _ _ _ c.loop-at.invariant c.in-Some.is
    (λ j. ap (λ (f : ℕ → Bool). f j) c.add_control-more.ensures ∙ control-grown _ _ _ _ _ on j) c.net_link-at.ensures

pub returns : goal.returns
returns c = all-controls _ _ _ _ _ (gather-ended _ _ _ c.requires.chains _ _ (brings-net _ _ _) _ c.loop-at.invariant c.in_default.is)
