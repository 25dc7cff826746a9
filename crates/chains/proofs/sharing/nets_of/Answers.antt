-- A walk along k's chain that gathers the nets of its drivers.
use Prim.Native.Nat.{ℕ}
use mathlib.Core.Path.{sym, subst}
use mathlib.Core.Bool.{Bool}
use native.Mathlib.Omega.{arith}
use Rattle.words.specs.Sets.{net_words, nothing}
use Rattle.words.proofs.SetLaws.{member-zeros}
use Rattle.chains.specs.Table.{entry_of}
use Rattle.chains.proofs.Walks.{cell-fits, below-named, walk-falls}
use Rattle.chains.proofs.Gathering.{gather-start, gather-on, gather-next, gather-ended}
use Rattle.chains.proofs.Brought.{brings-control, net-brought, all-nets, chained-net}
use Rattle.chains.proofs.sharing.nets_of.Goals as goal
use Rattle.chains.proofs.sharing.nets_of.Invariants.{Nets}

pub head-at-requires : goal.head-at-requires
head-at-requires c = cell-fits _ c.requires.chains.checked _ c.requires.k_bound

pub loop-at-init : goal.loop-at-init
loop-at-init c =
    subst (λ (so_far : ℕ → Bool). Nets c.args.file.now c.args.k.0 so_far (entry_of c.head-at.result)) (sym (member-zeros net_words))
    (gather-start _ _ _ c.requires.chains _ _ (brings-control _ _) (cell-fits _ c.requires.chains.checked _ c.requires.k_bound) nothing _ c.head-at.ensures)

pub add-requires : goal.add-requires
add-requires c =
    let on = gather-on _ _ _ c.requires.chains _ _ (brings-control _ _) _ _ c.loop-at.invariant c.in-Some.is in
    let b = chained-net _ c.requires.chains.checked _ _ (below-named _ _ _ c.loop-at.invariant.under c.in-Some.is) on in
    omega (arith, c.net_at-n.ensures, c.net_at-n.array_long)

pub link-at-requires : goal.link-at-requires
link-at-requires c = cell-fits _ c.requires.chains.checked _ (below-named _ _ _ c.loop-at.invariant.under c.in-Some.is)

pub loop-at-smaller : goal.loop-at-smaller
loop-at-smaller c =
    walk-falls _ _ _ c.requires.chains _ _ _ (below-named _ _ _ c.loop-at.invariant.under c.in-Some.is) c.in-Some.is c.link-at.ensures

pub loop-at-preserved : goal.loop-at-preserved
loop-at-preserved c =
    let on = gather-on _ _ _ c.requires.chains _ _ (brings-control _ _) _ _ c.loop-at.invariant c.in-Some.is in
    gather-next _ _ _ c.requires.chains _ _ (brings-control _ _) _ _ _ _ c.loop-at.invariant c.in-Some.is
    (net-brought _ _ _ _ _ _ c.net_at-n.ensures c.add.ensures on) c.link-at.ensures

pub returns : goal.returns
returns c = all-nets _ _ _ (gather-ended _ _ _ c.requires.chains _ _ (brings-control _ _) _ c.loop-at.invariant c.in_default.is)
