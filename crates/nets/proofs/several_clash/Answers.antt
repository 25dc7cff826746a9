-- A walk along n's outputs that gathers their control cells (Met): one that is always on, or a control cell met again, is the clash.
use Rattle.std.proofs.Common.{ℕ, Bool, sym, ◌∙◌, ap, arith}
use Rattle.rules.specs.File.{board_of}
use Rattle.rules.proofs.DriverLaws.{control-below}
use Rattle.words.specs.Sets.{cell_words}
use Rattle.words.proofs.SetLaws.{member-zeros}
use Rattle.chains.proofs.Walks.{net-fits, cell-fits, below-named}
use Rattle.nets.proofs.Clashing.{meeting-start, meeting-on, meeting-under, meeting-again, meeting-next, meeting-ended, always-clashes}
use Rattle.nets.proofs.several_clash.Goals as goal

pub loop-at-init : goal.loop-at-init
loop-at-init c =
    let start = meeting-start _ _ c.args.board.now.filled.by-net _ (net-fits _ c.args.board.now.filled.by-net.checked _ c.requires.n_bound) _ c.net_head-at.ensures _
    (λ k. ap (λ (f : ℕ → Bool). f k) (member-zeros cell_words)) in
    record { meeting = start; under = meeting-under _ _ _ _ start }

pub returns-in_default-driver_at : goal.returns-in_default-driver_at
unfolding board_of
returns-in_default-driver_at c =
    let on = meeting-on _ _ c.args.board.now.filled.by-net _ _ _ _ c.loop-at.invariant.meeting c.in-Some.is in
    always-clashes _ _ _ c.requires.several (below-named _ _ _ c.loop-at.invariant.under c.in-Some.is) on
    (sym c.driver_at.ensures ∙ c.in_default-driver_at.is)

pub add_again-requires : goal.add_again-requires
add_again-requires c =
    let ok = c.args.board.now.filled.by-net.checked in
    let l = below-named _ _ _ c.loop-at.invariant.under c.in-Some.is in
    let f = cell-fits _ ok _ (control-below _ ok _ l _ c.in-Some-driver_at.driver.net (sym c.driver_at.ensures ∙ c.in-Some-driver_at.is)) in
    omega arith

pub returns-then-add_again : goal.returns-then-add_again
returns-then-add_again c =
    meeting-again _ _ c.args.board.now.filled.by-net _ _ _ _ c.loop-at.invariant.meeting c.in-Some.is _ c.in-Some-driver_at.driver.net
    (sym c.driver_at.ensures ∙ c.in-Some-driver_at.is) (sym c.add_again.ensures.value ∙ c.if-add_again.true)

pub loop-at-preserved : goal.loop-at-preserved
loop-at-preserved c =
    let next =
    meeting-next _ _ c.args.board.now.filled.by-net _ _ _ _ _ _ c.loop-at.invariant.meeting c.in-Some.is _ c.in-Some-driver_at.driver.net
    (sym c.driver_at.ensures ∙ c.in-Some-driver_at.is) (sym c.add_again.ensures.value ∙ c.if-add_again.false) c.add_again.ensures.words_after
    c.net_link-at.ensures in
    record { meeting = next; under = meeting-under _ _ _ _ next }

pub returns : goal.returns
returns c = meeting-ended _ _ c.args.board.now.filled.by-net _ _ _ c.loop-at.invariant.meeting c.in_default.is
