-- No head, or a head without a link: one output at most; else there is another beside each.
use Rattle.std.proofs.Common.{sym, ◌∙◌, ap}
use borrow.Author.Tests.{eqb-true, eqb-false}
use Rattle.chains.specs.Table.{entry_of}
use Rattle.chains.proofs.Walks.{net-fits, cell-fits}
use Rattle.nets.proofs.Clashing.{none-alone, one-alone, more-several, head-below}
use Rattle.nets.proofs.NetChecks.{none-zero}
use Rattle.nets.proofs.alone.Goals as goal

pub returns-in_default-clause-alone : goal.returns-in_default-clause-alone
returns-in_default-clause-alone c t =
    none-alone _ _ c.args.board.now.filled.by-net _ (net-fits _ c.args.board.now.filled.by-net.checked _ c.requires) (sym c.net_head.ensures ∙ ap entry_of c.in_default.is)

pub net_link-requires : goal.net_link-requires
net_link-requires c =
    cell-fits _ c.args.board.now.filled.by-net.checked _
    (head-below _ _ c.args.board.now.filled.by-net _ (net-fits _ c.args.board.now.filled.by-net.checked _ c.requires) _ (sym (ap entry_of c.in-Some.is) ∙ c.net_head.ensures)).0

pub returns-clause-alone : goal.returns-clause-alone
returns-clause-alone c t =
    one-alone _ _ c.args.board.now.filled.by-net _ (net-fits _ c.args.board.now.filled.by-net.checked _ c.requires) _ (sym (ap entry_of c.in-Some.is) ∙ c.net_head.ensures)
    (eqb-true _ _ (sym (none-zero _ _ _ c.net_link.ensures c.is_none.ensures) ∙ t))

pub returns-clause-several : goal.returns-clause-several
returns-clause-several c f =
    more-several _ _ c.args.board.now.filled.by-net _ (net-fits _ c.args.board.now.filled.by-net.checked _ c.requires) _ (sym (ap entry_of c.in-Some.is) ∙ c.net_head.ensures)
    (eqb-false _ _ (sym (none-zero _ _ _ c.net_link.ensures c.is_none.ensures) ∙ f))
