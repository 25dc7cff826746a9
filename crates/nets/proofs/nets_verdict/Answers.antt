-- The three checks in a row (nets-judged, later-judged): a refusal stops it, an acceptance goes on.
use Rattle.std.proofs.Common.{refl}
use Rattle.std.proofs.lemmas.Result.{err_from_is_err_and}
use Rattle.rules.proofs.Verdicts.{stopped, passed}
use Rattle.nets.proofs.NetChecks.{nets-judged, later-judged}
use Rattle.nets.proofs.nets_verdict.Goals as goal

pub returns-in_err-undriven_verdict : goal.returns-in_err-undriven_verdict
returns-in_err-undriven_verdict c =
    let p = err_from_is_err_and c.from_residual.result c.from_residual.ensures.1 in
    rw (p.1, p.2) (stopped (nets-judged _ _ _ c.requires.filled c.requires.nets_value) c.in_err-undriven_verdict.ensures refl)

pub returns-in_err-clash_verdict : goal.returns-in_err-clash_verdict
returns-in_err-clash_verdict c =
    let p = err_from_is_err_and c.from_residual-in_err-clash_verdict.result c.from_residual-in_err-clash_verdict.ensures.1 in
    passed (nets-judged _ _ _ c.requires.filled c.requires.nets_value) c.undriven_verdict.ensures c.in_ok-undriven_verdict.was
    (rw (p.1, p.2) (stopped (later-judged _ _ _ c.requires.filled c.requires.nets_value) c.in_err-clash_verdict.ensures refl))

pub returns : goal.returns
returns c =
    passed (nets-judged _ _ _ c.requires.filled c.requires.nets_value) c.undriven_verdict.ensures c.in_ok-undriven_verdict.was
    (passed (later-judged _ _ _ c.requires.filled c.requires.nets_value) c.clash_verdict.ensures c.in_ok-clash_verdict.was c.crowded_verdict.ensures)
