-- A walk along k's chain, for a driver whose net has another number of drivers than the first's.
use Rattle.std.proofs.Common.{ℕ, ◌≡◌, ◌<◌, true, false, sym, ◌∙◌, arith}
use borrow.Author.Tests.{eq-eqb, ne_eqb}
use Rattle.base.proofs.BoolLaws.{left, both, not-fails}
use Rattle.rules.specs.File.{Board, board_of, cells_of}
use Rattle.chains.specs.Table.{ControlCell}
use Rattle.chains.specs.Chains.{keyed}
use Rattle.chains.proofs.Walks.{cell-fits, from-head, step, on_chain, hit, missed, below-named, walk-falls}
use Rattle.chains.proofs.Brought.{keyed-controlled}
use Rattle.board.specs.Controls.{drivers_at, any_other}
use Rattle.board.proofs.ControlChecks.{other}
use Rattle.board.proofs.controls.differs.Goals as goal
use Rattle.board.proofs.controls.differs.Goals.{In-Some}

-- the test at a driver of k, where its number differs and where it does not
tells : (b : Board) (k first c r : ℕ) → keyed b ControlCell k c ≡ true → r ≡ drivers_at b c → (r ≡ first → ⊥) → other b k first c ≡ true
tells b k first c r key e z = both key (not-fails (ne_eqb _ _ (λ q. z (e ∙ q))))

agrees : (b : Board) (k first c r : ℕ) → keyed b ControlCell k c ≡ true → r ≡ drivers_at b c → r ≡ first → other b k first c ≡ false
agrees b k first c r key e z = rw (key, eq-eqb (drivers_at b c) first (sym e ∙ z))

-- the cell that the walk has come to is one of the file's, and a driver of k
here : (c : In-Some) → c.in-Some.c.0 < cells_of c.args.board.now.file.now
here c = below-named _ _ _ c.loop-at.invariant.under c.in-Some.is

on : (c : In-Some) → keyed (board_of c.args.board.now.file.now) ControlCell c.args.k.0 c.in-Some.c.0 ≡ true
on c = on_chain _ _ _ c.args.board.now.filled.by-control _ _ (λ d h. left _ _ h) _ _ _ c.loop-at.invariant c.in-Some.is

pub head-at-requires : goal.head-at-requires
head-at-requires c = cell-fits _ c.args.board.now.filled.by-control.checked _ c.requires

pub loop-at-init : goal.loop-at-init
loop-at-init c =
    from-head _ _ _ c.args.board.now.filled.by-control _ _ (λ d h. left _ _ h) (cell-fits _ c.args.board.now.filled.by-control.checked _ c.requires) _ c.head-at.ensures

pub drivers_at-requires : goal.drivers_at-requires
drivers_at-requires c = (here c, keyed-controlled _ _ _ (on c))

pub returns-then-drivers_at-first : goal.returns-then-drivers_at-first
unfolding any_other board_of
returns-then-drivers_at-first c =
    let other = tells _ _ _ _ _ (on (goal.at.returns-then-drivers_at-first c).In-Some) c.drivers_at.ensures c.if-drivers_at-first.true in
    sym (hit _ _ _ c.args.board.now.filled.by-control _ _ (λ d h. left _ _ h) _ _ _ c.loop-at.invariant c.in-Some.is other)

pub link-at-requires : goal.link-at-requires
link-at-requires c = cell-fits _ c.args.board.now.filled.by-control.checked _ (here (goal.at.link-at-requires c).In-Some)

pub loop-at-smaller : goal.loop-at-smaller
loop-at-smaller c = walk-falls _ _ _ c.args.board.now.filled.by-control _ _ _ (here (goal.at.loop-at-smaller c).In-Some) c.in-Some.is c.link-at.ensures

pub loop-at-preserved : goal.loop-at-preserved
loop-at-preserved c =
    let key = on (goal.at.loop-at-preserved c).In-Some in
    step _ _ _ c.args.board.now.filled.by-control _ _ (λ d h. left _ _ h) _ _ _ _ (omega arith) c.loop-at.invariant c.in-Some.is
    (agrees _ _ _ _ _ key c.drivers_at.ensures c.if-drivers_at-first.false) c.link-at.ensures

pub returns : goal.returns
unfolding any_other board_of
returns c = sym (missed _ _ _ c.args.board.now.filled.by-control _ _ (λ d h. left _ _ h) _ _ c.loop-at.invariant c.in_default.is)
