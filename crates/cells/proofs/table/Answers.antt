-- Each arm is the definition's row; a number past the last row is broken. The columns that are not of the record itself are as the definition has
-- them: the net is below N, and the control is the position of a kind 2 cell.
use Rattle.rules.specs.File.{table_of}
use Rattle.rules.proofs.RecordLaws.{some-means}
use Rattle.cells.proofs.WholeLaws.{no_row}
use Rattle.cells.proofs.table.Goals as goal

pub returns-in_default : goal.returns-in_default
returns-in_default c =
    let no = c.in_default.in_default-own.rest in
    no_row _ _ _ _ _ _ no.0.0.0.0.0.1 no.0.0.0.0.1 no.0.0.0.1 no.0.0.1 no.0.1 no.1

pub of_kind_2-requires : goal.of_kind_2-requires
unfolding table_of
of_kind_2-requires c = record { shaped = c.requires.shaped; cells_value = c.requires.sized.cells_are }

pub returns-in-0 : goal.returns-in-0
unfolding table_of
returns-in-0 c = rw (c.then_some.ensures, some-means, c.columns.ensures, c.in-0.is)

pub returns-in-1 : goal.returns-in-1
unfolding table_of
returns-in-1 c = rw (c.then_some-in-1.ensures, some-means, c.columns-in-1.ensures, c.in-1.is, c.requires.sized.nets-are)

pub returns-in-2 : goal.returns-in-2
unfolding table_of
returns-in-2 c = rw (c.then_some-in-2.ensures, some-means, c.columns-in-2.ensures, c.in-2.is)

pub returns-in-3 : goal.returns-in-3
unfolding table_of
returns-in-3 c = rw (c.then_some-in-3.ensures, some-means, c.columns-in-3.ensures, c.of_kind_2.ensures, c.in-3.is, c.requires.sized.nets-are)

pub returns-in-4 : goal.returns-in-4
unfolding table_of
returns-in-4 c = rw (c.then_some-in-4.ensures, some-means, c.columns-in-4.ensures, c.in-4.is, c.requires.sized.nets-are)

pub returns-in-5 : goal.returns-in-5
unfolding table_of
returns-in-5 c = rw (c.then_some-in-5.ensures, some-means, c.columns-in-5.ensures, c.in-5.is, c.requires.sized.nets-are)
