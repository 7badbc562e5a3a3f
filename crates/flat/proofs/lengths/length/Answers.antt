-- `length` meets its contract. Assumes nothing.
use borrow.Author.Tests.{eq-eqb, ne_eqb}
use Rattle.flat.specs.Lengths.{length_flat}
use Rattle.flat.proofs.lengths.length.Goals as goal

pub returns-then-data-ne5 : goal.returns-then-data-ne5
unfolding length_flat
returns-then-data-ne5 c = rw (ne_eqb _ 5 c.if-data-ne5.true) c.no_question.ensures

pub returns : goal.returns
unfolding length_flat
returns c = rw (eq-eqb _ 5 c.if-data-ne5.false, ← c.byte_at.ensures, ← c.le32_at.ensures) c.length_of.ensures
