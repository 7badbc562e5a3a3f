-- `typed_data_text` meets its contract. Assumes nothing.
use borrow.Author.Tests.{eq-eqb, ne_eqb}
use Rattle.flat_form.proofs.Laws.{gives_refusal, gives_written}
use Rattle.flat.specs.Texts.{typed_data_text_flat}
use Rattle.flat.proofs.texts.typed_data_text.Goals as goal

pub returns-then-data-ne4 : goal.returns-then-data-ne4
unfolding typed_data_text_flat
returns-then-data-ne4 c = rw (ne_eqb _ 4 c.if-data-ne4.true) (gives_refusal c.no_question.ensures)

pub returns : goal.returns
unfolding typed_data_text_flat
returns c =
    rw (eq-eqb _ 4 c.if-data-ne4.false, ← c.parse-d.ensures)
    (gives_written c.of_written.ensures c.write_text.ensures)
