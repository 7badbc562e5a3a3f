-- `event_data_text` meets its contract. Assumes nothing.
use borrow.Author.Tests.{eq-eqb, ne_eqb}
use Rattle.event_data.specs.EventData.{event_data_of}
use Rattle.flat_form.proofs.Laws.{gives_refusal, gives_written}
use Rattle.flat.specs.Texts.{event_data_text_flat}
use Rattle.flat.proofs.texts.event_data_text.Goals as goal

pub returns-then-data-ne3 : goal.returns-then-data-ne3
unfolding event_data_text_flat
returns-then-data-ne3 c = rw (ne_eqb _ 3 c.if-data-ne3.true) (gives_refusal c.no_question.ensures)

pub returns : goal.returns
unfolding event_data_text_flat event_data_of
returns c =
    rw (eq-eqb _ 3 c.if-data-ne3.false, ← c.parse-d.ensures) (gives_written c.of_written.ensures c.write_text.ensures)
