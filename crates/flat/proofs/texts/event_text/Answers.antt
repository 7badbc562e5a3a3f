-- `event_text` meets its contract. Assumes nothing.
use borrow.Author.Tests.{eq-eqb, ne_eqb}
use Rattle.flat_form.proofs.Laws.{gives_refusal, gives_written}
use Rattle.flat.specs.Texts.{event_text_flat}
use Rattle.flat.proofs.texts.event_text.Goals as goal

pub returns-then-data-ne3 : goal.returns-then-data-ne3
unfolding event_text_flat
returns-then-data-ne3 c = rw (ne_eqb _ 3 c.if-data-ne3.true) (gives_refusal c.no_question.ensures)

pub returns : goal.returns
unfolding event_text_flat
returns c =
    rw (eq-eqb _ 3 c.if-data-ne3.false) (gives_written c.of_written.ensures c.decode_event.ensures)
