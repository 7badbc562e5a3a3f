-- `log_time_text` meets its contract. Assumes nothing.
use mathlib.Core.Path.{ap}
use borrow.Author.Tests.{eq-eqb, ne_eqb}
use Rattle.storage.specs.declared.Timestamp.{Timestamp}
use Rattle.flat_form.proofs.Laws.{gives_refusal, gives_written}
use Rattle.flat.specs.Texts.{log_time_text_flat}
use Rattle.flat.proofs.texts.log_time_text.Goals as goal

pub returns-then-data-ne4 : goal.returns-then-data-ne4
unfolding log_time_text_flat
returns-then-data-ne4 c = rw (ne_eqb _ 4 c.if-data-ne4.true) (gives_refusal c.no_question.ensures)

pub returns : goal.returns
unfolding log_time_text_flat
returns c =
    rw (eq-eqb _ 4 c.if-data-ne4.false, ← c.le32_at.ensures, ← ap (λ (t : Timestamp). t.0) c.from-time.ensures) (gives_written c.of_written.ensures c.write_log_text.ensures)
