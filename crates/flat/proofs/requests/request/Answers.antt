-- `request` meets its contract. Assumes nothing.
use borrow.Author.Tests.{eq-eqb, ne_eqb}
use Rattle.flat_form.proofs.Laws.{gives_refusal}
use Rattle.flat.specs.Requests.{request_flat}
use Rattle.flat.proofs.requests.request.Goals as goal

pub returns-then-data-question_length : goal.returns-then-data-question_length
unfolding request_flat
returns-then-data-question_length c =
    rw (← c.byte_at-command.ensures, ← c.question_length.ensures, ne_eqb _ _ c.if-data-question_length.true) (gives_refusal c.no_question.ensures)

pub returns : goal.returns
unfolding request_flat
returns c =
    rw (← c.byte_at-command.ensures, ← c.question_length.ensures, eq-eqb _ _ c.if-data-question_length.false, ← c.le16_at.ensures, ← c.le16_at-2.ensures)
    c.requested.ensures
