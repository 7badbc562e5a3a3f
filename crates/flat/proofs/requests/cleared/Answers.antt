-- `cleared` meets its contract. Assumes nothing.
use borrow.Author.Tests.{ne_eqb}
use Rattle.flat_form.proofs.Laws.{gives_is, gives_refusal, gives_written}
use Rattle.flat.specs.Requests.{clear_of}
use Rattle.flat.proofs.requests.cleared.Goals as goal

pub returns-in-170 : goal.returns-in-170
unfolding clear_of
returns-in-170 c =
    gives_is (rw (c.in-170.is, c.initiate.ensures, c.new-reservation_id.ensures)) (gives_written c.of_written.ensures c.write_request.ensures)

pub returns-in-0 : goal.returns-in-0
unfolding clear_of
returns-in-0 c =
    gives_is (rw (c.in-0.is, c.get_status.ensures, c.new-reservation_id.ensures)) (gives_written c.of_written-in-0.ensures c.write_request-in-0.ensures)

pub returns-in_default : goal.returns-in_default
unfolding clear_of
returns-in_default c = rw (ne_eqb _ 0x00AA c.in_default.in_default-own.rest.0.1, ne_eqb _ 0x0000 c.in_default.in_default-own.rest.1) (gives_refusal c.no_question.ensures)
