-- `requested` meets its contract. Assumes nothing.
use Rattle.flat_form.proofs.Laws.{gives_is, gives_refusal, gives_written}
use Rattle.flat.specs.Requests.{request_of}
use Rattle.flat.proofs.Laws.{no_command}
use Rattle.flat.proofs.requests.requested.Goals as goal

pub returns-in-67 : goal.returns-in-67
unfolding request_of
returns-in-67 c =
    gives_is (rw (c.in-67.is, c.new-request.ensures, c.new.ensures, c.new_raw.ensures))
    (gives_written c.of_written-in-67.ensures c.write_request-in-67.ensures)

pub returns-in_default : goal.returns-in_default
returns-in_default c =
    let r = c.in_default.in_default-own.rest in
    gives_is (no_command c.args.command _ _ r.0.0.0.0.1 r.0.0.0.1 r.0.0.1 r.0.1 r.1) (gives_refusal c.no_question.ensures)

pub returns-in-64 : goal.returns-in-64
unfolding request_of
returns-in-64 c = rw c.in-64.is (gives_written c.of_written.ensures c.write_request.ensures)

pub returns-in-65 : goal.returns-in-65
unfolding request_of
returns-in-65 c = rw c.in-65.is (gives_written c.of_written-in-65.ensures c.write_request-in-65.ensures)

pub returns-in-66 : goal.returns-in-66
unfolding request_of
returns-in-66 c = rw c.in-66.is (gives_written c.of_written-in-66.ensures c.write_request-in-66.ensures)

pub returns-in-71 : goal.returns-in-71
unfolding request_of
returns-in-71 c = rw c.in-71.is c.cleared.ensures
