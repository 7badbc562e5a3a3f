-- `question_length` meets its contract. Assumes nothing.
use borrow.Author.Tests.{ne_eqb}
use Rattle.flat.specs.Requests.{question_length}
use Rattle.flat.proofs.requests.question_length.Goals as goal

pub returns-in-71 : goal.returns-in-71
unfolding question_length
returns-in-71 c = rw c.in-71.is

pub returns-in-67 : goal.returns-in-67
unfolding question_length
returns-in-67 c = rw c.in-67.is

pub returns-in_default : goal.returns-in_default
unfolding question_length
returns-in_default c = rw (ne_eqb _ 0x47 c.in_default.in_default-own.rest.0.1, ne_eqb _ 0x43 c.in_default.in_default-own.rest.1)
