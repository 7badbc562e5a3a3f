-- `flat` meets its contract, by the kind that the letter names. Assumes nothing.
use borrow.Author.Rules.{rules}
use Rattle.flat_form.proofs.Laws.{gives_refusal}
use Rattle.flat.proofs.flat.Goals as goal

pub returns-in-Some-Answer : goal.returns-in-Some-Answer
returns-in-Some-Answer c = rw (← c.kind_of.ensures, c.in-Some-Answer.is, c.in-Some-Answer.field-0-is) (search rules)

pub returns-in-Some-Other : goal.returns-in-Some-Other
returns-in-Some-Other c = rw (← c.kind_of.ensures, c.in-Some-Other.is, c.in-Some-Other.field-0-is) (search rules)

pub returns-in-None : goal.returns-in-None
returns-in-None c = rw (← c.kind_of.ensures, c.in-None.is) (gives_refusal c.no_question.ensures)
