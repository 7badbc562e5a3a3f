-- `length_of` meets its contract, by the kind that the letter names. Assumes nothing.
use Rattle.flat.proofs.lengths.length_of.Goals as goal

pub returns-in-Some-Answer : goal.returns-in-Some-Answer
returns-in-Some-Answer c = rw (← c.kind_of.ensures, c.in-Some-Answer.is, c.in-Some-Answer.field-0-is) c.length_of_kind.ensures

pub returns-in-Some-Other : goal.returns-in-Some-Other
returns-in-Some-Other c = rw (← c.kind_of.ensures, c.in-Some-Other.is, c.in-Some-Other.field-0-is) c.no_question.ensures

pub returns-in-None : goal.returns-in-None
returns-in-None c = rw (← c.kind_of.ensures, c.in-None.is) c.no_question-in-None.ensures
