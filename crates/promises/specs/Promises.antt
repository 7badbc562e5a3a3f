-- The promise of the parsers, by the kind that is asked for, as their contracts have it. The functions of src/ are held to it, and the sentences
-- start from it. Assumes nothing.
use Rattle.std.specs.Prelude.{ℕ, List}
use Rattle.field.specs.Handed.{Answers}
use Rattle.connection.specs.Channel.{valid_channel}
use Rattle.answers.specs.Answer.{Answer, answer_of, number_of}
use Rattle.answers.specs.Rows.{hands_of}
use Rattle.answers.specs.declared.AnswerKind.{AnswerKind}

-- `Entry::parse`, and `parse_success_response` of GetEntry, GetInfo, GetAllocInfo, ReserveSel and ClearSel
abbrev pub Promised : (kind : AnswerKind) → Answer kind → List ℕ → Type 0
Promised kind r s = Answers r (answer_of valid_channel kind s) (number_of kind) (hands_of valid_channel kind s)
