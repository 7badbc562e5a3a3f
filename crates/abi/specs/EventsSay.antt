-- What the functions for Platform Event Messages say and leave is what the library's own do. Assumes nothing.
use Rattle.std.specs.Prelude.{ℕ, ◌≡◌, List}
use Rattle.platform_event.specs.Ways.{MessageAnswer, RecordAnswer, WritesMessage, WritesRecord, message_number, record_number}
use Rattle.platform_event.specs.declared.Beside.{Beside}
use Rattle.flat_form.specs.Form.{Gives, refusal}
use Rattle.flat_form.specs.declared.SelAnswer.{SelAnswer}
use Rattle.flat_events.specs.Events.{message_flat, record_flat}

-- an answer that `write_record` gives, with what it leaves, has this number and carries this
pub record RecordSaid (b : Beside) (m out : List ℕ) (r : SelAnswer) (left : List ℕ) : Type 0 where
  pub answer : RecordAnswer
  pub writes : WritesRecord b m out answer left
  pub said : r ≡ refusal (record_number answer)

-- and one that `write_message` gives
pub record MessageSaid (s out : List ℕ) (r : SelAnswer) (left : List ℕ) : Type 0 where
  pub answer : MessageAnswer
  pub writes : WritesMessage s out answer left
  pub said : r ≡ refusal (message_number answer)

-- So every sentence on these two is one on the functions for C.
pub record EventsSay : Type 0 where
  pub to_record : (b : Beside) (m out left : List ℕ) (r : SelAnswer) → Gives (record_flat b m) out r left → RecordSaid b m out r left
  pub to_event : (s out left : List ℕ) (r : SelAnswer) → Gives (message_flat s) out r left → MessageSaid s out r left
