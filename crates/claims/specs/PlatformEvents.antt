-- Platform Event Messages: what is claimed of the record that a message makes, and of the message of a record. Assumes nothing.
use Rattle.std.specs.Prelude.{ℕ, ◌≡◌, List}
use Rattle.field.specs.Bits.{bytes_at}
use Rattle.platform_event.specs.Message.{message_in}
use Rattle.platform_event.specs.Refusals.{ToMessage, ToRecord}
use Rattle.platform_event.specs.Trips.{MessageAlone, MessageBack, RecordBack}
use Rattle.platform_event.specs.Ways.{MessageAnswer, RecordAnswer}
use Rattle.platform_event.specs.declared.Beside.{Beside}
use Rattle.abi.specs.EventsSay.{EventsSay}

pub record PlatformEvents : Type 0 where
  -- the seven bytes of a message are those of a system record from byte 9 on
  pub stands : (s : List ℕ) → message_in s ≡ bytes_at s 9 7
  -- with an id, a time and two generator bytes beside, a message makes the record: 1 with 7 exactly under seven bytes, then 8 exactly over seven, then 3
  -- exactly for an invalid channel, then 4 with 16, and else the sixteen bytes; a refusal leaves the output as it was
  pub to_record : (b : Beside) (m out left : List ℕ) (r : RecordAnswer) → ToRecord b m out left r
  -- from a system record the seven bytes: 1 with 16 exactly under sixteen bytes, then 2 with the type exactly for any other record, then 4 with 7; a
  -- refusal leaves the output as it was
  pub to_message : (s out left : List ℕ) (r : MessageAnswer) → ToMessage s out left r
  -- no channel is tested on that way, and no byte after the sixteenth is looked at
  pub alone : (s s' out left left' : List ℕ) (r r' : MessageAnswer) → MessageAlone s s' out left left' r r'
  -- message to record to message is exact for all seven bytes, of every message; and the record so made is accepted by the parser, and its fields are the
  -- message's, a sentence a field
  pub message_back : (b : Beside) (m out left : List ℕ) → MessageBack b m out left
  -- the reverse is exact, for a valid channel, when id, time and generator are given again
  pub record_back : (s out left : List ℕ) → RecordBack s out left
  -- and the same of the functions for C
  pub says : EventsSay
