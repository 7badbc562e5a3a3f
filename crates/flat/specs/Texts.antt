-- The texts in the flat form (docs/SCOPE.md, "The flat form"), by the bytes of the question. Assumes nothing.
use Rattle.std.specs.Prelude.{ℕ, List, [], ◌∷◌, eqb, length, if◌then◌else◌}
use Rattle.field.specs.Bits.{byte_at, bits, le32_at}
use Rattle.connection.specs.Channel.{valid_channel}
use Rattle.storage.specs.Time.{log_time_text, time_text}
use Rattle.event_data.specs.DataText.{data_text}
use Rattle.event_data.specs.EventData.{event_data_of}
use Rattle.typed_data.specs.Table.{typed_of}
use Rattle.typed_data.specs.TypedText.{typed_text}
use Rattle.event_offset.specs.Event.{event_text}
use Rattle.sel.specs.Entry.{type_at}
use Rattle.sel.specs.Numbers.{entry_hands}
use Rattle.flat_form.specs.Form.{Flat, decided, no_question, taken}

-- of a record's event, by event type, sensor type and offset; empty for an OEM record. Refused as the record is
unfoldable pub entry_text_flat : List ℕ → Flat
entry_text_flat s =
    decided (entry_hands valid_channel s)
    (if eqb (type_at s) 0x02 then event_text (bits 6 0 (byte_at s 12)) (byte_at s 10) (bits 3 0 (byte_at s 13)) else [])

-- of three bytes of event data
unfoldable pub event_data_text_flat : List ℕ → Flat
event_data_text_flat s = if eqb (length s) 3 then taken (data_text (event_data_of s)) else no_question

-- of byte 12 of a record and three bytes of event data, by the event type
unfoldable pub typed_data_text_flat : List ℕ → Flat
typed_data_text_flat s =
    if eqb (length s) 4 then taken (typed_text (typed_of (byte_at s 0) (byte_at s 1 ∷ byte_at s 2 ∷ byte_at s 3 ∷ []))) else no_question

-- of an event: event type, sensor type, offset
unfoldable pub event_text_flat : List ℕ → Flat
event_text_flat s = if eqb (length s) 3 then taken (event_text (byte_at s 0) (byte_at s 1) (byte_at s 2)) else no_question

-- of a time: as the Rust has it, and as the log's lines do
unfoldable pub time_text_flat : List ℕ → Flat
time_text_flat s = if eqb (length s) 4 then taken (time_text (le32_at s 0)) else no_question

unfoldable pub log_time_text_flat : List ℕ → Flat
log_time_text_flat s = if eqb (length s) 4 then taken (log_time_text (le32_at s 0)) else no_question
