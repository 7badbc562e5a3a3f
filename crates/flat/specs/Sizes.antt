-- How many bytes can be written: what include/sel.h says of each function, and what the buffers of its callers rest on. Assumes nothing.
use Rattle.std.specs.Prelude.{ℕ, ◌≤◌, ◌<◌, ◌^◌, ◌≡◌, true, false, List, [], ◌∷◌, length}
use Rattle.field.specs.Bits.{Bytes}
use Rattle.storage.specs.Time.{TimeLength}
use Rattle.event_data.specs.DataText.{data_room, data_text}
use Rattle.event_data.specs.EventData.{event_data_of}
use Rattle.typed_data.specs.Table.{typed_of}
use Rattle.typed_data.specs.TypedText.{typed_text}
use Rattle.event_offset.specs.Event.{event_room, event_text}
use Rattle.sel.specs.Entry.{type_at}
use Rattle.flat_form.specs.Form.{taken}
use Rattle.flat_record.specs.Records.{entry_flat}
use Rattle.flat_answers.specs.Answers.{allocation_flat}
use Rattle.flat.specs.Kinds.{flat_of}
use Rattle.flat.specs.Letters.{is_text, kind_of}
use Rattle.flat.specs.Requests.{request_of}

-- no letter but those of the texts gives more bytes: a get-entry answer with a system event has so many
abbrev pub flat_room : ℕ
flat_room = 24

-- no payload of a request has more bytes
abbrev pub request_room : ℕ
request_room = 6

pub record Sizes : Type 0 where
  -- `sel_decode`: of any letter and any bytes
  pub texts : (letter : ℕ) (s flat : List ℕ) → is_text (kind_of letter) ≡ true → Bytes (length s) s → flat_of letter s ≡ taken flat → length flat ≤ event_room
  pub others : (letter : ℕ) (s flat : List ℕ) → is_text (kind_of letter) ≡ false → flat_of letter s ≡ taken flat → length flat ≤ flat_room
  -- `sel_entry`, by the record's type
  pub system : (s flat : List ℕ) → entry_flat s ≡ taken flat → type_at s ≡ 0x02 → length flat ≡ 22
  pub stamped : (s flat : List ℕ) → entry_flat s ≡ taken flat → 0xC0 ≤ type_at s → type_at s ≤ 0xDF → length flat ≡ 18
  pub plain : (s flat : List ℕ) → entry_flat s ≡ taken flat → 0xE0 ≤ type_at s → length flat ≡ 17
  -- `sel_allocation`
  pub allocation : (s flat : List ℕ) → allocation_flat s ≡ taken flat → length flat ≡ 9
  -- the texts by name, and the payload of a request
  pub event : (event sensor offset : ℕ) → length (event_text event sensor offset) ≤ event_room
  pub event_data : (b1 b2 b3 : ℕ) → b2 < 256 → b3 < 256 → length (data_text (event_data_of (b1 ∷ b2 ∷ b3 ∷ []))) ≤ data_room
  pub typed_data : (event b1 b2 b3 : ℕ) → b2 < 256 → b3 < 256 → length (typed_text (typed_of event (b1 ∷ b2 ∷ b3 ∷ []))) ≤ data_room
  pub time : (t : ℕ) → t < 2 ^ 32 → TimeLength t
  pub request : (command reservation argument : ℕ) (flat : List ℕ) → request_of command reservation argument ≡ taken flat → length flat ≤ request_room
