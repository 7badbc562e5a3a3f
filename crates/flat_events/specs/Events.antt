-- The record of a message, and the message of a record, in the flat form (docs/SCOPE.md, "The flat form"). Assumes nothing.
use Rattle.std.specs.Prelude.{ℕ, List}
use Rattle.field.specs.Handed.{invalid_channel, short, too_long, unknown_type}
use Rattle.field.specs.Lengths.{entry_bytes}
use Rattle.storage.specs.Time.{timestamp}
use Rattle.ids.specs.Ids.{record_id}
use Rattle.sel.specs.Entry.{type_at}
use Rattle.platform_event.specs.Message.{channel_beside, message_bytes, message_in, record_of}
use Rattle.platform_event.specs.Ways.{way_in, way_out}
use Rattle.platform_event.specs.declared.Beside.{Beside}
use Rattle.flat_form.specs.Form.{Flat, refused, taken}

abbrev pub beside_of : ℕ → ℕ → ℕ → ℕ → Beside
beside_of id time g1 g2 = record { record_id = record_id id; timestamp = timestamp time; generator1 = g1; generator2 = g2 }

abbrev pub record_flat : Beside → List ℕ → Flat
record_flat b m =
    way_in b m (refused (short message_bytes)) (refused too_long) (refused (invalid_channel (channel_beside b))) (taken (record_of b m))

abbrev pub message_flat : List ℕ → Flat
message_flat s = way_out s (refused (short entry_bytes)) (refused (unknown_type (type_at s))) (taken (message_in s))
