-- Keep the bits we drop, sentence by sentence. It is of IPMI 2.0 but for what the parser keeps. Assumes nothing.
use Rattle.std.specs.Prelude.{ℕ, ◌≤◌, ◌≡◌, Bool, List, [], ◌∷◌, ◌↔◌, length, take}
use Rattle.field.specs.Bits.{Octets}
use Rattle.field.specs.Handed.{handed}
use Rattle.field.specs.Lengths.{entry_bytes}
use Rattle.connection.specs.Channel.{valid_channel}
use Rattle.sel.specs.Entry.{accepted, parse_entry}
use Rattle.sel.specs.Kept.{Keeps}
use Rattle.sel.specs.declared.Entry.{Entry}
use Rattle.sel.specs.declared.KeptBytes.{KeptBytes}
use Rattle.sel.specs.declared.Opened.{Opened}
use Rattle.sel.specs.declared.SystemEvent.{SystemEvent}
use Rattle.record_writer.specs.Layout.{made_of}
use Rattle.record_writer.specs.Trips.{FromFields, Wrote, Zeros}
use Rattle.record_writer.specs.Turned.{Seven, Sound}
use Rattle.record_writer.specs.Written.{WriteAnswer, WritesEntry, number_of}
use Rattle.flat_form.specs.declared.SelAnswer.{SelAnswer}
use Rattle.flat_writer.specs.KeptTrips.{KeptAnswers, KeptTrips}

pub record KeptBits : Type 0 where
  -- a system entry keeps the generator bytes and the three event data bytes as they came, and its fields follow from them
  pub parsed : (valid : ℕ → Bool) (s : List ℕ) (entry : Entry) (oem : List ℕ) → Keeps valid s entry oem
  -- an entry that is made from fields has kept bytes from which they follow, if there are any
  pub made : (e : SystemEvent) → FromFields e
  -- writing gives a record's sixteen input bytes, of every kind: parsed, and then written wherever there is room
  pub identity : (s : List ℕ) (entry : Entry) (oem out left : List ℕ) (r : WriteAnswer) → Octets s → parse_entry valid_channel s ≡ accepted entry oem
      → WritesEntry entry oem out r left → entry_bytes ≤ length out → (number_of r ≡ handed 0 (entry_bytes ∷ [])) × (take entry_bytes left ≡ take entry_bytes s)
  -- zeros in what no field holds are of entries that are made from fields
  pub zeros : (e : SystemEvent) (oem out left : List ℕ) → Wrote (made_of e) oem out left → Zeros e left
  -- 7 where kept bytes and fields disagree, and of a system entry exactly then and as before
  pub seven : (e : SystemEvent) (k : KeptBytes) (oem : List ℕ) → Seven (Opened.System e) k oem ↔ (Sound e k oem → ⊥)
  -- from C too: a record comes back by its flat bytes and its kept bytes
  pub trips : (k f : List ℕ) → KeptTrips k f
  pub answers : (k f out left : List ℕ) (r : SelAnswer) → KeptAnswers k f out left r
