-- The list of reads, and the request for a part of a record, in the flat form (docs/SCOPE.md, "The flat form"). Assumes nothing.
use Rattle.std.specs.Prelude.{ℕ, eqb, if◌then◌else◌}
use Rattle.field.specs.Handed.{no_bytes, no_such_part, unreserved}
use Rattle.ids.specs.Ids.{record_id, reservation_id}
use Rattle.partial.specs.Reads.{pairs, reads_of}
use Rattle.partial.specs.Request.{may_ask, part_request}
use Rattle.partial.specs.declared.GetEntryPart.{GetEntryPart}
use Rattle.flat_form.specs.Form.{Flat, refused, taken}

abbrev pub reads_flat : ℕ → Flat
reads_flat m = if eqb m 0 then refused no_bytes else taken (pairs (reads_of m))

abbrev pub part_of : ℕ → ℕ → ℕ → ℕ → GetEntryPart
part_of reservation id offset count =
    record { reservation_id = reservation_id reservation; record_id = record_id id; offset = offset; bytes_to_read = count }

abbrev pub part_flat : GetEntryPart → Flat
part_flat g = may_ask g (refused unreserved) (refused no_such_part) (taken (part_request g))
