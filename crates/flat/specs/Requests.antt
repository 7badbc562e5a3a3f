-- Requests in the flat form (docs/SCOPE.md, "The flat form"): a command and its fields, to the payload. Assumes nothing.
use Rattle.std.specs.Prelude.{ℕ, List, [], eqb, length, if◌then◌else◌}
use Rattle.field.specs.Bits.{byte_at, le16_at}
use Rattle.field.specs.Choose.{within}
use Rattle.ids.specs.Ids.{record_id, reservation_id}
use Rattle.get_entry.specs.GetEntry.{entry_request}
use Rattle.sel_commands.specs.Clear.{clear_request}
use Rattle.sel_commands.specs.declared.clear.ClearSelAction.{ClearSelAction}
use Rattle.flat_form.specs.Form.{Flat, no_question, taken}

-- 47h, Clear SEL: AAh erases, 00h asks for the status
unfoldable pub clear_of : ℕ → ℕ → Flat
clear_of reservation argument =
    if eqb argument 0x00AA then taken (clear_request (reservation_id reservation) ClearSelAction.InitiateErase) else
    if eqb argument 0x0000 then taken (clear_request (reservation_id reservation) ClearSelAction.GetStatus) else
    no_question

-- 40h, 41h and 42h, Get SEL Info, Get SEL Allocation Info and Reserve SEL, have no payload, whatever the fields; 43h, Get SEL Entry, asks for the
-- record whose id the argument is
unfoldable pub request_of : ℕ → ℕ → ℕ → Flat
request_of command reservation argument =
    if within 0x40 0x42 command then taken [] else
    if eqb command 0x43 then taken (entry_request (reservation_id reservation) (record_id argument)) else
    if eqb command 0x47 then clear_of reservation argument else
    no_question

-- how many bytes a question has: the command, and of 47h and 43h the reservation and the argument, which has one byte or two
unfoldable pub question_length : ℕ → ℕ
question_length command =
    if eqb command 0x47 then 4 else
    if eqb command 0x43 then 5 else
    1

-- a byte that is not there counts as 0
unfoldable pub request_flat : List ℕ → Flat
request_flat s = if eqb (length s) (question_length (byte_at s 0)) then request_of (byte_at s 0) (le16_at s 1) (le16_at s 3) else no_question
