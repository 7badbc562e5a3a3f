-- Controllers that answer a few bytes: what is claimed of the request for a part of a record, of the list of reads, and of their answers joined. A
-- sentence of the request for each. Assumes nothing.
use Rattle.std.specs.Prelude.{ℕ, ◌≤◌, ◌<◌, ◌≡◌, Bool, List, ◌++◌, length, take, drop}
use Rattle.field.specs.Bits.{le_bytes}
use Rattle.field.specs.Lengths.{entry_bytes}
use Rattle.field.specs.Rows.{Rows}
use Rattle.ids.specs.declared.RecordId.{RecordId}
use Rattle.ids.specs.declared.ReservationId.{ReservationId}
use Rattle.sel.specs.Entry.{parse_entry}
use Rattle.get_entry.specs.GetEntry.{entry_payload, entry_request, parse_answer, with_next}
use Rattle.partial.specs.Join.{JoinAnswer, Takes, held, number_of as join_number}
use Rattle.partial.specs.Joined.{Between, Joins, JoinsOnly, ReadOn, answers_of, empty, hand_in}
use Rattle.partial.specs.Reads.{Lists, ReadsAnswer, number_of as reads_number, pairs, reads_of}
use Rattle.partial.specs.Refusals.{JoinRow, PartRow, ReadsRow}
use Rattle.partial.specs.Request.{PartAnswer, Requests, number_of as part_number}
use Rattle.partial.specs.RightReads.{RightReads}
use Rattle.partial.specs.declared.GetEntryPart.{GetEntryPart}
use Rattle.partial.specs.declared.Joining.{Joining}
use Rattle.abi.specs.PartsSay.{PartsSay}

pub record FewBytes : Type 0 where
  -- the request takes an offset and a count: 14 exactly without a reservation, then 16 exactly for no part of a record, then 4 with 6, and else the six
  -- bytes; a refusal leaves the output as it was
  pub request : (g : GetEntryPart) (out left : List ℕ) (r : PartAnswer) → Requests g out r left → Rows (part_number r) (PartRow g out)
  pub asked : (g : GetEntryPart) (out left : List ℕ) (r : PartAnswer) → Requests g out r left → (part_number r).number ≡ 0
      → left ≡ entry_payload g.reservation_id g.record_id g.offset g.bytes_to_read ++ drop 6 out
  pub unasked : (g : GetEntryPart) (out left : List ℕ) (r : PartAnswer) → Requests g out r left → ((part_number r).number ≡ 0 → ⊥) → left ≡ out
  -- the request of 00h and FFh stays for whole reads
  pub stays : (reservation : ReservationId) (id : RecordId) → entry_request reservation id ≡ entry_payload reservation id 0x00 0xFF
  -- for m from 1 on the reads cover the sixteen bytes in order, with no gap and no overlap, each of the smaller of m and 16, the last of what is left, and
  -- no other list does; no list of reads of 1 to m bytes that covers the record is shorter
  pub reads : (m : ℕ) → 1 ≤ m → RightReads m
  -- they are listed: 13 exactly for m of 0, then 4 with twice the reads, and else offset and count of each; a refusal leaves the output as it was
  pub list : (m : ℕ) (out left : List ℕ) (r : ReadsAnswer) → Lists m out r left → Rows (reads_number r) (ReadsRow m out)
  pub listed : (m : ℕ) (out left : List ℕ) (r : ReadsAnswer) → Lists m out r left → (reads_number r).number ≡ 0
      → left ≡ pairs (reads_of m) ++ drop (length (pairs (reads_of m))) out
  pub unlisted : (m : ℕ) (out left : List ℕ) (r : ReadsAnswer) → Lists m out r left → ((reads_number r).number ≡ 0 → ⊥) → left ≡ out
  -- an answer handed in: 13, 16, 1 with the length needed or 8, 15 and 4 exactly when their rows say, in this order, and else taken
  pub answer : (j k : Joining) (s old left : List ℕ) (r : JoinAnswer) → Takes (held j old) s r (held k left) → Rows (join_number r) (JoinRow (held j old) s)
  -- a refused answer leaves the joining as it was, and the lent bytes
  pub refused : (j k : Joining) (s old left : List ℕ) (r : JoinAnswer) → Takes (held j old) s r (held k left)
      → ((join_number r).number ≡ 0 → ⊥) → (k ≡ j) × (left ≡ old)
  -- for every record, next id and m, the answers to the listed reads join to that record and next id, also with refused answers in between
  pub joins : (m : ℕ) → 1 ≤ m → (next : ℕ) → next < 65536 → (bytes : List ℕ) → length bytes ≡ entry_bytes → (old : List ℕ) → entry_bytes ≤ length old
      → Joins m next bytes old
  -- and what joined was those answers
  pub only : (m : ℕ) → 1 ≤ m → (old : List ℕ) → entry_bytes ≤ length old → JoinsOnly m old
  -- the record is then read as any other: the next id and the sixteen bytes, as a whole answer, under any rule of channels
  pub read_on : (valid : ℕ → Bool) (next : ℕ) → next < 65536 → (bytes : List ℕ) → length bytes ≡ entry_bytes → ReadOn valid next bytes
  pub read : (valid : ℕ → Bool) (m : ℕ) → 1 ≤ m → (next : ℕ) → next < 65536 → (bytes : List ℕ) → length bytes ≡ entry_bytes → (old : List ℕ)
      → entry_bytes ≤ length old → (handed : List (List ℕ)) → Between (empty m old) (answers_of bytes next m) handed
      → parse_answer valid (le_bytes 2 (hand_in (empty m old) handed).state.next ++ take entry_bytes (hand_in (empty m old) handed).bytes)
      ≡ with_next next (parse_entry valid bytes)
  -- and the same of the functions for C
  pub says : PartsSay
