-- `other` meets its contract: each question has its own function, and all but one write. Assumes nothing.
use borrow.Author.Rules.{rules}
use Rattle.flat.proofs.LengthSaid.{length_gives}
use Rattle.flat.proofs.other.Goals as goal

pub returns-in-EntryText : goal.returns-in-EntryText
returns-in-EntryText c = rw c.in-EntryText.is (search rules)

pub returns-in-RecordPart : goal.returns-in-RecordPart
returns-in-RecordPart c = rw c.in-RecordPart.is (search rules)

pub returns-in-EntryOf : goal.returns-in-EntryOf
returns-in-EntryOf c = rw c.in-EntryOf.is (search rules)

pub returns-in-GetEntryOf : goal.returns-in-GetEntryOf
returns-in-GetEntryOf c = rw c.in-GetEntryOf.is (search rules)

pub returns-in-EventData : goal.returns-in-EventData
returns-in-EventData c = rw c.in-EventData.is (search rules)

pub returns-in-EventDataText : goal.returns-in-EventDataText
returns-in-EventDataText c = rw c.in-EventDataText.is (search rules)

pub returns-in-TypedData : goal.returns-in-TypedData
returns-in-TypedData c = rw c.in-TypedData.is (search rules)

pub returns-in-TypedDataText : goal.returns-in-TypedDataText
returns-in-TypedDataText c = rw c.in-TypedDataText.is (search rules)

pub returns-in-Length : goal.returns-in-Length
returns-in-Length c = rw c.in-Length.is (length_gives _ _ c.length.ensures)

pub returns-in-EventText : goal.returns-in-EventText
returns-in-EventText c = rw c.in-EventText.is (search rules)

pub returns-in-TimeText : goal.returns-in-TimeText
returns-in-TimeText c = rw c.in-TimeText.is (search rules)

pub returns-in-LogTimeText : goal.returns-in-LogTimeText
returns-in-LogTimeText c = rw c.in-LogTimeText.is (search rules)

pub returns-in-RecordId : goal.returns-in-RecordId
returns-in-RecordId c = rw c.in-RecordId.is (search rules)

pub returns-in-Request : goal.returns-in-Request
returns-in-Request c = rw c.in-Request.is (search rules)
