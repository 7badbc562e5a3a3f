-- The cases that the rules of the port mark as proved, one a line, of whatever is answered under the promise. What a case leaves open is a
-- variable: every list of 15 bytes, every record of type 03h, every record in a slot, every lent list. Assumes nothing.
use Rattle.std.specs.Prelude.{ℕ, ◌≤◌, ◌≡◌, List, [], ◌∷◌, length, Result, Ok}
use Rattle.field.specs.Bits.{byte_at}
use Rattle.field.specs.Handed.{handed}
use Rattle.storage.specs.Alloc.{AllocAnswer}
use Rattle.event_data.specs.EventData.{event_data_of}
use Rattle.event_data.specs.declared.EventData.{EventData}
use Rattle.event_data.specs.declared.EventData2Type.{EventData2Type}
use Rattle.event_data.specs.declared.EventData3Type.{EventData3Type}
use Rattle.ids.specs.Ids.{record_id}
use Rattle.sel.specs.Entry.{EntryAnswer}
use Rattle.answers.specs.Answer.{number_of}
use Rattle.sel_commands.specs.Clear.{ClearAnswer}
use Rattle.sel_commands.specs.Info.{InfoAnswer}
use Rattle.sel_commands.specs.Reserve.{ReserveAnswer}
use Rattle.sel_commands.specs.declared.clear.ErasureProgress.{ErasureProgress}
use Rattle.sel_commands.specs.declared.get_info.Info.{Info}
use Rattle.answers.specs.declared.AnswerKind.{AnswerKind}
use Rattle.capture.specs.Slots.{asked_of, next_of}
use Rattle.capture.specs.Walked.{Walked}
use Rattle.capture.specs.declared.CaptureError.{CaptureError}
use Rattle.capture.specs.declared.Verdict.{Verdict}
use Rattle.promises.specs.Promises.{Promised}

-- slots 0000h to 0001h and 0001h to FFFFh; and one slot 0000h to 0000h; with a place for each in the lent list
pub record TwoSlots (s old : List ℕ) : Type 0 where
  pub long : length s ≡ 40
  pub asked0 : asked_of s 0 ≡ 0x0000
  pub next0 : next_of s 0 ≡ 0x0001
  pub asked1 : asked_of s 1 ≡ 0x0001
  pub next1 : next_of s 1 ≡ 0xFFFF
  pub room : 2 ≤ length old

pub record OneSlot (s old : List ℕ) : Type 0 where
  pub long : length s ≡ 20
  pub asked0 : asked_of s 0 ≡ 0x0000
  pub next0 : next_of s 0 ≡ 0x0000
  pub room : 1 ≤ length old

pub record Cases : Type 0 where
  -- entry of 15 bytes: 1 with 16
  pub entry15 : (s : List ℕ) (r : EntryAnswer) → Promised AnswerKind.Entry r s → length s ≡ 15 → number_of AnswerKind.Entry r ≡ handed 1 (16 ∷ [])
  -- type 03h: 2 with 03h
  pub type03 : (s : List ℕ) (r : EntryAnswer) → Promised AnswerKind.Entry r s → 16 ≤ length s → byte_at s 2 ≡ 0x03
      → number_of AnswerKind.Entry r ≡ handed 2 (0x03 ∷ [])
  -- type 02h, byte 8 = C0h: 3 with 12
  pub channel_c0 : (s : List ℕ) (r : EntryAnswer) → Promised AnswerKind.Entry r s → 16 ≤ length s → byte_at s 2 ≡ 0x02 → byte_at s 8 ≡ 0xC0
      → number_of AnswerKind.Entry r ≡ handed 3 (12 ∷ [])
  -- info byte 0 = 51h: major 1, minor 5
  pub info51 : (s : List ℕ) (r : InfoAnswer) → Promised AnswerKind.Info r s → length s ≡ 14 → byte_at s 0 ≡ 0x51
      → (i : Info) × (r ≡ Ok i) × (i.version_maj ≡ 1) × (i.version_min ≡ 5)
  -- allocation of 8 bytes: 1 with 9; of 9: accepted
  pub alloc8 : (s : List ℕ) (r : AllocAnswer) → Promised AnswerKind.Allocation r s → length s ≡ 8 → number_of AnswerKind.Allocation r ≡ handed 1 (9 ∷ [])
  pub alloc9 : (s : List ℕ) (r : AllocAnswer) → Promised AnswerKind.Allocation r s → length s ≡ 9 → (number_of AnswerKind.Allocation r).number ≡ 0
  -- reserve 00h 00h: 9
  pub reserve0000 : (rest : List ℕ) (r : ReserveAnswer) → Promised AnswerKind.Reserve r (0x00 ∷ 0x00 ∷ rest) → number_of AnswerKind.Reserve r ≡ handed 9 []
  -- clear 11h: completed; 02h: in progress
  pub clear11 : (rest : List ℕ) (r : ClearAnswer) → Promised AnswerKind.Clear r (0x11 ∷ rest) → r ≡ Ok ErasureProgress.Completed
  pub clear02 : (rest : List ℕ) (r : ClearAnswer) → Promised AnswerKind.Clear r (0x02 ∷ rest) → r ≡ Ok ErasureProgress.InProgress
  -- event data C0h FFh FFh: both unspecified
  pub data_c0ffff : (d : EventData) → d ≡ event_data_of (0xC0 ∷ 0xFF ∷ 0xFF ∷ [])
      → (d.data2_type ≡ EventData2Type.Unspecified) × (d.data3_type ≡ EventData3Type.Unspecified)
  -- no slots, budget 1: missing 0000h, read 0; budget 0: spent
  pub none1 : (old left : List ℕ) (v : Result Verdict CaptureError) → Walked [] 1 old v left → v ≡ Ok (Verdict.Missing (record_id 0x0000) 0)
  pub none0 : (old left : List ℕ) (v : Result Verdict CaptureError) → Walked [] 0 old v left → v ≡ Ok (Verdict.Spent (record_id 0x0000) 0)
  -- slots 0000h to 0001h and 0001h to FFFFh, budget 1: spent, ask 0001h, read 1; budget 2: ended, read 2
  pub two1 : (s old left : List ℕ) (v : Result Verdict CaptureError) → Walked s 1 old v left → TwoSlots s old → v ≡ Ok (Verdict.Spent (record_id 0x0001) 1)
  pub two2 : (s old left : List ℕ) (v : Result Verdict CaptureError) → Walked s 2 old v left → TwoSlots s old → v ≡ Ok (Verdict.Ended 2)
  -- one slot 0000h to 0000h, budget 1: spent, ask 0000h, read 1; budget 2: circle, read 1
  pub one1 : (s old left : List ℕ) (v : Result Verdict CaptureError) → Walked s 1 old v left → OneSlot s old → v ≡ Ok (Verdict.Spent (record_id 0x0000) 1)
  pub one2 : (s old left : List ℕ) (v : Result Verdict CaptureError) → Walked s 2 old v left → OneSlot s old → v ≡ Ok (Verdict.Circle 1)
