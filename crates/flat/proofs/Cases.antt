-- Worked cases of the flat form: a letter, the bytes of a question, and what they come to. Assumes nothing.
use Prim.Native.Nat.{ℕ}
use Prim.Native.Char.{Char, code}
use mathlib.Core.Path.{◌≡◌, refl}
use mathlib.Core.List.{List, [], ◌∷◌, ◌++◌}
use lib.ListN.{replicate}
use Rattle.field.specs.Handed.{handed}
use Rattle.field.specs.Placed.{placed}
use Rattle.text.specs.Numbers.{decimal, decimal_in, digit_of}
use Rattle.text.specs.Text.{bytes}
use Rattle.connection.specs.Channel.{valid_channel}
use Rattle.connection.specs.Version.{valid_channel15}
use Rattle.storage.specs.Alloc.{parse_alloc}
use Rattle.storage.specs.Time.{log_time_text, time_text}
use Rattle.event_data.specs.DataText.{data_text, joined, unless_ffh}
use Rattle.event_data.specs.EventData.{by_kind, event_data_of}
use Rattle.typed_data.specs.Table.{class_of, told_of, typed_of}
use Rattle.typed_data.specs.TypedText.{typed_text}
use Rattle.event_offset.specs.Event.{event_text}
use Rattle.sel.specs.Entry.{parse_entry, plain_record, stamped_record, system_by, system_record}
use Rattle.sel.specs.Versioned.{entry_hands_of}
use Rattle.get_entry.specs.GetEntry.{entry_request, parse_answer, record_part}
use Rattle.get_entry.specs.Versioned.{answer_hands_of}
use Rattle.sel_commands.specs.Clear.{clear_request, parse_clear}
use Rattle.sel_commands.specs.Info.{how_many, parse_info}
use Rattle.sel_commands.specs.Reserve.{parse_reserve}
use Rattle.answers.specs.Length.{length_answer}
use Rattle.flat_form.specs.Form.{Flat, decided, flat_answer, flat_leaves, no_question, refused, said, taken}
use Rattle.flat_record.specs.Event.{event_data_flat, typed_data_flat}
use Rattle.flat_record.specs.Records.{entry_flat_in, entry_flat_of, get_entry_flat_in, get_entry_flat_of, plain_flat, record_flat, record_part_flat, stamped_flat, system_flat}
use Rattle.flat_answers.specs.Answers.{allocation_flat, clear_flat, id_flat, info_flat, record_id_flat, reserve_flat}
use Rattle.flat.specs.Kinds.{flat_of}
use Rattle.flat.specs.Lengths.{length_flat}
use Rattle.flat.specs.Letters.{kind_of}
use Rattle.flat.specs.Requests.{clear_of, question_length, request_flat, request_of}
use Rattle.flat.specs.Texts.{entry_text_flat, event_data_text_flat, event_text_flat, log_time_text_flat, time_text_flat, typed_data_text_flat}
use Rattle.flat.specs.Versions.{behind_version}

data Case : Type 0 where
  case : Char → List ℕ → Flat → Case

abbrev asked : List Case → List Flat
asked [] = []
asked (case letter s flat ∷ cases) = flat_of (code letter) s ∷ asked cases

abbrev told : List Case → List Flat
told [] = []
told (case letter s flat ∷ cases) = flat ∷ told cases

abbrev Right : List Case → Type 0
Right cases = asked cases ≡ told cases

abbrev system : List ℕ
system = 0x01 ∷ 0x00 ∷ 0x02 ∷ 0xE8 ∷ 0x03 ∷ 0x00 ∷ 0x00 ∷ 0x20 ∷ 0x00 ∷ 0x04 ∷ 0x01 ∷ 0x30 ∷ 0x01 ∷ 0x59 ∷ 0x5A ∷ 0x55 ∷ []

abbrev on_channel_9 : List ℕ
on_channel_9 = 0x01 ∷ 0x00 ∷ 0x02 ∷ 0xE8 ∷ 0x03 ∷ 0x00 ∷ 0x00 ∷ 0x20 ∷ 0x90 ∷ 0x04 ∷ 0x01 ∷ 0x30 ∷ 0x01 ∷ 0x59 ∷ 0x5A ∷ 0x55 ∷ []

records : Right
    (case "e" system
    (taken (0x00 ∷ 0x01 ∷ 0x00 ∷ 0xE8 ∷ 0x03 ∷ 0x00 ∷ 0x00 ∷ 0x00 ∷ 0x10 ∷ 0x00 ∷ 0x00 ∷ 0x00 ∷ 0x04 ∷ 0x01 ∷ 0x30 ∷ 0x00 ∷ 0x01 ∷ 0x09 ∷ 0x01 ∷ 0x5A ∷ 0x01 ∷ 0x55 ∷ []))
    -- software 20h on channel 3, revision 1.0, deasserted; the second byte is of kind 11, and FFh: both 00
    ∷ case "e" (0x02 ∷ 0x01 ∷ 0x02 ∷ 0 ∷ 0 ∷ 0 ∷ 0 ∷ 0x41 ∷ 0x33 ∷ 0x03 ∷ 0x0C ∷ 0x07 ∷ 0xEF ∷ 0xE2 ∷ 0xFF ∷ 0x11 ∷ 0xAA ∷ [])
    (taken (0x00 ∷ 0x02 ∷ 0x01 ∷ 0 ∷ 0 ∷ 0 ∷ 0 ∷ 0x01 ∷ 0x20 ∷ 0x03 ∷ 0x00 ∷ 0x01 ∷ 0x03 ∷ 0x0C ∷ 0x07 ∷ 0x01 ∷ 0x6F ∷ 0x02 ∷ 0x00 ∷ 0x00 ∷ 0x02 ∷ 0x11 ∷ []))
    -- an OEM record with a time, whose maker has 24 bits
    ∷ case "e" (0x34 ∷ 0x12 ∷ 0xC0 ∷ 1 ∷ 2 ∷ 3 ∷ 4 ∷ 0x57 ∷ 0xC0 ∷ 0xFF ∷ 10 ∷ 11 ∷ 12 ∷ 13 ∷ 14 ∷ 15 ∷ [])
    (taken (0x01 ∷ 0x34 ∷ 0x12 ∷ 0xC0 ∷ 1 ∷ 2 ∷ 3 ∷ 4 ∷ 0x57 ∷ 0xC0 ∷ 0xFF ∷ 0x00 ∷ 10 ∷ 11 ∷ 12 ∷ 13 ∷ 14 ∷ 15 ∷ []))
    ∷ case "e" (replicate 15 0) (refused (handed 1 (16 ∷ [])))
    ∷ case "g" (replicate 17 0) (refused (handed 1 (18 ∷ [])))
    ∷ case "y" (0 ∷ 0 ∷ 2 ∷ (replicate 5 0 ++ (0xC0 ∷ replicate 7 0))) (refused (handed 3 (12 ∷ [])))
    ∷ case "y" system (taken (bytes "Upper Critical - going high"))
    -- an OEM record without a time, behind the next id
    ∷ case "g" (0x05 ∷ 0x00 ∷ 0x04 ∷ 0x00 ∷ 0xE0 ∷ replicate 13 7) (taken (0x05 ∷ 0x00 ∷ 0x02 ∷ 0x04 ∷ 0x00 ∷ 0xE0 ∷ replicate 13 7))
    ∷ case "g" (0x05 ∷ 0x00 ∷ 0x04 ∷ 0x00 ∷ 0x03 ∷ replicate 13 7) (refused (handed 2 (3 ∷ [])))
    ∷ case "p" (0x05 ∷ 0x00 ∷ system) (taken system)
    ∷ [])
unfolding kind_of decided valid_channel entry_flat_in parse_entry system_record system_by stamped_record plain_record record_flat system_flat stamped_flat plain_flat entry_text_flat event_text get_entry_flat_in parse_answer record_part_flat record_part
records = refl

-- under a version: a number that names none, before all else; a record of 0 bytes; channel 9h under 1.5, and under 2.0; an OEM record without a time
versions : Right
    (case "E" [] no_question
    ∷ case "E" (0x15 ∷ []) (refused (handed 11 []))
    ∷ case "E" (0x51 ∷ []) (refused (handed 1 (16 ∷ [])))
    ∷ case "E" (0x51 ∷ on_channel_9) (refused (handed 3 (9 ∷ [])))
    ∷ case "E" (0x02 ∷ on_channel_9)
    (taken (0x00 ∷ 0x01 ∷ 0x00 ∷ 0xE8 ∷ 0x03 ∷ 0 ∷ 0 ∷ 0x00 ∷ 0x10 ∷ 0x09 ∷ 0x00 ∷ 0x00 ∷ 0x04 ∷ 0x01 ∷ 0x30 ∷ 0x00 ∷ 0x01 ∷ 0x09 ∷ 0x01 ∷ 0x5A ∷ 0x01 ∷ 0x55 ∷ []))
    ∷ case "G" (0x15 ∷ 0x05 ∷ 0x00 ∷ on_channel_9) (refused (handed 11 []))
    ∷ case "G" (0x51 ∷ replicate 17 0) (refused (handed 1 (18 ∷ [])))
    ∷ case "G" (0x51 ∷ 0x05 ∷ 0x00 ∷ on_channel_9) (refused (handed 3 (9 ∷ [])))
    ∷ case "G" (0x51 ∷ 0x05 ∷ 0x00 ∷ 0x04 ∷ 0x00 ∷ 0xE0 ∷ replicate 13 0x90) (taken (0x05 ∷ 0x00 ∷ 0x02 ∷ 0x04 ∷ 0x00 ∷ 0xE0 ∷ replicate 13 0x90))
    ∷ [])
unfolding kind_of decided behind_version entry_flat_of entry_hands_of get_entry_flat_of answer_hands_of valid_channel valid_channel15 record_flat system_flat plain_flat
versions = refl

answers : Right
    (case "i" (0x51 ∷ 2 ∷ 0 ∷ 0 ∷ 1 ∷ 3 ∷ 0 ∷ 0 ∷ 0 ∷ 4 ∷ 0 ∷ 0 ∷ 0 ∷ 0x8A ∷ []) (taken (1 ∷ 5 ∷ 2 ∷ 0 ∷ 0 ∷ 1 ∷ 3 ∷ 0 ∷ 0 ∷ 0 ∷ 4 ∷ 0 ∷ 0 ∷ 0 ∷ 1 ∷ 0x0A ∷ 2 ∷ []))
    ∷ case "a" (0 ∷ 1 ∷ 16 ∷ 0 ∷ 2 ∷ 1 ∷ 3 ∷ 1 ∷ 4 ∷ 9 ∷ []) (taken (0 ∷ 1 ∷ 16 ∷ 0 ∷ 2 ∷ 1 ∷ 3 ∷ 1 ∷ 4 ∷ []))
    ∷ case "r" (0x34 ∷ 0x12 ∷ []) (taken (0x34 ∷ 0x12 ∷ []))
    ∷ case "r" (0 ∷ 0 ∷ []) (refused (handed 9 []))
    ∷ case "i" (replicate 15 0) (refused (handed 8 []))
    ∷ case "c" (0x11 ∷ []) (taken (1 ∷ []))
    -- it names no record, and asks for the last one
    ∷ case "n" (0xFF ∷ 0xFF ∷ []) (taken (0 ∷ 0 ∷ 1 ∷ 0xFF ∷ 0xFF ∷ []))
    ∷ [])
unfolding kind_of decided info_flat parse_info how_many allocation_flat parse_alloc reserve_flat parse_reserve clear_flat parse_clear record_id_flat id_flat
answers = refl

-- offset 9, a reading of 5Ah, an OEM code of 55h; two bytes; texts; a letter that names no kind
events : Right
    (case "d" (0x69 ∷ 0x5A ∷ 0x55 ∷ []) (taken (0x09 ∷ 1 ∷ 0x5A ∷ 2 ∷ 0x55 ∷ []))
    ∷ case "d" (0x69 ∷ 0x5A ∷ []) no_question
    ∷ case "v" (0x59 ∷ 0x5A ∷ 0x55 ∷ []) (taken (bytes "reading=90, threshold=85"))
    -- event type 6Fh: a previous state, and a reserved kind
    ∷ case "D" (0x6F ∷ 0x50 ∷ 0x12 ∷ 0xFF ∷ []) (taken (0 ∷ 4 ∷ 0x12 ∷ 5 ∷ 0 ∷ []))
    ∷ case "D" (0x50 ∷ 0x12 ∷ 0xFF ∷ []) no_question
    ∷ case "V" (0x6F ∷ 0x50 ∷ 0x12 ∷ 0xFF ∷ []) (taken (bytes "prev=0x12"))
    ∷ case "x" (0x6F ∷ 0x22 ∷ 0x0E ∷ []) (taken (bytes "Unknown"))
    ∷ case "t" (0xE8 ∷ 0x03 ∷ 0 ∷ 0 ∷ []) (taken (bytes "1000"))
    ∷ case "s" (0xE8 ∷ 0x03 ∷ 0 ∷ 0 ∷ []) (taken (bytes "+1000"))
    ∷ case "s" (0xE8 ∷ 0x03 ∷ 0 ∷ []) no_question
    ∷ case "w" (0x69 ∷ 0x5A ∷ 0x55 ∷ []) no_question
    ∷ [])
unfolding kind_of typed_data_flat typed_data_text_flat typed_of class_of told_of typed_text event_data_flat event_data_text_flat event_data_of by_kind data_text unless_ffh joined decimal decimal_in digit_of event_text_flat event_text time_text_flat time_text log_time_text_flat log_time_text
events = refl

-- a length, before there is a byte: `e` of 15 and 16 bytes, `i` of 15, `r` of 2; a letter that names no answer
lengths : Right
    (case "L" (0x65 ∷ 15 ∷ 0 ∷ 0 ∷ 0 ∷ []) (refused (handed 1 (16 ∷ [])))
    ∷ case "L" (0x65 ∷ 16 ∷ 0 ∷ 0 ∷ 0 ∷ []) (taken [])
    ∷ case "L" (0x69 ∷ 15 ∷ 0 ∷ 0 ∷ 0 ∷ []) (refused (handed 8 []))
    ∷ case "L" (0x72 ∷ 2 ∷ 0 ∷ 0 ∷ 0 ∷ []) (taken [])
    ∷ case "L" (0x64 ∷ 3 ∷ 0 ∷ 0 ∷ 0 ∷ []) no_question
    ∷ case "L" (0x65 ∷ 15 ∷ 0 ∷ 0 ∷ []) no_question
    ∷ [])
unfolding kind_of length_flat length_answer decided
lengths = refl

requests : Right
    (case "q" (0x42 ∷ []) (taken [])
    ∷ case "q" (0x47 ∷ 0x34 ∷ 0x12 ∷ 0xAA ∷ []) (taken (0x34 ∷ 0x12 ∷ 0x43 ∷ 0x4C ∷ 0x52 ∷ 0xAA ∷ []))
    ∷ case "q" (0x47 ∷ 0x34 ∷ 0x12 ∷ 0xAB ∷ []) no_question
    ∷ case "q" (0x43 ∷ 0x34 ∷ 0x12 ∷ 0x02 ∷ 0x01 ∷ []) (taken (0x34 ∷ 0x12 ∷ 0x02 ∷ 0x01 ∷ 0x00 ∷ 0xFF ∷ []))
    ∷ [])
unfolding kind_of request_flat question_length request_of clear_of clear_request entry_request
requests = refl

-- what is answered and left: with room, without it, refused
room :
    (flat_answer (taken (1 ∷ 2 ∷ [])) (7 ∷ 7 ∷ 7 ∷ []) ≡ said 0 2) × (flat_leaves (taken (1 ∷ 2 ∷ [])) (7 ∷ 7 ∷ 7 ∷ []) ≡ 1 ∷ 2 ∷ 7 ∷ [])
    × (flat_answer (taken (1 ∷ 2 ∷ [])) (7 ∷ []) ≡ said 4 2) × (flat_leaves (taken (1 ∷ 2 ∷ [])) (7 ∷ []) ≡ 7 ∷ [])
    × (flat_answer (refused (handed 3 (12 ∷ []))) (7 ∷ []) ≡ said 3 12)
unfolding placed
room = (refl, refl, refl, refl, refl)
