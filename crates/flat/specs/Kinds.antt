-- What a question of each kind comes to in the flat form (docs/SCOPE.md, "The flat form"). Assumes nothing.
use Rattle.std.specs.Prelude.{ℕ, List, Option, Some, None}
use Rattle.answers.specs.declared.AnswerKind.{AnswerKind}
use Rattle.flat_form.specs.Form.{Flat, no_question}
use Rattle.flat_record.specs.Event.{event_data_flat, typed_data_flat}
use Rattle.flat_record.specs.Records.{entry_flat, entry_flat_of, get_entry_flat, get_entry_flat_of, record_part_flat}
use Rattle.flat_answers.specs.Answers.{allocation_flat, clear_flat, info_flat, record_id_flat, reserve_flat}
use Rattle.flat.specs.Lengths.{length_flat}
use Rattle.flat.specs.Letters.{kind_of}
use Rattle.flat.specs.Requests.{request_flat}
use Rattle.flat.specs.Texts.{entry_text_flat, event_data_text_flat, event_text_flat, log_time_text_flat, time_text_flat, typed_data_text_flat}
use Rattle.flat.specs.Versions.{behind_version}
use Rattle.flat.specs.declared.Kind.{Kind}
use Rattle.flat.specs.declared.Question.{Question}

abbrev pub answer_flat : AnswerKind → List ℕ → Flat
answer_flat AnswerKind.Entry s = entry_flat s
answer_flat AnswerKind.GetEntry s = get_entry_flat s
answer_flat AnswerKind.Info s = info_flat s
answer_flat AnswerKind.Allocation s = allocation_flat s
answer_flat AnswerKind.Reserve s = reserve_flat s
answer_flat AnswerKind.Clear s = clear_flat s

abbrev pub other_flat : Question → List ℕ → Flat
other_flat Question.EntryText s = entry_text_flat s
other_flat Question.RecordPart s = record_part_flat s
other_flat Question.EntryOf s = behind_version entry_flat_of s
other_flat Question.GetEntryOf s = behind_version get_entry_flat_of s
other_flat Question.EventData s = event_data_flat s
other_flat Question.EventDataText s = event_data_text_flat s
other_flat Question.TypedData s = typed_data_flat s
other_flat Question.TypedDataText s = typed_data_text_flat s
other_flat Question.Length s = length_flat s
other_flat Question.EventText s = event_text_flat s
other_flat Question.TimeText s = time_text_flat s
other_flat Question.LogTimeText s = log_time_text_flat s
other_flat Question.RecordId s = record_id_flat s
other_flat Question.Request s = request_flat s

abbrev pub flat_by : Option Kind → List ℕ → Flat
flat_by (Some (Kind.Answer kind)) s = answer_flat kind s
flat_by (Some (Kind.Other question)) s = other_flat question s
flat_by None s = no_question

-- by the letter of the kind
abbrev pub flat_of : ℕ → List ℕ → Flat
flat_of letter s = flat_by (kind_of letter) s
