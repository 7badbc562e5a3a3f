-- Demand 1: every answer of any length, read as any kind, is decoded or refused by the number of docs/SCOPE.md, "Numbers handed back", and a
-- refusal changes nothing in a lent buffer. That each call ends is the prover's: it takes no loop without a measure. Assumes nothing.
use Rattle.std.specs.Prelude.{ℕ, suc, ◌≤◌, ◌<◌, ◌≡◌, true, false, List, [], ◌∷◌, ◌↔◌, ◌⊎◌, length, get_or, take, Result, Ok, Some}
use Rattle.field.specs.Handed.{Answers, Handed, handed}
use Rattle.field.specs.Rows.{Rows}
use Rattle.text.specs.Room.{Room}
use Rattle.text.specs.Written.{Written, Wrote, number_of as written_number}
use Rattle.connection.specs.Channel.{valid_channel}
use Rattle.answers.specs.Answer.{Answer, number_of}
use Rattle.answers.specs.BytesThatCount.{BytesThatCount}
use Rattle.answers.specs.Length.{bytes_that_count, length_answer}
use Rattle.answers.specs.LengthDecides.{LengthDecides}
use Rattle.answers.specs.Rows.{Row}
use Rattle.answers.specs.declared.AnswerKind.{AnswerKind}
use Rattle.capture.specs.Refusals.{Refusals}
use Rattle.capture.specs.SlotsLength.{SlotsLength}
use Rattle.capture.specs.Walked.{Walked, number_of as walk_number}
use Rattle.capture.specs.declared.CaptureError.{CaptureError}
use Rattle.capture.specs.declared.Verdict.{Verdict}
use Rattle.flat_form.specs.Form.{Flat, Gives, refusal, said, taken}
use Rattle.flat_form.specs.declared.SelAnswer.{SelAnswer}
use Rattle.flat.specs.Counts.{FlatCounts}
use Rattle.flat.specs.Kinds.{flat_of}
use Rattle.flat.specs.Letters.{kind_of}
use Rattle.flat.specs.Rows.{FlatRows}
use Rattle.flat.specs.declared.Kind.{Kind}
use Rattle.flat.specs.declared.Question.{Question}
use Rattle.slot_line.specs.Input.{input_hands, judge_input, line_form, lines, number_of as input_number}
use Rattle.slot_line.specs.Line.{fits}
use Rattle.slot_line.specs.declared.InputError.{InputError}
use Rattle.sel_log.specs.Closing.{Closing, number_of as log_number}
use Rattle.sel_log.specs.Log.{Logged}
use Rattle.promises.specs.Promises.{Promised}

-- 0h to Bh, Eh and Fh
abbrev pub Valid : ℕ → Type 0
Valid n = (n ≤ 0xB) ⊎ (n ≡ 0xE) ⊎ (n ≡ 0xF)

-- one of the numbers 0 to 3, 8 and 9
abbrev pub OneOf : Handed → Type 0
OneOf h = (h.number ≡ 0) ⊎ (h.number ≡ 1) ⊎ (h.number ≡ 2) ⊎ (h.number ≡ 3) ⊎ (h.number ≡ 8) ⊎ (h.number ≡ 9)

-- the first k lines of an input are good: by the theorem `RoundTrip` of slot_line, each is the text of a slot, closed by a newline
abbrev pub GoodLines : List ℕ → ℕ → Type 0
GoodLines input k = (j : ℕ) → j < k → fits line_form (get_or (lines input) j []) ≡ true

-- at most 3,000 lines are, and the next, line number k from 0, is there and is not
abbrev pub FirstBad : List ℕ → ℕ → Type 0
FirstBad input k = (k ≤ 3000) × GoodLines input k × (k < length (lines input)) × (fits line_form (get_or (lines input) k []) ≡ false)

-- there are k lines, at most 3,000, and all are good
abbrev pub AllGood : List ℕ → ℕ → Type 0
AllGood input k = (k ≤ 3000) × (length (lines input) ≡ k) × GoodLines input k

-- 3,001 lines are there, and good
abbrev pub OneTooMany : List ℕ → Type 0
OneTooMany input = (3000 < length (lines input)) × GoodLines input 3001

pub record Demand1 : Type 0 where
  -- rows 0 to 3, 8 and 9: whatever a parser answers, its number is given, with what it carries, exactly when the row of its kind says
  pub parsed : (kind : AnswerKind) (s : List ℕ) (r : Answer kind) → Promised kind r s → Rows (number_of kind r) (Row valid_channel kind s)
  -- and one of them is given
  pub decided : (kind : AnswerKind) (s : List ℕ) (r : Answer kind) → Promised kind r s → OneOf (number_of kind r)
  -- the valid channels that these rows speak of
  pub channels : (n : ℕ) → (valid_channel n ≡ true) ↔ Valid n
  -- the same of `flat`, which reads any bytes as the kind that any letter names
  pub flat : (letter : ℕ) (kind : AnswerKind) (s out left : List ℕ) (r : SelAnswer) → FlatRows letter kind s out left r
  -- where it is asked for the text of a record's event, it refuses as the record is refused, by that number and with what it carries
  pub flat_text_refused : (letter : ℕ) → kind_of letter ≡ Some (Kind.Other Question.EntryText)
      → (s out left : List ℕ) (r : SelAnswer) → Gives (flat_of letter s) out r left
      → (h : Handed) → Row valid_channel AnswerKind.Entry s h → (h.number ≡ 0 → ⊥) → r ≡ refusal h
  -- and by no number without its row
  pub flat_text : (letter : ℕ) → kind_of letter ≡ Some (Kind.Other Question.EntryText)
      → (s out left : List ℕ) (r : SelAnswer) → Gives (flat_of letter s) out r left
      → (n : ℕ) → (n ≡ 0 → ⊥) → (n ≡ 4 → ⊥) → (r.number ≡ n) ↔ ((h : Handed) × Row valid_channel AnswerKind.Entry s h × (h.number ≡ n))
  -- row 4: whoever writes a text or a request gives it exactly if the output is shorter, with the length needed
  pub written : (text out left : List ℕ) (r : Written) → Room text out left r
  -- `flat` exactly if its flat bytes are longer than the output
  pub flat_four : (letter : ℕ) (s out left : List ℕ) (r : SelAnswer) → Gives (flat_of letter s) out r left
      → (r.number ≡ 4) ↔ ((bytes : List ℕ) × (flat_of letter s ≡ taken bytes) × (length out < length bytes))
  pub flat_needs : (bytes out left : List ℕ) (r : SelAnswer) → Gives (taken bytes) out r left → length out < length bytes
      → r ≡ said 4 (length bytes)
  -- rows 4 and 5 of the walk
  pub walked : (s : List ℕ) (b : ℕ) (old : List ℕ) → Refusals s b old
  -- row 0 of a capture as text: accepted, with the number of its lines, exactly if there are so many, and all are good
  pub good_lines : (input : List ℕ) (r : Result ℕ InputError) (k : ℕ) → Answers r (judge_input input) input_number (input_hands input)
      → (input_number r ≡ handed 0 (k ∷ [])) ↔ AllGood input k
  -- row 6 of it: given exactly if a line is bad that at most 3,000 lines precede, all of them good, with its number, from 1
  pub bad_line : (input : List ℕ) (r : Result ℕ InputError) (k : ℕ) → Answers r (judge_input input) input_number (input_hands input)
      → (input_number r ≡ handed 6 (suc k ∷ [])) ↔ FirstBad input k
  -- and every 6 carries such a line of that input
  pub bad_carries : (input : List ℕ) (r : Result ℕ InputError) → Answers r (judge_input input) input_number (input_hands input)
      → (input_number r).number ≡ 6 → (k : ℕ) × (input_number r ≡ handed 6 (suc k ∷ [])) × FirstBad input k
  -- row 5 of it: exactly if there are 3,001 lines, and so many are good
  pub too_many : (input : List ℕ) (r : Result ℕ InputError) → Answers r (judge_input input) input_number (input_hands input)
      → (input_number r ≡ handed 5 []) ↔ OneTooMany input
  -- where any of these refuses, every lent output is as it was
  pub unwritten : (text out left : List ℕ) (r : Written) → Wrote text out r left → ((written_number r).number ≡ 0 → ⊥) → left ≡ out
  pub flat_unwritten : (question : Flat) (out left : List ℕ) (r : SelAnswer) → Gives question out r left → (r.number ≡ 0 → ⊥) → left ≡ out
  pub unlisted : (s : List ℕ) (b : ℕ) (old left : List ℕ) (r : Result Verdict CaptureError) → Walked s b old r left
      → ((walk_number r).number ≡ 0 → ⊥) → left ≡ old
  pub unread : (input slots list slots_left list_left : List ℕ) (r : Closing) → Logged input slots list r slots_left list_left
      → ((log_number r).number ≡ 0 → ⊥) → (slots_left ≡ slots) × (list_left ≡ list)
  -- what a length alone decides, before there is a byte of the answer (README.md, "Can your library refuse a length ..")
  pub lengths : (kind : AnswerKind) (n : ℕ) → LengthDecides valid_channel kind n
  pub slots_lengths : (len : ℕ) → SlotsLength len
  -- and from above: so many bytes of an answer count, at most 18, whatever length a controller made up
  pub counts : (kind : AnswerKind) (s : List ℕ) → BytesThatCount valid_channel kind s
  -- so whatever a parser answers of an answer whose length may be read, it answers of those bytes alone; and so does `flat`
  pub cut : (kind : AnswerKind) (s : List ℕ) (r r' : Answer kind) → length_answer kind (length s) ≡ Ok tt
      → Promised kind r s → Promised kind r' (take (bytes_that_count kind) s) → r ≡ r'
  pub flat_cut : (letter : ℕ) (kind : AnswerKind) (s : List ℕ) → FlatCounts letter kind s
