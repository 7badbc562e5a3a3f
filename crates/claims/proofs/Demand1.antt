-- Demand 1. Assumes nothing.
use Rattle.std.specs.Prelude.{if◌then◌else◌, Result, Ok, Err, Option, Some, None}
use Prim.Native.Nat.{ℕ, ◌≤◌, ◌<◌}
use mathlib.Core.Path.{◌≡◌, refl, sym, ap, subst, ◌∙◌}
use mathlib.Core.Bool.{Bool, not, true}
use mathlib.Core.List.{List, []}
use mathlib.Core.Logic.{◌↔◌, inl, inr}
use native.Mathlib.Omega.{arith}
use native.Mathlib.Decide.{dec_le}
use lib.Dec.{eqb, ltb}
use lib.ListN.{length, drop}
use Rattle.field.specs.Bits.{byte_at, le32_at}
use Rattle.field.specs.Choose.{within}
use Rattle.field.specs.Handed.{Handed}
use Rattle.field.specs.Rows.{LongEnough, Rows, Taken, accepted, long, too_short}
use Rattle.field.proofs.Choices.{either}
use Rattle.field.proofs.Rows.{rows_are}
use Rattle.text.specs.Written.{Written, Wrote, number_of as written_number}
use Rattle.text.proofs.Room.{room}
use Rattle.connection.specs.Channel.{valid_channel}
use Rattle.connection.specs.Version.{is_version, valid_by}
use Rattle.sel.specs.Entry.{channel_in, type_at}
use Rattle.sel.specs.Rows as Record
use Rattle.sel.specs.Rows.{RecordRow}
use Rattle.sel.specs.Versioned.{entry_hands_of}
use Rattle.get_entry.specs.Versioned.{answer_hands_of}
use Rattle.sel_commands.specs.Info as Info
use Rattle.sel_commands.specs.Info.{InfoRow}
use Rattle.sel_commands.specs.Reserve as Reserve
use Rattle.sel_commands.specs.Reserve.{ReserveRow}
use Rattle.answers.specs.Answer.{Answer, number_of}
use Rattle.answers.specs.Length.{LengthAnswer, length_answer, length_hands, number_of as length_number}
use Rattle.answers.specs.Rows.{Row, hands_of}
use Rattle.answers.specs.declared.AnswerKind.{AnswerKind}
use Rattle.answers.proofs.BytesThatCount.{bytes_that_count_lem}
use Rattle.answers.proofs.LengthDecides.{decides}
use Rattle.answers.proofs.Rows.{answer_rows}
use Rattle.capture.specs.Walked.{Walked, number_of as walk_number}
use Rattle.capture.specs.declared.CaptureError.{CaptureError}
use Rattle.capture.specs.declared.Verdict.{Verdict}
use Rattle.capture.proofs.Refusals.{refusals}
use Rattle.capture.proofs.SlotsLength.{slots_length}
use Rattle.flat_form.specs.Form.{Flat, Gives, decided, no_question, refusal, refused, taken}
use Rattle.flat_form.specs.declared.SelAnswer.{SelAnswer}
use Rattle.flat_form.proofs.Laws.{Told, gives_is, short, told, turned, wrote}
use Rattle.flat_form.proofs.Untouched.{untouched_else}
use Rattle.flat_record.specs.Event.{event_data_flat, typed_data_flat}
use Rattle.flat_record.specs.Records.{entry_flat_of, get_entry_flat_of, record_part_flat}
use Rattle.flat_answers.specs.Answers.{record_id_flat}
use Rattle.flat.specs.Kinds.{flat_by, flat_of}
use Rattle.flat.specs.Lengths.{length_flat, length_of, of_answer}
use Rattle.flat.specs.Letters.{kind_of}
use Rattle.flat.specs.Requests.{clear_of, question_length, request_flat, request_of}
use Rattle.flat.specs.Texts.{entry_text_flat, event_data_text_flat, event_text_flat, log_time_text_flat, time_text_flat, typed_data_text_flat}
use Rattle.flat.specs.Versions.{behind_version}
use Rattle.flat.specs.declared.Kind.{Kind}
use Rattle.flat.specs.declared.Question.{Question}
use Rattle.flat.proofs.Counts.{flat_counts}
use Rattle.flat.proofs.Rows.{exactly, flat_rows, too_long, decides as decides-flat, turned as turned_away_lem}
use Rattle.slot_line.specs.Input.{judge_input, slots_of}
use Rattle.slot_line.specs.declared.InputError.{InputError}
use Rattle.sel_log.specs.Closing.{Closing, number_of as log_number}
use Rattle.sel_log.specs.Log.{Logged, closing_by, closing_of, left_by}
use Rattle.sel_log.specs.Verdict.{settled_of}
use Rattle.sel_log.specs.declared.Settled.{Settled}
use Rattle.claims.specs.Demand1.{Demand1, OneOf, Valid}
use Rattle.promises.specs.Promises.{Promised}
use Rattle.claims.proofs.Lines.{bad_carries_lem, bad_line_lem, good_lines_lem, too_many_lem}

parsed : (kind : AnswerKind) (s : List ℕ) (r : Answer kind) → Promised kind r s → Rows (number_of kind r) (Row valid_channel kind s)
parsed kind s r p = rows_are (sym p.numbered) (answer_rows valid_channel kind s).rows

-- the valid channels
channels : (n : ℕ) → (valid_channel n ≡ true) ↔ Valid n
unfolding valid_channel
channels n = grind arith

-- each row has one of the numbers 0 to 3, 8 and 9
record_one : (s : List ℕ) (h : Handed) → RecordRow valid_channel s h → OneOf h
record_one s _ (Record.accepted g) = inl refl
record_one s _ (Record.unknown u) = inr (inr (inl refl))
record_one s _ (Record.invalid i) = inr (inr (inr (inl refl)))

taken_one : (h : Handed) → Taken h → OneOf h
taken_one _ accepted = inl refl

reserve_one : (s : List ℕ) (h : Handed) → ReserveRow s h → OneOf h
reserve_one s _ (Reserve.accepted z) = inl refl
reserve_one s _ (Reserve.none z) = inr (inr (inr (inr (inr refl))))

info_one : (s : List ℕ) (h : Handed) → InfoRow s h → OneOf h
info_one s _ (Info.accepted l) = inl refl
info_one s _ (Info.longer l) = inr (inr (inr (inr (inl refl))))

long_one : {n : ℕ} {s : List ℕ} {R : Handed → Type 0} → ((h : Handed) → R h → OneOf h) → (h : Handed) → LongEnough n s R h → OneOf h
long_one rest _ (too_short l) = inr (inl refl)
long_one rest h (long l r) = rest h r

one_row : (kind : AnswerKind) (s : List ℕ) (h : Handed) → Row valid_channel kind s h → OneOf h
one_row AnswerKind.Entry s = long_one (record_one s)
one_row AnswerKind.GetEntry s = long_one (record_one (drop 2 s))
one_row AnswerKind.Info s = long_one (info_one s)
one_row AnswerKind.Allocation s = long_one taken_one
one_row AnswerKind.Reserve s = long_one (reserve_one s)
one_row AnswerKind.Clear s = long_one taken_one

decided_by : (kind : AnswerKind) (s : List ℕ) (r : Answer kind) → Promised kind r s → OneOf (number_of kind r)
decided_by kind s r p = one_row kind s (number_of kind r) (((parsed kind s r p).exactly (number_of kind r)).0 refl)

-- no question is refused with 4 of its own: that is given for want of room alone
abbrev NotFour : Flat → Type 0
NotFour (taken bytes) = Unit {0}
NotFour (refused h) = h.number ≡ 4 → ⊥

one_not_four : (h : Handed) → OneOf h → h.number ≡ 4 → ⊥
one_not_four h o e = grind arith

decided_not_four : (kind : AnswerKind) (s bytes : List ℕ) → NotFour (decided (hands_of valid_channel kind s) bytes)
unfolding decided
decided_not_four kind s bytes =
    let h = hands_of valid_channel kind s in
    either NotFour (eqb h.number 0) _ _ tt (one_not_four h (one_row kind s h (((answer_rows valid_channel kind s).rows.exactly h).0 refl)))

none : NotFour no_question
none e = omega (arith, e)

chosen : (b : Bool) (q : Flat) → NotFour q → NotFour (if b then q else no_question)
chosen b q p = either NotFour b _ _ p none

request_not_four : (command reservation argument : ℕ) → NotFour (request_of command reservation argument)
unfolding request_of clear_of
request_not_four command reservation argument =
    either NotFour (within 0x40 0x42 command) _ _ tt
    (either NotFour (eqb command 0x43) _ _ tt
    (chosen (eqb command 0x47) _ (either NotFour (eqb argument 0x00AA) _ _ tt (chosen (eqb argument 0x0000) _ tt))))

length_not_four : (letter n : ℕ) → NotFour (length_of letter n)
unfolding decided
length_not_four letter n = by (kind_of letter)
  where
    one : (a : LengthAnswer) → (length_number a).number ≡ 4 → ⊥
    one a e = grind arith

    by : (kind : Option Kind) → NotFour (of_answer (λ k. decided (length_hands k n) []) no_question kind)
    by (Some (Kind.Answer kind)) = either NotFour (eqb (length_hands kind n).number 0) _ _ tt (one (length_answer kind n))
    by (Some (Kind.Other question)) = none
    by None = none

entry_of_not_four : (b : ℕ) (s : List ℕ) → (entry_hands_of b s).number ≡ 4 → ⊥
unfolding entry_hands_of
entry_of_not_four b s =
    let other : (h : Handed) → Type 0 = λ h. h.number ≡ 4 → ⊥ in
    either other (not (is_version b)) _ _ (λ e. omega (arith, e))
    (either other (ltb (length s) 16) _ _ (λ e. omega (arith, e))
    (either other (eqb (type_at s) 0x02) _ _ (either other (valid_by b (channel_in s)) _ _ (λ e. omega (arith, e)) (λ e. omega (arith, e)))
    (either other (within 0xC0 0xFF (type_at s)) _ _ (λ e. omega (arith, e)) (λ e. omega (arith, e)))))

answer_of_not_four : (b : ℕ) (s : List ℕ) → (answer_hands_of b s).number ≡ 4 → ⊥
unfolding answer_hands_of
answer_of_not_four b s =
    let other : (h : Handed) → Type 0 = λ h. h.number ≡ 4 → ⊥ in
    either other (not (is_version b)) _ _ (λ e. omega (arith, e)) (either other (ltb (length s) 18) _ _ (λ e. omega (arith, e)) (entry_of_not_four b (drop 2 s)))

not_four : (kind : Option Kind) (s : List ℕ) → NotFour (flat_by kind s)
unfolding behind_version entry_flat_of get_entry_flat_of decided length_flat record_part_flat entry_text_flat event_data_flat event_data_text_flat typed_data_flat typed_data_text_flat event_text_flat time_text_flat log_time_text_flat record_id_flat request_flat
not_four (Some (Kind.Answer kind)) s = subst NotFour (sym ((decides-flat kind).1 s)) (decided_not_four kind s _)
not_four (Some (Kind.Other Question.EntryText)) s = decided_not_four AnswerKind.Entry s _
not_four (Some (Kind.Other Question.RecordPart)) s = tt
not_four (Some (Kind.Other Question.EntryOf)) s =
    let b = byte_at s 0 in
    either NotFour (eqb (length s) 0) _ _ none (either NotFour (eqb (entry_hands_of b (drop 1 s)).number 0) _ _ tt (entry_of_not_four b (drop 1 s)))
not_four (Some (Kind.Other Question.GetEntryOf)) s =
    let b = byte_at s 0 in
    either NotFour (eqb (length s) 0) _ _ none (either NotFour (eqb (answer_hands_of b (drop 1 s)).number 0) _ _ tt (answer_of_not_four b (drop 1 s)))
not_four (Some (Kind.Other Question.EventData)) s = chosen (eqb (length s) 3) _ tt
not_four (Some (Kind.Other Question.EventDataText)) s = chosen (eqb (length s) 3) _ tt
not_four (Some (Kind.Other Question.TypedData)) s = chosen (eqb (length s) 4) _ tt
not_four (Some (Kind.Other Question.TypedDataText)) s = chosen (eqb (length s) 4) _ tt
not_four (Some (Kind.Other Question.Length)) s = chosen (eqb (length s) 5) _ (length_not_four (byte_at s 0) (le32_at s 1))
not_four (Some (Kind.Other Question.EventText)) s = chosen (eqb (length s) 3) _ tt
not_four (Some (Kind.Other Question.TimeText)) s = chosen (eqb (length s) 4) _ tt
not_four (Some (Kind.Other Question.LogTimeText)) s = chosen (eqb (length s) 4) _ tt
not_four (Some (Kind.Other Question.RecordId)) s = chosen (eqb (length s) 2) _ tt
not_four (Some (Kind.Other Question.Request)) s = chosen (eqb (length s) (question_length (byte_at s 0))) _ (request_not_four _ _ _)
not_four None s = none

flat_four_lem : (q : Flat) {out left : List ℕ} (r : SelAnswer) → NotFour q → Told q out left r → r.number ≡ 4
    → (bytes : List ℕ) × (q ≡ taken bytes) × (length out < length bytes)
flat_four_lem q _ f (wrote e p) n = absurd (omega (arith, n))
flat_four_lem q _ f (short {t} e h l) n = (t, e, h)
flat_four_lem q _ f (turned e l) n = absurd (subst NotFour e f n)

flat_room_lem : (letter : ℕ) (s out left : List ℕ) (r : SelAnswer) → Gives (flat_of letter s) out r left
    → (r.number ≡ 4) ↔ ((bytes : List ℕ) × (flat_of letter s ≡ taken bytes) × (length out < length bytes))
flat_room_lem letter s out left r g = (
  flat_four_lem (flat_of letter s) r (not_four (kind_of letter) s) (told (flat_of letter s) g),
  λ p. ap (λ (x : SelAnswer). x.number) (too_long p.0 (gives_is p.1 g) p.2),
)

flat_text_refused_lem : (letter : ℕ) → kind_of letter ≡ Some (Kind.Other Question.EntryText)
    → (s out left : List ℕ) (r : SelAnswer) → Gives (flat_of letter s) out r left
    → (h : Handed) → Row valid_channel AnswerKind.Entry s h → (h.number ≡ 0 → ⊥) → r ≡ refusal h
unfolding entry_text_flat
flat_text_refused_lem letter k s out left r g =
    turned_away_lem (answer_rows valid_channel AnswerKind.Entry s).rows _ (gives_is (ap (λ (x : Option Kind). flat_by x s) k) g)

flat_text_lem : (letter : ℕ) → kind_of letter ≡ Some (Kind.Other Question.EntryText)
    → (s out left : List ℕ) (r : SelAnswer) → Gives (flat_of letter s) out r left
    → (n : ℕ) → (n ≡ 0 → ⊥) → (n ≡ 4 → ⊥) → (r.number ≡ n) ↔ ((h : Handed) × Row valid_channel AnswerKind.Entry s h × (h.number ≡ n))
unfolding entry_text_flat
flat_text_lem letter k s out left r g = exactly (answer_rows valid_channel AnswerKind.Entry s).rows _ (gives_is (ap (λ (x : Option Kind). flat_by x s) k) g)

unwritten : (text out left : List ℕ) (r : Written) → Wrote text out r left → ((written_number r).number ≡ 0 → ⊥) → left ≡ out
unwritten text out left r w n = by (dec_le (length text) (length out))
  where
    by : Dec (length text ≤ length out) → left ≡ out
    by (yes h) = absurd (n (((room text out left r).zero w).1 h))
    by (no h) = (room text out left r).untouched w (omega arith)

unlisted : (s : List ℕ) (b : ℕ) (old left : List ℕ) (r : Result Verdict CaptureError) → Walked s b old r left → ((walk_number r).number ≡ 0 → ⊥) → left ≡ old
unlisted s b old left r w n = w.leaves ∙ (refusals s b old).untouched (λ e. n (ap (λ (v : Result Verdict CaptureError). (walk_number v).number) w.answered ∙ e))

-- a verdict has the number 0
walked_zero : (v : Settled) → (log_number (Ok v)).number ≡ 0
walked_zero (Settled.Ended read) = refl
walked_zero (Settled.Missing ask read) = refl
walked_zero (Settled.Circle read) = refl

module _ (input slots list slots_left list_left : List ℕ) (r : Closing) (l : Logged input slots list r slots_left list_left) (n : (log_number r).number ≡ 0 → ⊥) where
  unread_by : (j : Result ℕ InputError) → judge_input input ≡ j → (slots_left ≡ slots) × (list_left ≡ list)
  unfolding closing_of closing_by left_by
  unread_by (Ok k) e = absurd (n (ap (λ (x : Handed). x.number) l.numbered ∙ rw e (walked_zero (settled_of (slots_of input)))))
  unread_by (Err why) e = (l.slots ∙ rw e, l.list ∙ rw e)

pub demand_1 : Demand1
demand_1 =
    record {
      parsed = parsed;
      decided = decided_by;
      channels = channels;
      flat = flat_rows;
      flat_text_refused = flat_text_refused_lem;
      flat_text = flat_text_lem;
      written = room;
      flat_four = flat_room_lem;
      flat_needs = λ bytes out left r. too_long bytes;
      walked = refusals;
      good_lines = good_lines_lem;
      bad_line = bad_line_lem;
      bad_carries = bad_carries_lem;
      too_many = too_many_lem;
      unwritten = unwritten;
      flat_unwritten = λ question out left r. (untouched_else question out left r).untouched;
      unlisted = unlisted;
      unread = λ input slots list slots_left list_left r l n. unread_by input slots list slots_left list_left r l n (judge_input input) refl;
      lengths = decides valid_channel;
      slots_lengths = slots_length;
      counts = bytes_that_count_lem valid_channel;
      cut = λ kind s r r' e p q. p.decoded ∙ sym ((bytes_that_count_lem valid_channel kind s).same e) ∙ sym q.decoded;
      flat_cut = flat_counts;
    }
