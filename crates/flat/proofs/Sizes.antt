-- The theorem of specs/Sizes.antt: the flat bytes of each kind are counted. Assumes nothing.
use Rattle.std.specs.Prelude.{if◌then◌else◌, Option, Some, None}
use Prim.Native.Nat.{ℕ, ◌≤◌}
use mathlib.Core.Path.{◌≡◌, refl, subst}
use mathlib.Core.Bool.{Bool, true, false}
use mathlib.Core.List.{List, [], ◌∷◌}
use native.Mathlib.Omega.{arith}
use borrow.Author.Tests.{eqb-true, eq-eqb, ne_eqb, le-leb, lt-leb}
use lib.Dec.{eqb, ltb}
use lib.ListN.{length, drop, length-take}
use Rattle.field.specs.Bits.{Bytes, byte_at, le32_at}
use Rattle.field.specs.Choose.{within}
use Rattle.field.specs.Handed.{Handed}
use Rattle.field.specs.Rows.{LongEnough, long, too_short}
use Rattle.field.proofs.Choices.{clash, either}
use Rattle.connection.specs.Channel.{valid_channel}
use Rattle.storage.proofs.Laws.{time_at, time_length}
use Rattle.event_data.proofs.Room.{data_short}
use Rattle.typed_data.proofs.Room.{typed_short}
use Rattle.event_offset.specs.Event.{event_room}
use Rattle.event_offset.proofs.Classes.{event_length}
use Rattle.ids.specs.Ids.{record_id, reservation_id}
use Rattle.sel.specs.Entry.{type_at}
use Rattle.sel.specs.Numbers.{entry_hands}
use Rattle.sel.proofs.Rows.{entry_rows}
use Rattle.get_entry.specs.GetEntry.{record_part}
use Rattle.sel_commands.specs.declared.clear.ClearSelAction.{ClearSelAction}
use Rattle.answers.specs.Length.{length_hands}
use Rattle.answers.specs.declared.AnswerKind.{AnswerKind}
use Rattle.answers.proofs.Requests.{request_lengths}
use Rattle.flat_form.specs.Form.{Flat, decided, no_question, refused, taken}
use Rattle.flat_record.specs.Event.{event_data_flat, typed_data_flat}
use Rattle.flat_record.specs.Records.{entry_flat, entry_flat_in, entry_flat_of, get_entry_flat_in, get_entry_flat_of, plain_flat, record_flat, record_part_flat, stamped_flat}
use Rattle.flat_record.proofs.Laws.{plain_length, stamped_length, system_length}
use Rattle.flat_answers.specs.Answers.{allocation_flat, clear_flat, id_flat, info_flat, record_id_flat, reserve_flat}
use Rattle.flat.specs.Kinds.{answer_flat, flat_by}
use Rattle.flat.specs.Lengths.{length_flat, length_of, of_answer}
use Rattle.flat.specs.Letters.{is_text, kind_of}
use Rattle.flat.specs.Requests.{clear_of, question_length, request_flat, request_of}
use Rattle.flat.specs.Sizes.{Sizes, flat_room, request_room}
use Rattle.flat.specs.Texts.{entry_text_flat, event_data_text_flat, event_text_flat, log_time_text_flat, time_text_flat, typed_data_text_flat}
use Rattle.flat.specs.Versions.{behind_version}
use Rattle.flat.specs.declared.Kind.{Kind}
use Rattle.flat.specs.declared.Question.{Question}

-- if the question is taken, its flat bytes have P
abbrev Has : (List ℕ → Type 0) → Flat → Type 0
Has P (taken flat) = P flat
Has P (refused h) = Unit {0}

of_taken : (P : List ℕ → Type 0) {q : Flat} {flat : List ℕ} → Has P q → q ≡ taken flat → P flat
of_taken P p e = subst (Has P) e p

decided_has : (P : List ℕ → Type 0) (h : Handed) (flat : List ℕ) → (h.number ≡ 0 → P flat) → Has P (decided h flat)
unfolding decided
decided_has P h flat p = by (eqb h.number 0) refl
  where
    by : (b : Bool) → eqb h.number 0 ≡ b → Has P (if b then taken flat else refused h)
    by true e = p (eqb-true h.number 0 e)
    by false e = tt

-- exact lengths: of a record by its type, whose own bytes are all there since one that is accepted has 16
enough : {n : ℕ} {s : List ℕ} {Row : Handed → Type 0} {h : Handed} → LongEnough n s Row h → h.number ≡ 0 → n ≤ length s
enough (too_short l) z = absurd (omega arith)
enough (long l r) z = l

module _ (s : List ℕ) where
  sixteen : (entry_hands valid_channel s).number ≡ 0 → 16 ≤ length s
  sixteen = enough (((entry_rows valid_channel s).rows.exactly _).0 refl)

  system_has : type_at s ≡ 0x02 → Has (λ l. length l ≡ 22) (entry_flat s)
  unfolding entry_flat_in record_flat
  system_has t = decided_has _ _ _ (λ z. rw (eq-eqb (type_at s) 0x02 t) (system_length s))

  stamped_has : 0xC0 ≤ type_at s → type_at s ≤ 0xDF → Has (λ l. length l ≡ 18) (entry_flat s)
  unfolding entry_flat_in record_flat
  stamped_has a b =
      decided_has _ _ _ (λ z. rw (ne_eqb (type_at s) 0x02 (λ e. omega arith), le-leb 0xC0 (type_at s) a, le-leb (type_at s) 0xDF b) (stamped_length s (sixteen z)))

  plain_has : 0xE0 ≤ type_at s → Has (λ l. length l ≡ 17) (entry_flat s)
  unfolding entry_flat_in record_flat
  plain_has a =
      decided_has _ _ _ (λ z. rw (ne_eqb (type_at s) 0x02 (λ e. omega arith), le-leb 0xC0 (type_at s) (omega arith), lt-leb (type_at s) 0xDF (omega arith)) (plain_length s (sixteen z)))

  allocation_has : Has (λ l. length l ≡ 9) (allocation_flat s)
  unfolding allocation_flat
  allocation_has = decided_has _ _ _ (λ z. refl)

-- if the question is taken, there are at most so many flat bytes
abbrev Fits : ℕ → Flat → Type 0
Fits room = Has (λ l. length l ≤ room)

record_short : (s : List ℕ) → length (record_flat s) ≤ 22
unfolding record_flat stamped_flat plain_flat
record_short s =
    let P : List ℕ → Type 0 = λ l. length l ≤ 22 in
    either P (eqb (type_at s) 0x02) _ _ (omega (arith, system_length s))
    (either P (within 0xC0 0xDF (type_at s)) _ _ (omega (arith, length-take 6 (drop 10 s))) (omega (arith, length-take 13 (drop 3 s))))

part_short : (s : List ℕ) → length (record_part s) ≤ 16
unfolding record_part
part_short s = either (λ (l : List ℕ). length l ≤ 16) (ltb (length s) 18) _ _ (omega arith) (omega (arith, length-take 16 (drop 2 s)))

request_fits : (room : ℕ) → request_room ≤ room → (command reservation argument : ℕ) → Fits room (request_of command reservation argument)
unfolding request_of clear_of
request_fits room h command reservation argument =
    let six = request_lengths.clear (reservation_id reservation) in
    either (Fits room) (within 0x40 0x42 command) _ _ (omega arith)
    (either (Fits room) (eqb command 0x43) _ _ (omega (arith, request_lengths.get_entry (reservation_id reservation) (record_id argument)))
    (either (Fits room) (eqb command 0x47) _ _
    (either (Fits room) (eqb argument 0x00AA) _ _ (omega (arith, six ClearSelAction.InitiateErase))
    (either (Fits room) (eqb argument 0x0000) _ _ (omega (arith, six ClearSelAction.GetStatus)) tt))
    tt))

answer_fits : (kind : AnswerKind) (s : List ℕ) → Fits flat_room (answer_flat kind s)
unfolding entry_flat_in get_entry_flat_in info_flat allocation_flat reserve_flat clear_flat
answer_fits AnswerKind.Entry s = decided_has _ _ _ (λ z. omega (arith, record_short s))
answer_fits AnswerKind.GetEntry s = decided_has _ _ _ (λ z. omega (arith, record_short (drop 2 s)))
answer_fits AnswerKind.Info s = decided_has _ _ _ (λ z. omega arith)
answer_fits AnswerKind.Allocation s = decided_has _ _ _ (λ z. omega arith)
answer_fits AnswerKind.Reserve s = decided_has _ _ _ (λ z. omega arith)
answer_fits AnswerKind.Clear s = decided_has _ _ _ (λ z. omega arith)

length_fits : (letter n : ℕ) → Fits flat_room (length_of letter n)
length_fits letter n = by (kind_of letter)
  where
    by : (kind : Option Kind) → Fits flat_room (of_answer (λ k. decided (length_hands k n) []) no_question kind)
    by (Some (Kind.Answer kind)) = decided_has _ _ _ (λ z. omega arith)
    by (Some (Kind.Other question)) = tt
    by None = tt

-- any kind: what is known of the bytes is asked for only where the kind is a text
module _ (s : List ℕ) where
  kind_fits : (kind : Option Kind) → (is_text kind ≡ true → Bytes (length s) s) → Fits (if is_text kind then event_room else flat_room) (flat_by kind s)
  unfolding behind_version entry_flat_of get_entry_flat_of length_flat record_part_flat event_data_flat typed_data_flat typed_data_text_flat record_id_flat id_flat request_flat entry_text_flat event_data_text_flat event_text_flat time_text_flat log_time_text_flat
  kind_fits (Some (Kind.Answer kind)) bs = answer_fits kind s
  kind_fits (Some (Kind.Other Question.EntryText)) bs =
      decided_has _ _ _ (λ z. either (λ (l : List ℕ). length l ≤ event_room) (eqb (type_at s) 0x02) _ _ (event_length _ _ _) (omega arith))
  kind_fits (Some (Kind.Other Question.RecordPart)) bs = omega (arith, part_short s)
  kind_fits (Some (Kind.Other Question.EntryOf)) bs =
      either (Fits flat_room) (eqb (length s) 0) _ _ tt (decided_has _ _ _ (λ z. omega (arith, record_short (drop 1 s))))
  kind_fits (Some (Kind.Other Question.GetEntryOf)) bs =
      either (Fits flat_room) (eqb (length s) 0) _ _ tt (decided_has _ _ _ (λ z. omega (arith, record_short (drop 2 (drop 1 s)))))
  kind_fits (Some (Kind.Other Question.EventData)) bs = either (Fits flat_room) (eqb (length s) 3) _ _ (omega arith) tt
  kind_fits (Some (Kind.Other Question.EventDataText)) bs = either (Fits event_room) (eqb (length s) 3) _ _ (omega (arith, data_short s ((bs refl).each 1) ((bs refl).each 2))) tt
  kind_fits (Some (Kind.Other Question.TypedData)) bs = either (Fits flat_room) (eqb (length s) 4) _ _ (omega arith) tt
  kind_fits (Some (Kind.Other Question.TypedDataText)) bs =
      either (Fits event_room) (eqb (length s) 4) _ _ (omega (arith, typed_short (byte_at s 0) (byte_at s 1 ∷ byte_at s 2 ∷ byte_at s 3 ∷ []) ((bs refl).each 2) ((bs refl).each 3))) tt
  kind_fits (Some (Kind.Other Question.Length)) bs = either (Fits flat_room) (eqb (length s) 5) _ _ (length_fits (byte_at s 0) (le32_at s 1)) tt
  kind_fits (Some (Kind.Other Question.EventText)) bs = either (Fits event_room) (eqb (length s) 3) _ _ (event_length _ _ _) tt
  kind_fits (Some (Kind.Other Question.TimeText)) bs = either (Fits event_room) (eqb (length s) 4) _ _ (omega (arith, (time_at s 0 (bs refl).each).ported)) tt
  kind_fits (Some (Kind.Other Question.LogTimeText)) bs = either (Fits event_room) (eqb (length s) 4) _ _ (omega (arith, (time_at s 0 (bs refl).each).log)) tt
  kind_fits (Some (Kind.Other Question.RecordId)) bs = either (Fits flat_room) (eqb (length s) 2) _ _ (omega arith) tt
  kind_fits (Some (Kind.Other Question.Request)) bs =
      either (Fits flat_room) (eqb (length s) (question_length (byte_at s 0))) _ _ (request_fits flat_room (omega arith) _ _ _) tt
  kind_fits None bs = tt

pub sizes : Sizes
sizes =
    record {
      texts = λ letter s flat t bs. of_taken _ (rw t at (kind_fits s (kind_of letter) (λ e. bs)));
      others = λ letter s flat f. of_taken _ (rw f at (kind_fits s (kind_of letter) (λ e. clash e f)));
      system = λ s flat e t. of_taken _ (system_has s t) e;
      stamped = λ s flat e a b. of_taken _ (stamped_has s a b) e;
      plain = λ s flat e a. of_taken _ (plain_has s a) e;
      allocation = λ s flat. of_taken _ (allocation_has s);
      event = event_length;
      event_data = λ b1 b2 b3. data_short (b1 ∷ b2 ∷ b3 ∷ []);
      typed_data = λ event b1 b2 b3. typed_short event (b1 ∷ b2 ∷ b3 ∷ []);
      time = time_length;
      request = λ command reservation argument flat. of_taken _ (request_fits request_room (omega arith) command reservation argument);
    }
