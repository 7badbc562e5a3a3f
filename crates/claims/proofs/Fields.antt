-- The fields of every good answer. Assumes nothing.
use Rattle.std.specs.Prelude.{if◌then◌else◌, Ok, Err}
use Prim.Native.Nat.{ℕ, ◌/◌, ◌%◌, ◌≤◌, ◌<◌}
use mathlib.Core.Path.{◌≡◌, refl, sym, ap, ◌∙◌}
use mathlib.Core.Bool.{Bool, true, false}
use mathlib.Core.List.{List, [], ◌∷◌, ◌++◌}
use mathlib.Core.Logic.{◌↔◌}
use native.Mathlib.Omega.{arith}
use borrow.Author.Tests.{eq-eqb, eqb-true, le-ltb, lt-ltb, ne_eqb}
use lib.Dec.{eqb}
use lib.Seq.{drop_at, take_at}
use lib.ListN.{length, drop, take, length-drop, length-take, replicate}
use Rattle.field.specs.Bits.{byte_at, bits, bytes_at, le16_at, le24_at, le32_at}
use Rattle.field.proofs.Rows.{rows_are}
use Rattle.connection.specs.Channel.{channel_at, valid_channel}
use Rattle.connection.specs.Unit.{unit_of}
use Rattle.connection.proofs.Back.{channel_number_lem, unit_back}
use Rattle.storage.specs.Alloc.{AllocAnswer, alloc_at, parse_alloc}
use Rattle.storage.specs.Time.{timestamp}
use Rattle.storage.specs.declared.AllocInfo.{AllocInfo}
use Rattle.storage.specs.declared.Timestamp.{Timestamp}
use Rattle.event_data.specs.EventData.{by_kind, event_data_of}
use Rattle.event_data.specs.declared.EventData.{EventData}
use Rattle.ids.specs.Ids.{record_id, reservation_id}
use Rattle.ids.specs.declared.RecordId.{RecordId}
use Rattle.ids.specs.declared.ReservationId.{ReservationId}
use Rattle.event_message.specs.Generator.{generator_at}
use Rattle.event_message.specs.Message.{direction_of, revision_of}
use Rattle.event_message.specs.declared.EventDirection.{EventDirection}
use Rattle.event_message.specs.declared.EventGenerator.{EventGenerator}
use Rattle.event_message.specs.declared.EventMessageRevision.{EventMessageRevision}
use Rattle.sel.specs.Entry.{EntryAnswer, accepted, kept_at, plain_record, stamped_record, system_by, type_at}
use Rattle.sel.specs.Numbers.{refusal_of}
use Rattle.sel.specs.declared.Entry.{Entry}
use Rattle.sel.specs.declared.KeptBytes.{KeptBytes}
use Rattle.sel.specs.declared.ParseEntryError.{ParseEntryError}
use Rattle.sel.proofs.Parsed.{parsed_plain, parsed_stamped, parsed_system}
use Rattle.get_entry.specs.GetEntry.{EntryInfoAnswer, parse_answer, record_part, with_next}
use Rattle.get_entry.specs.declared.EntryInfo.{EntryInfo}
use Rattle.sel_commands.specs.Clear.{ClearAnswer, parse_clear}
use Rattle.sel_commands.specs.Info.{InfoAnswer, how_many, info_at, parse_info}
use Rattle.sel_commands.specs.Reserve.{ReserveAnswer, parse_reserve}
use Rattle.sel_commands.specs.declared.clear.ErasureProgress.{ErasureProgress}
use Rattle.sel_commands.specs.declared.get_info.Info.{Info}
use Rattle.answers.specs.Answer.{Answer, number_of}
use Rattle.answers.specs.Rows.{Row}
use Rattle.answers.specs.declared.AnswerKind.{AnswerKind}
use Rattle.answers.proofs.Rows.{answer_rows}
use Rattle.claims.specs.Fields.{AllocFields, ChannelIs, Decoded, EventDataFields, InfoFields, PlainFields, StampedFields, SystemFields, UnitIs}
use Rattle.promises.specs.Promises.{Promised}

-- event data
three_bytes_lem : (b1 b2 b3 : ℕ) → EventDataFields b1 b2 b3 (event_data_of (b1 ∷ b2 ∷ b3 ∷ []))
unfolding event_data_of by_kind
three_bytes_lem b1 b2 b3 =
    record {
      offset = refl;
      second00 = λ k. simp k (same (eqb b2 0xFF));
      second01 = λ k f. simp (k, ne_eqb b2 0xFF f);
      second10 = λ k f. simp (k, ne_eqb b2 0xFF f);
      second11 = λ k f. simp (k, ne_eqb b2 0xFF f);
      second_ff = λ e. rw (eq-eqb b2 0xFF e);
      third00 = λ k. simp k (same (eqb b3 0xFF));
      third01 = λ k f. simp (k, ne_eqb b3 0xFF f);
      third10 = λ k f. simp (k, ne_eqb b3 0xFF f);
      third11 = λ k f. simp (k, ne_eqb b3 0xFF f);
      third_ff = λ e. rw (eq-eqb b3 0xFF e);
    }
  where
    same : {A : Type 0} (b : Bool) {a : A} → (if b then a else a) ≡ a
    same true = refl
    same false = refl

-- the channel and the unit that bits name
channel_is : (n : ℕ) → ChannelIs n (channel_at n)
unfolding channel_at
channel_is n =
    record {
      primary = λ e. rw (eq-eqb n 0 e);
      current = λ e. rw (ne_eqb n 0 (λ z. omega arith), eq-eqb n 0xE e);
      system = λ e. rw (ne_eqb n 0 (λ z. omega arith), ne_eqb n 0xE (λ z. omega arith), eq-eqb n 0xF e);
      numbered = λ f g h. (record { 0 = n }, rw (ne_eqb n 0 f, ne_eqb n 0xE g, ne_eqb n 0xF h), refl);
      number = channel_number_lem n;
    }

unit_is : (b : ℕ) → UnitIs (bits 1 0 b) (unit_of b)
unfolding unit_of
unit_is b =
    record {
      zero = λ e. rw e;
      one = λ e. rw e;
      two = λ e. rw e;
      three = λ e. rw e;
      number = unit_back.low b;
    }

-- a system record
system_fields : (s : List ℕ)
    → SystemFields s (record_id (le16_at s 0)) (timestamp (le32_at s 3)) (generator_at (byte_at s 7) (byte_at s 8)) (revision_of (byte_at s 9))
    (byte_at s 10) (byte_at s 11) (direction_of (byte_at s 12)) (bits 6 0 (byte_at s 12)) (event_data_of (byte_at s 13 ∷ byte_at s 14 ∷ byte_at s 15 ∷ [])) (kept_at s)
unfolding generator_at revision_of direction_of
system_fields s =
    record {
      id_is = refl;
      time_is = refl;
      software = λ b. (channel_at (bits 7 4 (byte_at s 8)), rw (eq-eqb (bits 0 0 (byte_at s 7)) 1 b), channel_is (bits 7 4 (byte_at s 8)));
      address = λ b. (
        channel_at (bits 7 4 (byte_at s 8)),
        unit_of (byte_at s 8),
        rw (ne_eqb (bits 0 0 (byte_at s 7)) 1 (λ e. omega arith)),
        channel_is (bits 7 4 (byte_at s 8)),
        unit_is (byte_at s 8),
      );
      revision04 = λ b. rw (eq-eqb (byte_at s 9) 0x04 b);
      revision03 = λ b. rw (ne_eqb (byte_at s 9) 0x04 (λ e. omega arith), eq-eqb (byte_at s 9) 0x03 b);
      revision_else = λ f g. rw (ne_eqb (byte_at s 9) 0x04 f, ne_eqb (byte_at s 9) 0x03 g);
      sensor_type = refl;
      sensor_number = refl;
      assert = λ b. rw (ne_eqb (bits 7 7 (byte_at s 12)) 1 (λ e. omega arith));
      deassert = λ b. rw (eq-eqb (bits 7 7 (byte_at s 12)) 1 b);
      event_type = refl;
      data_is = three_bytes_lem (byte_at s 13) (byte_at s 14) (byte_at s 15);
      kept_generator = (refl, refl);
      kept_data = (refl, refl, refl);
    }

module _ (s : List ℕ) (r : EntryAnswer) (p : Promised AnswerKind.Entry r s) (long : 16 ≤ length s) where
  system_is : byte_at s 2 ≡ 0x02 → valid_channel (bits 7 4 (byte_at s 8)) ≡ true → r ≡ system_by (kept_at s) s
  system_is t v = p.decoded ∙ parsed_system valid_channel s long t v

  stamped_is : 0xC0 ≤ byte_at s 2 → byte_at s 2 ≤ 0xDF → r ≡ stamped_record s
  stamped_is a b = p.decoded ∙ parsed_stamped valid_channel s long a b

  plain_is : 0xE0 ≤ byte_at s 2 → byte_at s 2 ≤ 0xFF → r ≡ plain_record s
  plain_is a b = p.decoded ∙ parsed_plain valid_channel s long a b

  six : length (bytes_at s 10 6) ≡ 6
  six = omega (arith, length-take 6 (drop 10 s), length-drop 10 s)

-- six bytes in front of others
six_first : (a b : List ℕ) → length a ≡ 6 → (take 6 (a ++ b) ≡ a) × (drop 6 (a ++ b) ≡ b)
six_first a b e = (take_at a b 6 e, drop_at a b 6 e)

stamped_fields : (s : List ℕ) → length (bytes_at s 10 6) ≡ 6
    → StampedFields s (record_id (le16_at s 0)) (type_at s) (timestamp (le32_at s 3)) (le24_at s 7) (bytes_at s 10 6 ++ replicate 7 0)
stamped_fields s six =
    let parts = six_first (bytes_at s 10 6) (replicate 7 0) six in
    record {
      id_is = refl;
      type_is = refl;
      time_is = refl;
      maker_is = refl;
      own = parts.0;
      unused = parts.1;
    }

-- the bits of the low four are the byte's
bit_is : (n : ℕ) → n < 2 → (m : ℕ) → m ≡ n → (eqb m 1 ≡ true) ↔ (n ≡ 1)
bit_is n h m e = (λ t. sym e ∙ eqb-true m 1 t, λ b. eq-eqb m 1 (e ∙ b))

info_fields_lem : (s : List ℕ) → InfoFields s (info_at s)
unfolding info_at how_many
info_fields_lem s =
    let b = byte_at s 13 in
    let b3 : b % 16 / 8 % 2 ≡ b / 8 % 2 = omega arith in
    let b2 : b % 16 / 4 % 2 ≡ b / 4 % 2 = omega arith in
    let b1 : b % 16 / 2 % 2 ≡ b / 2 % 2 = omega arith in
    let b0 : b % 16 % 2 ≡ b % 2 = omega arith in
    record {
      major = refl;
      minor = refl;
      count = refl;
      free = refl;
      mask = refl;
      added = refl;
      deleted = refl;
      overflows = bit_is (bits 7 7 b) (omega arith) (bits 7 7 b) refl;
      delete = bit_is (bits 3 3 b) (omega arith) (bits 3 3 (bits 3 0 b)) b3;
      partial_add = bit_is (bits 2 2 b) (omega arith) (bits 2 2 (bits 3 0 b)) b2;
      reserve = bit_is (bits 1 1 b) (omega arith) (bits 1 1 (bits 3 0 b)) b1;
      allocation = bit_is (bits 0 0 b) (omega arith) (bits 0 0 (bits 3 0 b)) b0;
      commands = rw (b3, b2, b1, b0);
    }

alloc_fields : (s : List ℕ) → AllocFields s (alloc_at s)
unfolding alloc_at
alloc_fields s = record { units = refl; unit_size = refl; free = refl; largest = refl; maximum = refl }

-- each kind
system : (s : List ℕ) (r : EntryAnswer) → Promised AnswerKind.Entry r s
    → 16 ≤ length s → byte_at s 2 ≡ 0x02 → valid_channel (bits 7 4 (byte_at s 8)) ≡ true
    → (id : RecordId) × (time : Timestamp) × (generator : EventGenerator) × (revision : EventMessageRevision)
    × (sensor : ℕ) × (number : ℕ) × (direction : EventDirection) × (event : ℕ) × (event_data : EventData) × (kept : KeptBytes)
    × (r ≡ accepted (Entry.System id time generator revision sensor number direction event event_data kept) (replicate 13 0))
    × SystemFields s id time generator revision sensor number direction event event_data kept
unfolding system_by
system s r p l t v = (_, _, _, _, _, _, _, _, _, _, system_is s r p l t v, system_fields s)

-- an answer whose number is not 0 is a refusal, and has its row
row_of : (kind : AnswerKind) (s : List ℕ) (r : Answer kind) → Promised kind r s → Row valid_channel kind s (number_of kind r)
row_of kind s r p = ((rows_are (sym p.numbered) (answer_rows valid_channel kind s).rows).exactly (number_of kind r)).0 refl

refused_bytes_lem : (s : List ℕ) (r : EntryAnswer) → Promised AnswerKind.Entry r s → ((number_of AnswerKind.Entry r).number ≡ 0 → ⊥)
    → (why : ParseEntryError) × (r ≡ Err why) × Row valid_channel AnswerKind.Entry s (refusal_of why)
refused_bytes_lem s (Ok e) p n = absurd (n refl)
refused_bytes_lem s (Err why) p n = (why, refl, row_of AnswerKind.Entry s (Err why) p)

refused_answer_lem : (s : List ℕ) (r : EntryInfoAnswer) → Promised AnswerKind.GetEntry r s → ((number_of AnswerKind.GetEntry r).number ≡ 0 → ⊥)
    → (why : ParseEntryError) × (r ≡ Err why) × Row valid_channel AnswerKind.GetEntry s (refusal_of why)
refused_answer_lem s (Ok e) p n = absurd (n refl)
refused_answer_lem s (Err why) p n = (why, refl, row_of AnswerKind.GetEntry s (Err why) p)

stamped : (s : List ℕ) (r : EntryAnswer) → Promised AnswerKind.Entry r s → 16 ≤ length s → 0xC0 ≤ byte_at s 2 → byte_at s 2 ≤ 0xDF
    → (id : RecordId) × (type : ℕ) × (time : Timestamp) × (maker : ℕ) × (oem : List ℕ)
    × (r ≡ accepted (Entry.OemTimestamped id type time maker) oem) × StampedFields s id type time maker oem
unfolding stamped_record
stamped s r p l a b = (
  record_id (le16_at s 0),
  type_at s,
  timestamp (le32_at s 3),
  le24_at s 7,
  bytes_at s 10 6 ++ replicate 7 0,
  stamped_is s r p l a b,
  stamped_fields s (six s r p l),
)

plain : (s : List ℕ) (r : EntryAnswer) → Promised AnswerKind.Entry r s → 16 ≤ length s → 0xE0 ≤ byte_at s 2 → byte_at s 2 ≤ 0xFF
    → (id : RecordId) × (type : ℕ) × (oem : List ℕ) × (r ≡ accepted (Entry.OemNotTimestamped id type) oem) × PlainFields s id type oem
unfolding plain_record
plain s r p l a b = (record_id (le16_at s 0), type_at s, bytes_at s 3 13, plain_is s r p l a b, record { id_is = refl; type_is = refl; own = refl })

module _ (s : List ℕ) (r : EntryInfoAnswer) (q : EntryAnswer) (entry : Entry) (oem : List ℕ) where
  get_entry_lem : Promised AnswerKind.GetEntry r s → Promised AnswerKind.Entry q (drop 2 s) → 18 ≤ length s → q ≡ accepted entry oem
      → (i : EntryInfo) × (r ≡ Ok (record { info = i; oem = oem })) × (i.next_entry.0 ≡ le16_at s 0) × (i.entry ≡ entry)
  unfolding parse_answer
  get_entry_lem p g l a =
      let e : r ≡ with_next (le16_at s 0) q = p.decoded ∙ rw (le-ltb (length s) 18 l, sym g.decoded) in
      (record { next_entry = record_id (le16_at s 0); entry = entry }, e ∙ ap (with_next (le16_at s 0)) a, refl, refl)

part : (s : List ℕ) → 18 ≤ length s → record_part s ≡ bytes_at s 2 16
unfolding record_part
part s l = rw (le-ltb (length s) 18 l)

no_part_lem : (s : List ℕ) → length s < 18 → record_part s ≡ []
unfolding record_part
no_part_lem s l = rw (lt-ltb (length s) 18 l)

info : (s : List ℕ) (r : InfoAnswer) → Promised AnswerKind.Info r s → length s ≡ 14 → (i : Info) × (r ≡ Ok i) × InfoFields s i
unfolding parse_info
info s r p l = (info_at s, p.decoded ∙ rw (le-ltb (length s) 14 (omega arith), le-ltb 14 (length s) (omega arith)), info_fields_lem s)

alloc : (s : List ℕ) (r : AllocAnswer) → Promised AnswerKind.Allocation r s → 9 ≤ length s → (i : AllocInfo) × (r ≡ Ok i) × AllocFields s i
unfolding parse_alloc
alloc s r p l = (alloc_at s, p.decoded ∙ rw (le-ltb (length s) 9 l), alloc_fields s)

reserved : (s : List ℕ) (r : ReserveAnswer) → Promised AnswerKind.Reserve r s → 2 ≤ length s → (le16_at s 0 ≡ 0 → ⊥)
    → (id : ReservationId) × (r ≡ Ok id) × (id.0 ≡ le16_at s 0)
unfolding parse_reserve
reserved s r p l f = (reservation_id (le16_at s 0), p.decoded ∙ simp (le-ltb (length s) 2 l, ne_eqb (le16_at s 0) 0 f), refl)

module _ (s : List ℕ) (r : ClearAnswer) (p : Promised AnswerKind.Clear r s) (l : 1 ≤ length s) where
  completed : bits 3 0 (byte_at s 0) ≡ 1 → r ≡ Ok ErasureProgress.Completed
  unfolding parse_clear
  completed b = p.decoded ∙ simp (le-ltb (length s) 1 l, b)

  in_progress_lem : (bits 3 0 (byte_at s 0) ≡ 1 → ⊥) → r ≡ Ok ErasureProgress.InProgress
  unfolding parse_clear
  in_progress_lem f = p.decoded ∙ simp (le-ltb (length s) 1 l, ne_eqb (bits 3 0 (byte_at s 0)) 1 f)

pub decoded : Decoded
decoded =
    record {
      system = λ s r p l. system s r p (omega arith);
      stamped = stamped;
      plain = plain;
      refused_bytes = refused_bytes_lem;
      refused_answer = refused_answer_lem;
      opened = λ id time generator revision sensor number direction event event_data kept. (
        _,
        refl,
        record {
          id_is = refl;
          time_is = refl;
          generator_is = refl;
          revision_is = refl;
          sensor_type = refl;
          sensor_number = refl;
          direction_is = refl;
          event_type = refl;
          data_is = refl;
        },
      );
      opened_stamped = λ id type time maker. refl;
      opened_plain = λ id type. refl;
      get_entry = get_entry_lem;
      part = part;
      no_part = no_part_lem;
      info = info;
      alloc = alloc;
      reserved = reserved;
      completed = completed;
      in_progress = in_progress_lem;
      new_id = λ n f g. simp (ne_eqb n 0x0000 f, ne_eqb n 0xFFFF g);
      no_id = (refl, refl);
      id_number = λ n. refl;
      is_first = λ id. (eqb-true id.0 0x0000, eq-eqb id.0 0x0000);
      is_last = λ id. (eqb-true id.0 0xFFFF, eq-eqb id.0 0xFFFF);
      reservation_number = λ n. refl;
      three_bytes = three_bytes_lem;
    }
