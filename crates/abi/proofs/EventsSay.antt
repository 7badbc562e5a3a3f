-- The sentences of specs/EventsSay.antt. Assumes nothing.
use Prim.Native.Nat.{ℕ}
use mathlib.Core.Path.{refl, sym, ap, ◌∙◌}
use mathlib.Core.List.{List}
use Rattle.field.specs.Handed.{invalid_channel, short, too_long, unknown_type}
use Rattle.field.specs.Lengths.{entry_bytes}
use Rattle.field.proofs.Choices.{float}
use Rattle.text.specs.Written.{Written, room_for}
use Rattle.sel.specs.Entry.{type_at}
use Rattle.platform_event.specs.Message.{channel_beside, message_bytes, message_in, record_of}
use Rattle.platform_event.specs.Ways.{MessageAnswer, RecordAnswer, message_answer, message_number, message_wrote, record_answer, record_number, record_wrote, way_in, way_out}
use Rattle.platform_event.specs.declared.Beside.{Beside}
use Rattle.flat_form.specs.Form.{Flat, Gives, flat_answer, flat_leaves, from_written, refusal}
use Rattle.flat_form.specs.declared.SelAnswer.{SelAnswer}
use Rattle.flat_events.specs.Events.{message_flat, record_flat}
use Rattle.flat_events.proofs.Laws.{in_float, out_float}
use Rattle.abi.specs.EventsSay.{EventsSay, MessageSaid, RecordSaid}

to_record_lem : (b : Beside) (m out left : List ℕ) (r : SelAnswer) → Gives (record_flat b m) out r left → RecordSaid b m out r left
to_record_lem b m out left r g =
    record {
      answer = record_answer b m out;
      writes = record { answered = refl; numbered = refl; leaves = g.leaves ∙ in_float (λ (f : Flat). flat_leaves f out) b m _ _ _ _ };
      said =
          g.answered
          ∙ in_float (λ (f : Flat). flat_answer f out) b m _ _ _ _
          ∙ ap
          (λ (x : SelAnswer). way_in b m (refusal (short message_bytes)) (refusal too_long) (refusal (invalid_channel (channel_beside b))) x)
          (float from_written (room_for (record_of b m) out) _ _
          ∙ sym (float (λ (w : Written). refusal (record_number (record_wrote w))) (room_for (record_of b m) out) _ _))
          ∙ sym (in_float (λ (a : RecordAnswer). refusal (record_number a)) b m _ _ _ _);
    }

to_event_lem : (s out left : List ℕ) (r : SelAnswer) → Gives (message_flat s) out r left → MessageSaid s out r left
to_event_lem s out left r g =
    record {
      answer = message_answer s out;
      writes = record { answered = refl; numbered = refl; leaves = g.leaves ∙ out_float (λ (f : Flat). flat_leaves f out) s _ _ _ };
      said =
          g.answered
          ∙ out_float (λ (f : Flat). flat_answer f out) s _ _ _
          ∙ ap
          (λ (x : SelAnswer). way_out s (refusal (short entry_bytes)) (refusal (unknown_type (type_at s))) x)
          (float from_written (room_for (message_in s) out) _ _
          ∙ sym (float (λ (w : Written). refusal (message_number (message_wrote w))) (room_for (message_in s) out) _ _))
          ∙ sym (out_float (λ (a : MessageAnswer). refusal (message_number a)) s _ _ _);
    }

pub events_say : EventsSay
events_say = record { to_record = to_record_lem; to_event = to_event_lem }
