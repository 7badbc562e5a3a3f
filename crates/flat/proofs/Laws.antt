-- The texts that the writers write are those of the question's bytes; and from what the code tests of a request to its definition. Assumes nothing.
use Rattle.std.specs.Prelude.{Ok, Err}
use Prim.Native.Nat.{ℕ, ◌≤◌, ◌<◌}
use mathlib.Core.Path.{◌≡◌, refl, ap, ◌∙◌}
use mathlib.Core.Bool.{Bool, true, false}
use mathlib.Core.List.{List, []}
use native.Mathlib.Decide.{dec_le}
use native.Mathlib.Omega.{arith}
use borrow.Author.Tests.{ne_eqb, le-leb, lt-leb}
use lib.Dec.{eqb, ltb}
use lib.ListN.{length}
use Rattle.field.specs.Bits.{byte_at, bits}
use Rattle.field.specs.Choose.{within}
use Rattle.field.proofs.Choices.{either}
use Rattle.connection.specs.Channel.{valid_channel}
use Rattle.event_data.specs.EventData.{event_data_of}
use Rattle.event_offset.specs.Event.{event_text}
use Rattle.sel.specs.Entry.{channel_in, parse_entry, plain_record, stamped_record, system_by, system_record, type_at, EntryAnswer}
use Rattle.sel.specs.Numbers.{number_of, refusal_of}
use Rattle.sel.specs.Text.{entry_text}
use Rattle.flat_form.specs.Form.{Flat, decided, no_question, refused, taken}
use Rattle.flat.specs.Requests.{request_of}
use Rattle.flat.specs.Texts.{entry_text_flat}

abbrev pub text_by : EntryAnswer → Flat
text_by (Ok p) = taken (entry_text p.entry)
text_by (Err why) = refused (refusal_of why)

-- what an answer gives is what its number decides, with that text
abbrev Shows : List ℕ → EntryAnswer → Type 0
Shows text p = text_by p ≡ decided (number_of p) text

module _ (s : List ℕ) where
  entry_text_lem : (b : Bool) → eqb (type_at s) 0x02 ≡ b → text_by (parse_entry valid_channel s) ≡ entry_text_flat s
  unfolding entry_text_flat parse_entry system_record system_by stamped_record plain_record event_data_of decided
  entry_text_lem true e =
      let P : EntryAnswer → Type 0 = Shows (event_text (bits 6 0 (byte_at s 12)) (byte_at s 10) (bits 3 0 (byte_at s 13))) in
      rw e (either P (ltb (length s) 16) _ _ refl (either P (valid_channel (channel_in s)) _ _ refl refl))
  entry_text_lem false e =
      let P : EntryAnswer → Type 0 = Shows [] in
      rw e
      (either P (ltb (length s) 16) _ _ refl
      (either P (within 0xC0 0xDF (type_at s)) _ _ refl (either P (within 0xE0 0xFF (type_at s)) _ _ refl refl)))

  pub entry_text_is : {p : EntryAnswer} → p ≡ parse_entry valid_channel s → text_by p ≡ entry_text_flat s
  entry_text_is d = ap text_by d ∙ entry_text_lem (eqb (type_at s) 0x02) refl

past_bare : (k : ℕ) → 0x40 ≤ k → (k ≡ 0x40 → ⊥) → (k ≡ 0x41 → ⊥) → (k ≡ 0x42 → ⊥) → 0x42 < k
past_bare k l a b d = omega (arith, a, b, d)

pub no_command : (k reservation argument : ℕ) → (k ≡ 0x40 → ⊥) → (k ≡ 0x41 → ⊥) → (k ≡ 0x42 → ⊥) → (k ≡ 0x43 → ⊥) → (k ≡ 0x47 → ⊥)
    → no_question ≡ request_of k reservation argument
unfolding request_of
no_command k reservation argument a b d e f = by (dec_le 0x40 k)
  where
    by : Dec (0x40 ≤ k) → no_question ≡ request_of k reservation argument
    by (yes l) = simp (le-leb 0x40 k l, lt-leb k 0x42 (past_bare k l a b d), ne_eqb k 0x43 e, ne_eqb k 0x47 f)
    by (no l) = simp (lt-leb 0x40 k (omega arith), ne_eqb k 0x43 e, ne_eqb k 0x47 f)
