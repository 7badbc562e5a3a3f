-- The texts, and that they are written. Assumes nothing.
use Prim.Native.Nat.{ℕ, zero, suc, ◌≤◌}
use mathlib.Core.Path.{◌≡◌, refl, ap, ◌∙◌}
use mathlib.Core.Bool.{false}
use mathlib.Core.List.{[], ◌++◌}
use native.Mathlib.Omega.{arith}
use borrow.Author.Tests.{eq-eqb, le-leb, ne_eqb}
use lib.Dec.{eqb}
use lib.ListN.{length, drop, get_or, take}
use lib.Seq.{drop_at, take_at}
use Rattle.field.specs.Bits.{bits}
use Rattle.field.proofs.Placed.{placed_front}
use Rattle.text.specs.Text.{bytes}
use Rattle.storage.specs.Time.{time_text}
use Rattle.event_data.specs.DataText.{data2_text, data3_text, data_text, unless_ffh}
use Rattle.event_data.proofs.Joined.{joined_both, joined_second, joined_third, unless_said}
use Rattle.event_offset.specs.Event.{event_text, texts_of}
use Rattle.event_offset.specs.Tables.{table_42_2, table_42_3}
use Rattle.event_offset.proofs.Holding.{lent}
use Rattle.event_offset.proofs.FilledGives.{filled_gives}
use Rattle.claims.specs.Texts.{DataTexts, EventTexts, TimeTexts, Writes}

module _ (event sensor offset : ℕ) where
  generic : 0x01 ≤ bits 6 0 event → bits 6 0 event ≤ 0x0C → event_text event sensor offset ≡ bytes (get_or (texts_of (bits 6 0 event) table_42_2) (bits 3 0 offset) "")
  unfolding event_text
  generic a b = rw (ne_eqb (bits 6 0 event) 0x6F (λ e. omega arith))

  by_sensor : bits 6 0 event ≡ 0x6F → event_text event sensor offset ≡ bytes (get_or (texts_of sensor table_42_3) (bits 3 0 offset) "")
  unfolding event_text
  by_sensor e = rw (eq-eqb (bits 6 0 event) 0x6F e)

  no_text : (bits 6 0 event ≡ 0x6F → ⊥) → ((0x01 ≤ bits 6 0 event) × (bits 6 0 event ≤ 0x0C) → ⊥) → event_text event sensor offset ≡ []
  unfolding event_text
  no_text f g =
      let no : (k : ℕ) → 0x01 ≤ k → k ≤ 0x0C → eqb (bits 6 0 event) k ≡ false =
      λ k a b. ne_eqb (bits 6 0 event) k (λ e. g (omega arith, omega arith)) in
      simp (
        ne_eqb (bits 6 0 event) 0x6F f,
        no 0x01 (omega arith) (omega arith),
        no 0x02 (omega arith) (omega arith),
        no 0x03 (omega arith) (omega arith),
        no 0x04 (omega arith) (omega arith),
        no 0x05 (omega arith) (omega arith),
        no 0x06 (omega arith) (omega arith),
        no 0x07 (omega arith) (omega arith),
        no 0x08 (omega arith) (omega arith),
        no 0x09 (omega arith) (omega arith),
        no 0x0A (omega arith) (omega arith),
        no 0x0B (omega arith) (omega arith),
        no 0x0C (omega arith) (omega arith),
      )
      (nothing_at (bits 3 0 offset))
    where
      nothing_at : (k : ℕ) → bytes (get_or [] k "") ≡ []
      nothing_at zero = refl
      nothing_at (suc k) = refl

pub event_texts_lem : EventTexts
event_texts_lem =
    record {
      generic = generic;
      sensor = by_sensor;
      none = no_text;
      generic_texts = (refl, refl);
      sensor_texts = (refl, refl);
      of_system = λ id time generator revision sensor number direction event event_data kept. refl;
      of_stamped = λ id type time maker. refl;
      of_plain = λ id type. refl;
      lent = lent;
      filled = filled_gives;
    }

pub data_texts_lem : DataTexts
unfolding data_text unless_ffh
data_texts_lem =
    record {
      reading = λ v. unless_said v _;
      oem2 = λ v. unless_said v _;
      ext2 = λ v. unless_said v _;
      nothing2 = refl;
      second_ff = (refl, refl, refl);
      threshold = λ v. unless_said v _;
      oem3 = λ v. unless_said v _;
      ext3 = λ v. unless_said v _;
      nothing3 = refl;
      third_ff = (refl, refl, refl);
      third = λ d. joined_third (data2_text d.data2_type) (data3_text d.data3_type);
      second = λ d. joined_second (data2_text d.data2_type) (data3_text d.data3_type);
      both = λ d. joined_both (data2_text d.data2_type) (data3_text d.data3_type);
    }

pub time_texts_lem : TimeTexts
unfolding time_text
time_texts_lem = record { unknown = refl; known = λ t f. rw (ne_eqb t 0 f) }

pub writes : Writes
writes =
    record {
      stands = λ text out left r w h.
          let b = le-leb (length text) (length out) h in
          let l : left ≡ text ++ drop (length text) out = w.leaves ∙ rw b (placed_front out text) in (
            w.answered ∙ rw b,
            ap (take (length text)) l ∙ take_at text (drop (length text) out) (length text) refl,
            ap (drop (length text)) l ∙ drop_at text (drop (length text) out) (length text) refl,
          );
    }
