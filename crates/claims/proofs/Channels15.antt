-- The theorem of specs/Channels15.antt, out of those of the rooms below. Assumes nothing.
use Prim.Native.Nat.{ℕ}
use mathlib.Core.Path.{◌≡◌}
use mathlib.Core.List.{List}
use mathlib.Core.Logic.{◌↔◌}
use Rattle.field.specs.Handed.{Handed}
use Rattle.connection.proofs.Versions.{versions}
use Rattle.sel.specs.Versions.{VersionedRow as EntryRow}
use Rattle.sel.proofs.Versions.{entry_versions, wider}
use Rattle.get_entry.specs.Versions.{VersionedRow as AnswerRow}
use Rattle.get_entry.proofs.Versions.{answer_versions}
use Rattle.flat_form.specs.Form.{Gives, refusal}
use Rattle.flat_form.specs.declared.SelAnswer.{SelAnswer}
use Rattle.flat_record.specs.Records.{entry_flat_of, get_entry_flat_of}
use Rattle.flat_record.proofs.Versions.{flat_versions}
use Rattle.flat.proofs.Rows.{exactly, turned}
use Rattle.claims.specs.Channels15.{Channels15}

entry_refused_lem : (b : ℕ) (s out left : List ℕ) (r : SelAnswer) → Gives (entry_flat_of b s) out r left → (h : Handed) → EntryRow b s h → (h.number ≡ 0 → ⊥)
    → r ≡ refusal h
unfolding entry_flat_of
entry_refused_lem b s out left r = turned ((entry_versions s).rows b) _

entry_exactly_lem : (b : ℕ) (s out left : List ℕ) (r : SelAnswer) → Gives (entry_flat_of b s) out r left → (n : ℕ) → (n ≡ 0 → ⊥) → (n ≡ 4 → ⊥)
    → (r.number ≡ n) ↔ ((h : Handed) × EntryRow b s h × (h.number ≡ n))
unfolding entry_flat_of
entry_exactly_lem b s out left r = exactly ((entry_versions s).rows b) _

answer_refused_lem : (b : ℕ) (s out left : List ℕ) (r : SelAnswer) → Gives (get_entry_flat_of b s) out r left → (h : Handed) → AnswerRow b s h → (h.number ≡ 0 → ⊥)
    → r ≡ refusal h
unfolding get_entry_flat_of
answer_refused_lem b s out left r = turned ((answer_versions s).rows b) _

answer_exactly_lem : (b : ℕ) (s out left : List ℕ) (r : SelAnswer) → Gives (get_entry_flat_of b s) out r left → (n : ℕ) → (n ≡ 0 → ⊥) → (n ≡ 4 → ⊥)
    → (r.number ≡ n) ↔ ((h : Handed) × AnswerRow b s h × (h.number ≡ n))
unfolding get_entry_flat_of
answer_exactly_lem b s out left r = exactly ((answer_versions s).rows b) _

pub channels_15 : Channels15
channels_15 =
    record {
      versions = versions;
      wider = wider;
      entries = entry_versions;
      answers = answer_versions;
      flats = flat_versions;
      entry_refused = entry_refused_lem;
      entry_exactly = entry_exactly_lem;
      answer_refused = answer_refused_lem;
      answer_exactly = answer_exactly_lem;
    }
