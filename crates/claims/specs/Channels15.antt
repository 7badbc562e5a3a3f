-- Channels of IPMI 1.5, sentence by sentence. `seldump` and every other program take 2.0: their promises cite its set of valid channels, and no
-- version. Assumes nothing.
use Rattle.std.specs.Prelude.{ℕ, ◌≡◌, Bool, List, ◌↔◌}
use Rattle.field.specs.Handed.{Handed}
use Rattle.connection.specs.Versions.{Versions}
use Rattle.sel.specs.Versions.{EntryVersions, VersionedRow as EntryRow, Wider}
use Rattle.get_entry.specs.Versions.{AnswerVersions, VersionedRow as AnswerRow}
use Rattle.flat_form.specs.Form.{Gives, refusal}
use Rattle.flat_form.specs.declared.SelAnswer.{SelAnswer}
use Rattle.flat_record.specs.Records.{entry_flat_of, get_entry_flat_of}
use Rattle.flat_record.specs.Versions.{FlatVersions}

pub record Channels15 : Type 0 where
  -- in 1.5 channels 8h to Dh are reserved, in 2.0 only Ch and Dh are; the caller names the version, by 51h or 02h
  pub versions : Versions
  -- what the rules differ in is proved once, over any two sets of valid channels
  pub wider : (narrow wide : ℕ → Bool) (s : List ℕ) → Wider narrow wide s
  -- a record accepted under 1.5 is accepted under 2.0 with the same entry, and 2.0 alone accepts exactly the system records on channels 8h to Bh. The
  -- function without a version is 2.0. An unnamed version is 11, tested first, and 3 is given by the version's rule
  pub entries : (s : List ℕ) → EntryVersions s
  pub answers : (s : List ℕ) → AnswerVersions s
  -- the same of the functions for C, whose flat bytes are those of what is parsed (the field `flats` of Demand2)
  pub flats : (s : List ℕ) → FlatVersions s
  -- which refuse by the row that refuses, with what it carries, and by no number without its row
  pub entry_refused : (b : ℕ) (s out left : List ℕ) (r : SelAnswer) → Gives (entry_flat_of b s) out r left → (h : Handed) → EntryRow b s h → (h.number ≡ 0 → ⊥)
      → r ≡ refusal h
  pub entry_exactly : (b : ℕ) (s out left : List ℕ) (r : SelAnswer) → Gives (entry_flat_of b s) out r left → (n : ℕ) → (n ≡ 0 → ⊥) → (n ≡ 4 → ⊥)
      → (r.number ≡ n) ↔ ((h : Handed) × EntryRow b s h × (h.number ≡ n))
  pub answer_refused : (b : ℕ) (s out left : List ℕ) (r : SelAnswer) → Gives (get_entry_flat_of b s) out r left → (h : Handed) → AnswerRow b s h → (h.number ≡ 0 → ⊥)
      → r ≡ refusal h
  pub answer_exactly : (b : ℕ) (s out left : List ℕ) (r : SelAnswer) → Gives (get_entry_flat_of b s) out r left → (n : ℕ) → (n ≡ 0 → ⊥) → (n ≡ 4 → ⊥)
      → (r.number ≡ n) ↔ ((h : Handed) × AnswerRow b s h × (h.number ≡ n))
