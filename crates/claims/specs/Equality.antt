-- What two equal entries may differ in (docs/SCOPE.md, "What equal entries overlook"). Assumes nothing.
use Rattle.std.specs.Prelude.{ℕ, ◌≡◌, Bool, true, List, ◌↔◌, length, Ok}
use Rattle.field.specs.Bits.{Bytes}
use Rattle.connection.specs.Channel.{valid_channel}
use Rattle.sel.specs.Entry.{EntryAnswer}
use Rattle.same_entry.specs.EqualEntries.{EqualEntries, Parsed, SameSays}
use Rattle.same_entry.specs.Answer.{SameAnswer}
use Rattle.answers.specs.declared.AnswerKind.{AnswerKind}
use Rattle.abi.specs.Sames.{same_answer}
use Rattle.promises.specs.Promises.{Promised}

pub record Equality : Type 0 where
  -- the decoded fields of two entries that `Entry::parse` accepts, with the OEM bytes beside them, are equal exactly when these bytes and bits of the
  -- records agree; and the whole entries, with what they keep, exactly when the first sixteen bytes are
  pub entries : (valid : ℕ → Bool) (s t : List ℕ) (p q : EntryAnswer) → EqualEntries valid s t p q
  -- `same_entry` says so, or which of the two is refused first, and with what
  pub says : (valid : ℕ → Bool) (s t : List ℕ) (p q : EntryAnswer) (r : SameAnswer) → SameSays valid s t p q r
  -- what both start from is what `Entry::parse` promises of the bytes that it is lent
  pub parsed : (s : List ℕ) (p : EntryAnswer) → Bytes (length s) s → Promised AnswerKind.Entry p s → Parsed valid_channel s p
  -- to C its `same` is 1 exactly where it says equal, so that no refusal is taken for it
  pub same : (r : SameAnswer) → ((same_answer r).same ≡ 1) ↔ (r ≡ Ok true)
