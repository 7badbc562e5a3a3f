-- Demand 2: decoded fields, refusals, event texts and request bytes, against what the standard and the Rust say of them (docs/DIFFERENCES.md where
-- these differ). So a parser that refuses all or answers one entry, and a writer that writes nothing, meet none of it. Assumes nothing.
use Rattle.std.specs.Prelude.{ℕ, ◌≡◌, Bool, List}
use Rattle.connection.specs.Channel.{valid_channel}
use Rattle.answers.specs.Answer.{Answer}
use Rattle.answers.specs.Ported.{Ported}
use Rattle.answers.specs.RustAnswers.{as_rust, panics, rust_answer}
use Rattle.answers.specs.declared.AnswerKind.{AnswerKind}
use Rattle.flat_form.specs.declared.SelAnswer.{SelAnswer}
use Rattle.flat_record.specs.Parsed.{FlatOfParsed}
use Rattle.flat.specs.Ported.{FlatPorted}
use Rattle.record_line.specs.SameLine.{SameLine}
use Rattle.claims.specs.Fields.{Decoded}
use Rattle.promises.specs.Promises.{Promised}
use Rattle.claims.specs.Requests.{Requests}
use Rattle.claims.specs.Texts.{DataTexts, EventTexts, TimeTexts, Writes}

pub record Demand2 : Type 0 where
  pub decoded : Decoded
  pub event_texts : EventTexts
  pub data_texts : DataTexts
  pub time_texts : TimeTexts
  pub requests : Requests
  pub writes : Writes
  -- the flat bytes are those of what is parsed, whatever channels are valid, and so is the line of a record: parser, flat form and `seldump` cannot part
  pub flats : (valid : ℕ → Bool) (s : List ℕ) → FlatOfParsed valid s
  pub lines : (s : List ℕ) → SameLine s
  -- every answer of any length, read as any kind: whatever a parser says, with 1, 8 and 9 mapped back to 1 with nothing it is exactly what the Rust
  -- returns; and where the Rust panics, the port refuses
  pub answers : (kind : AnswerKind) (s : List ℕ) (r : Answer kind) → Promised kind r s → (rust_answer valid_channel kind s ≡ panics → ⊥)
      → as_rust kind r ≡ rust_answer valid_channel kind s
  pub ported : (kind : AnswerKind) (s : List ℕ) → Ported valid_channel kind s
  -- the same of `flat`, whose numbers `flat_form::ported` maps
  pub flat_ported : (letter : ℕ) (kind : AnswerKind) (s out left : List ℕ) (r : SelAnswer) → FlatPorted letter kind s out left r
