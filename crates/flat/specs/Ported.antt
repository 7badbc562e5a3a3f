-- What `flat` says of an answer, mapped back by `flat_form::ported`, is what the Rust says of it. Assumes nothing.
use Rattle.std.specs.Prelude.{ℕ, ◌≡◌, List, [], ◌∷◌}
use Rattle.field.specs.Handed.{Handed, handed, ported}
use Rattle.connection.specs.Channel.{valid_channel}
use Rattle.answers.specs.RustAnswers.{Returned, err, ok, rust_answer}
use Rattle.answers.specs.declared.AnswerKind.{AnswerKind}
use Rattle.flat_form.specs.Form.{refusal, taken}
use Rattle.flat_form.specs.declared.SelAnswer.{SelAnswer}
use Rattle.flat.specs.Kinds.{flat_of}
use Rattle.flat.specs.Rows.{Asked}

pub record FlatPorted (letter : ℕ) (kind : AnswerKind) (s out left : List ℕ) (r : SelAnswer) : Type 0 where
  -- where the Rust has an error, it is that error, with what it carries
  pub refused : Asked letter kind s out left r → (h : Handed) → rust_answer valid_channel kind s ≡ err h
      → refusal (ported (handed r.number (r.value ∷ []))) ≡ refusal h
  -- where the Rust decodes the answer, it comes to flat bytes: by the theorem `FlatOfParsed` of flat_record, of a record to those of what was parsed
  pub accepted : Asked letter kind s out left r → (a : Returned kind) → rust_answer valid_channel kind s ≡ ok a
      → (flat : List ℕ) × (flat_of letter s ≡ taken flat)
