-- The bytes that count, of the flat form: an answer whose length may be read, cut to them, comes to the same. Assumes nothing.
use Rattle.std.specs.Prelude.{ℕ, ◌≡◌, List, length, take, Some, Ok}
use Rattle.answers.specs.Length.{bytes_that_count, length_answer}
use Rattle.answers.specs.declared.AnswerKind.{AnswerKind}
use Rattle.flat.specs.Kinds.{flat_of}
use Rattle.flat.specs.Letters.{kind_of}
use Rattle.flat.specs.declared.Kind.{Kind}

pub record FlatCounts (letter : ℕ) (kind : AnswerKind) (s : List ℕ) : Type 0 where
  pub same : kind_of letter ≡ Some (Kind.Answer kind) → length_answer kind (length s) ≡ Ok tt
      → flat_of letter (take (bytes_that_count kind) s) ≡ flat_of letter s
