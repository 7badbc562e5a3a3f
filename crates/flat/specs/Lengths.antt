-- What a letter and a length decide (docs/SCOPE.md, "The flat form"): before there is a byte of the answer. Assumes nothing.
use Rattle.std.specs.Prelude.{ℕ, List, [], eqb, length, if◌then◌else◌, Option, Some, None}
use Rattle.field.specs.Bits.{byte_at, le32_at}
use Rattle.answers.specs.Length.{length_hands}
use Rattle.answers.specs.declared.AnswerKind.{AnswerKind}
use Rattle.flat_form.specs.Form.{Flat, decided, flat_answer, no_question}
use Rattle.flat_form.specs.declared.SelAnswer.{SelAnswer}
use Rattle.flat.specs.Letters.{kind_of}
use Rattle.flat.specs.declared.Kind.{Kind}

-- what belongs to the kind of answer that a letter names; `none` where it names no answer
abbrev pub of_answer : {A : Type 0} → (AnswerKind → A) → A → Option Kind → A
of_answer of none (Some (Kind.Answer kind)) = of kind
of_answer of none (Some (Kind.Other question)) = none
of_answer of none None = none

-- nothing, where an answer of that length may be read, or the refusal of all of them
abbrev pub length_of : ℕ → ℕ → Flat
length_of letter n = of_answer (λ kind. decided (length_hands kind n) []) no_question (kind_of letter)

-- which is said whatever output is lent
abbrev pub length_said : ℕ → ℕ → SelAnswer
length_said letter n = flat_answer (length_of letter n) []

-- as a question: the letter, and the length in four bytes
unfoldable pub length_flat : List ℕ → Flat
length_flat s = if eqb (length s) 5 then length_of (byte_at s 0) (le32_at s 1) else no_question
