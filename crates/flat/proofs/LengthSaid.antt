-- What is said of a length is what its answer comes to in the flat form, whatever output is lent. Assumes nothing.
use Rattle.std.specs.Prelude.{if◌then◌else◌, Option, Some, None}
use Prim.Native.Nat.{ℕ}
use mathlib.Core.Path.{◌≡◌, sym, ap, ◌∙◌}
use mathlib.Core.Bool.{Bool, true, false}
use mathlib.Core.List.{List, []}
use native.Mathlib.Omega.{arith}
use borrow.Author.Tests.{le-leb}
use lib.Dec.{eqb}
use lib.ListN.{length}
use Rattle.field.specs.Bits.{byte_at, le32_at}
use Rattle.field.specs.Handed.{Handed}
use Rattle.field.specs.Placed.{placed}
use Rattle.answers.specs.Length.{length_answer, length_hands, number_of, LengthAnswer}
use Rattle.answers.specs.declared.AnswerKind.{AnswerKind}
use Rattle.flat_form.specs.Form.{Flat, Gives, decided, flat_answer, no_question, refused, taken}
use Rattle.flat_form.specs.declared.SelAnswer.{SelAnswer}
use Rattle.flat_form.proofs.Laws.{gives_refusal}
use Rattle.flat.specs.Lengths.{length_flat, length_of, of_answer}
use Rattle.flat.specs.Letters.{kind_of}
use Rattle.flat.specs.declared.Kind.{Kind}

-- by what the answer was told to be
pub length_told : (kind : AnswerKind) (n : ℕ) {a b : LengthAnswer} → a ≡ length_answer kind n → a ≡ b
    → flat_answer (decided (number_of b) []) [] ≡ flat_answer (decided (length_hands kind n) []) []
length_told kind n d e = ap (λ (x : LengthAnswer). flat_answer (decided (number_of x) []) []) (sym e ∙ d)

-- nothing is written, whatever the output
module _ (out : List ℕ) where
  nothing : {r : SelAnswer} → r ≡ flat_answer (taken []) [] → Gives (taken []) out r out
  unfolding placed
  nothing e =
      let b = le-leb 0 (length out) (omega arith) in
      record { answered = e ∙ rw b; leaves = rw b }

  by_decided : (h : Handed) {r : SelAnswer} → r ≡ flat_answer (decided h []) [] → Gives (decided h []) out r out
  unfolding decided
  by_decided h {r} = by (eqb h.number 0)
    where
      by : (b : Bool) → r ≡ flat_answer (if b then taken [] else refused h) [] → Gives (if b then taken [] else refused h) out r out
      by true e = nothing e
      by false e = gives_refusal e

  by_letter : (letter n : ℕ) {r : SelAnswer} → r ≡ flat_answer (length_of letter n) [] → Gives (length_of letter n) out r out
  by_letter letter n {r} = by (kind_of letter)
    where
      of : Option Kind → Flat
      of kind = of_answer (λ k. decided (length_hands k n) []) no_question kind

      by : (kind : Option Kind) → r ≡ flat_answer (of kind) [] → Gives (of kind) out r out
      by (Some (Kind.Answer kind)) e = by_decided (length_hands kind n) e
      by (Some (Kind.Other question)) e = gives_refusal e
      by None e = gives_refusal e

  pub length_gives : (s : List ℕ) {r : SelAnswer} → r ≡ flat_answer (length_flat s) [] → Gives (length_flat s) out r out
  unfolding length_flat
  length_gives s {r} = by (eqb (length s) 5)
    where
      by : (b : Bool) → r ≡ flat_answer (if b then length_of (byte_at s 0) (le32_at s 1) else no_question) []
          → Gives (if b then length_of (byte_at s 0) (le32_at s 1) else no_question) out r out
      by true e = by_letter (byte_at s 0) (le32_at s 1) e
      by false e = gives_refusal e
