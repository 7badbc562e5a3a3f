-- The theorem of specs/Ported.antt. Assumes nothing.
use Rattle.std.specs.Prelude.{if◌then◌else◌}
use Prim.Native.Nat.{ℕ}
use mathlib.Core.Path.{◌≡◌, refl, sym, ap, ◌∙◌}
use mathlib.Core.Bool.{Bool, true, false}
use mathlib.Core.List.{List, [], ◌∷◌}
use native.Mathlib.Omega.{arith}
use borrow.Author.Tests.{eqb-true, eqb-false}
use lib.Dec.{eqb}
use Rattle.field.specs.Handed.{Handed, handed, no_reservation, not_enough_data, ported, too_long, value_of}
use Rattle.connection.specs.Channel.{valid_channel}
use Rattle.answers.specs.Answer.{answer_of}
use Rattle.answers.specs.Rows.{hands_of}
use Rattle.answers.specs.RustAnswers.{Returned, Rust, as_rust, err, ok, panics, returned_of, rust_answer}
use Rattle.answers.specs.declared.AnswerKind.{AnswerKind}
use Rattle.answers.proofs.Ported.{ported_answers}
use Rattle.answers.proofs.Rows.{answer_rows}
use Rattle.flat_form.specs.Form.{refusal}
use Rattle.flat_form.specs.declared.SelAnswer.{SelAnswer}
use Rattle.flat.specs.Ported.{FlatPorted}
use Rattle.flat.proofs.Rows.{by_number, flat_rows, is_taken}

-- what is said of a refusal is enough to map it
ported_said : (h : Handed) → refusal (ported (handed h.number (value_of h ∷ []))) ≡ refusal (ported h)
ported_said h = by (eqb h.number not_enough_data.number) (eqb h.number too_long.number) (eqb h.number no_reservation.number)
  where
    by : (a b c : Bool)
        → refusal (if a then not_enough_data else if b then not_enough_data else if c then not_enough_data else handed h.number (value_of h ∷ []))
        ≡ refusal (if a then not_enough_data else if b then not_enough_data else if c then not_enough_data else h)
    by true b c = refl
    by false true c = refl
    by false false true = refl
    by false false false = refl

-- the cases of what the Rust answers, told apart
abbrev case : {A : Type 0} → Rust A → ℕ
case (ok a) = 0
case (err h) = 1
case panics = 2

abbrev error : {A : Type 0} → Rust A → Handed
error (ok a) = not_enough_data
error (err h) = h
error panics = not_enough_data

module _ (letter : ℕ) (kind : AnswerKind) (s out left : List ℕ) (r : SelAnswer) where
  -- the port answers as the Rust, and so it refuses where the Rust does, and else not
  fate : (x : Rust (Returned kind)) → (x ≡ panics → ⊥) → rust_answer valid_channel kind s ≡ x → as_rust kind (answer_of valid_channel kind s) ≡ x
  fate x n e = (ported_answers valid_channel kind s).same (λ p. n (sym e ∙ p)) ∙ e

  turned : (h : Handed) → as_rust kind (answer_of valid_channel kind s) ≡ err h → ((hands_of valid_channel kind s).number ≡ 0 → ⊥) × (ported (hands_of valid_channel kind s) ≡ h)
  turned h e = by (eqb (hands_of valid_channel kind s).number 0) refl e
    where
      by : (b : Bool) → eqb (hands_of valid_channel kind s).number 0 ≡ b
          → (if b then ok (returned_of kind (answer_of valid_channel kind s)) else err (ported (hands_of valid_channel kind s))) ≡ err h
          → ((hands_of valid_channel kind s).number ≡ 0 → ⊥) × (ported (hands_of valid_channel kind s) ≡ h)
      by true t x = absurd (omega (arith, ap case x))
      by false t x = (eqb-false _ 0 t, ap error x)

  zero : (a : Returned kind) → as_rust kind (answer_of valid_channel kind s) ≡ ok a → (hands_of valid_channel kind s).number ≡ 0
  zero a e = by (eqb (hands_of valid_channel kind s).number 0) refl e
    where
      by : (b : Bool) → eqb (hands_of valid_channel kind s).number 0 ≡ b
          → (if b then ok (returned_of kind (answer_of valid_channel kind s)) else err (ported (hands_of valid_channel kind s))) ≡ ok a → (hands_of valid_channel kind s).number ≡ 0
      by true t x = eqb-true _ 0 t
      by false t x = absurd (omega (arith, ap case x))

  pub flat_ported_lem : FlatPorted letter kind s out left r
  flat_ported_lem =
      record {
        refused = λ q h e.
            let t = turned h (fate (err h) (λ p. omega (arith, ap case p)) e) in
            let row = ((answer_rows valid_channel kind s).rows.exactly (hands_of valid_channel kind s)).0 refl in
            rw ((flat_rows letter kind s out left r).refused q (hands_of valid_channel kind s) row t.0) (ported_said (hands_of valid_channel kind s) ∙ ap refusal t.1);
        accepted = λ q a e.
            (_, by_number letter s q.0 ∙ is_taken _ _ (zero a (fate (ok a) (λ p. omega (arith, ap case p)) e)));
      }
