-- The theorems of specs/LengthSays.antt: what is said of a length is the answer of `length_answer`. Assumes nothing.
use Rattle.std.specs.Prelude.{Option, Some, Result, Ok, Err}
use Prim.Native.Nat.{ℕ, ◌≤◌, ◌<◌}
use mathlib.Core.Path.{◌≡◌, refl, sym, ap, subst, ◌∙◌}
use mathlib.Core.Bool.{Bool, true, false}
use mathlib.Core.List.{List, []}
use mathlib.Core.Logic.{◌↔◌, ◌⊎◌, inl, inr}
use native.Mathlib.Omega.{arith}
use lib.ListN.{length}
use Rattle.field.specs.Bits.{Bytes}
use Rattle.field.specs.Handed.{Handed, short, too_long}
use Rattle.connection.specs.Channel.{valid_channel}
use Rattle.answers.specs.Length.{LengthAnswer, bytes_that_count, length_answer, length_hands, no_longer, number_of}
use Rattle.answers.specs.Rows.{hands_of}
use Rattle.answers.specs.declared.AnswerKind.{AnswerKind}
use Rattle.answers.proofs.BytesThatCount.{bytes_that_count_lem, enough}
use Rattle.answers.proofs.Length as Length
use Rattle.answers.proofs.Length.{Told, told}
use Rattle.answers.proofs.LengthDecides.{decides}
use Rattle.answers.proofs.Rows.{answer_rows}
use Rattle.capture.specs.Length.{bad_length, slots_answer, slots_hands}
use Rattle.capture.specs.Walk.{walk_of}
use Rattle.capture.specs.Walked.{number_of as walked_number}
use Rattle.capture.specs.declared.CaptureError.{CaptureError}
use Rattle.capture.specs.declared.Verdict.{Verdict}
use Rattle.capture.proofs.SlotsLength.{slots_length}
use Rattle.flat_form.specs.Form.{Gives, decided, flat_answer, no_question, refusal, said, taken}
use Rattle.flat_form.specs.declared.SelAnswer.{SelAnswer}
use Rattle.flat.specs.Kinds.{flat_of}
use Rattle.flat.specs.Lengths.{length_said, of_answer}
use Rattle.flat.specs.Letters.{kind_of}
use Rattle.flat.specs.declared.Kind.{Kind}
use Rattle.flat.proofs.Counts.{flat_counts}
use Rattle.flat.proofs.Rows.{by_number, flat_rows, is_taken}
use Rattle.abi.specs.LengthSays.{LengthSays, SlotsSay}
use Rattle.abi.specs.Questions.{letter_bytes}
use Rattle.abi.specs.Walks.{Walks, walk_answer}
use Rattle.abi.specs.declared.walk.SelWalk.{SelWalk}

-- what is said of a length: 1 with the length needed, 8, or 0
data Spoken (kind : AnswerKind) (n : ℕ) : SelAnswer → Type 0 where
  one : n < bytes_that_count kind → ((s : List ℕ) → Bytes n s → hands_of valid_channel kind s ≡ short (bytes_that_count kind)) → Spoken kind n (said 1 (bytes_that_count kind))
  eight : kind ≡ AnswerKind.Info → bytes_that_count kind < n → ((s : List ℕ) → Bytes n s → hands_of valid_channel kind s ≡ too_long) → Spoken kind n (said 8 0)
  zero : bytes_that_count kind ≤ n → (kind ≡ AnswerKind.Info → n ≡ bytes_that_count kind) → length_answer kind n ≡ Ok tt → Spoken kind n (said 0 0)

differ : {a b : SelAnswer} → a ≡ b → (a.number ≡ b.number → ⊥) → ⊥
differ e f = f (ap (λ (x : SelAnswer). x.number) e)

module _ (letter : ℕ) (kind : AnswerKind) (n : ℕ) (names : kind_of letter ≡ Some (Kind.Answer kind)) where
  said_is : length_said letter n ≡ flat_answer (decided (length_hands kind n) []) []
  said_is = ap (λ (k : Option Kind). flat_answer (of_answer (λ x. decided (length_hands x n) []) no_question k) []) names

  bytes_are : letter_bytes letter ≡ bytes_that_count kind
  bytes_are = ap (of_answer bytes_that_count 0) names

  -- an answer with the number 0 is taken
  accepted : (s : List ℕ) → (hands_of valid_channel kind s).number ≡ 0 → (flat : List ℕ) × (flat_of letter s ≡ taken flat)
  accepted s z = (_, by_number letter s names ∙ is_taken _ _ z)

  -- what every answer of that length hands back, `flat` says of each
  all : (h : Handed) → (h.number ≡ 0 → ⊥) → ((s : List ℕ) → Bytes n s → hands_of valid_channel kind s ≡ h)
      → (s out left : List ℕ) (r : SelAnswer) → Bytes n s → Gives (flat_of letter s) out r left → r ≡ refusal h
  all h z f s out left r b g = (flat_rows letter kind s out left r).refused (names, g) h (((answer_rows valid_channel kind s).rows.exactly h).0 (f s b)) z

  is : {a : LengthAnswer} → length_answer kind n ≡ a → length_said letter n ≡ flat_answer (decided (number_of a) []) []
  is e = said_is ∙ ap (λ (a : LengthAnswer). flat_answer (decided (number_of a) []) []) e

  spoken : (a : SelAnswer) × (length_said letter n ≡ a) × Spoken kind n a
  unfolding decided
  spoken = by (told kind n).0 (told kind n).1 (told kind n).2
    where
      by : (a : LengthAnswer) → length_answer kind n ≡ a → Told kind n a → (a : SelAnswer) × (length_said letter n ≡ a) × Spoken kind n a
      by _ e (Length.short h) = (_, is e, one h ((decides valid_channel kind n).too_short.0 e))
      by _ e (Length.long t h) = (_, is e, eight ((decides valid_channel kind n).over.0 e).0 h ((decides valid_channel kind n).too_long.0 e))
      by _ e (Length.read l x) = (_, is e, zero l (λ i. x (ap no_longer i)) e)

  -- of what is said, case by case
  by_case : (P : SelAnswer → Type 0) → (n < bytes_that_count kind → ((s : List ℕ) → Bytes n s → hands_of valid_channel kind s ≡ short (bytes_that_count kind)) → P (said 1 (bytes_that_count kind)))
      → (kind ≡ AnswerKind.Info → bytes_that_count kind < n → ((s : List ℕ) → Bytes n s → hands_of valid_channel kind s ≡ too_long) → P (said 8 0))
      → (bytes_that_count kind ≤ n → (kind ≡ AnswerKind.Info → n ≡ bytes_that_count kind) → length_answer kind n ≡ Ok tt → P (said 0 0))
      → P (length_said letter n)
  by_case P p1 p8 p0 = subst P (sym spoken.1) (by spoken.0 spoken.2)
    where
      by : (a : SelAnswer) → Spoken kind n a → P a
      by _ (one h f) = p1 h f
      by _ (eight i h f) = p8 i h f
      by _ (zero h x e) = p0 h x e

pub length_says : (letter : ℕ) (kind : AnswerKind) (n : ℕ) → LengthSays letter kind n
length_says letter kind n = record {
  refused = λ names.
      by_case letter kind n names (λ a. (a.number ≡ 0 → ⊥) → (s out left : List ℕ) (r : SelAnswer) → Bytes n s → Gives (flat_of letter s) out r left → r ≡ a)
      (λ h f z. all letter kind n names (short (bytes_that_count kind)) z f)
      (λ i h f z. all letter kind n names too_long z f)
      (λ h x e z. absurd (z refl));
  short = λ names. rw (bytes_are letter kind n names)
      (by_case letter kind n names (λ a. (a ≡ said 1 (bytes_that_count kind)) ↔ (n < bytes_that_count kind))
      (λ h f. (λ p. h, λ p. refl))
      (λ i h f. (λ p. absurd (differ p (λ y. omega (arith, y))), λ p. absurd (omega arith)))
      (λ h x e. (λ p. absurd (differ p (λ y. omega (arith, y))), λ p. absurd (omega arith))));
  long = λ names. rw (bytes_are letter kind n names)
      (by_case letter kind n names (λ a. (a ≡ said 8 0) ↔ ((kind ≡ AnswerKind.Info) × (bytes_that_count kind < n)))
      (λ h f. (λ p. absurd (differ p (λ y. omega (arith, y))), λ p. absurd (omega (arith, p.1))))
      (λ i h f. (λ p. (i, h), λ p. refl))
      (λ h x e. (λ p. absurd (differ p (λ y. omega (arith, y))), λ p. absurd (omega (arith, x p.0, p.1)))));
  two = λ names. rw (bytes_are letter kind n names)
      (by_case letter kind n names (λ a. (a.number ≡ 0 → ⊥) → (a ≡ said 1 (bytes_that_count kind)) ⊎ (a ≡ said 8 0))
      (λ h f z. inl refl)
      (λ i h f z. inr refl)
      (λ h x e z. absurd (z refl)));
  readable = λ names z.
      let e = read letter kind n names z in
      let d = (decides valid_channel kind n).readable e.1 in
      (e.0, (d.0, d.1, accepted letter kind n names d.0 d.2));
  there = λ names z. rw (bytes_are letter kind n names) (enough kind n (read letter kind n names z).1);
  few = λ names. rw (bytes_are letter kind n names) (bytes_that_count_lem valid_channel kind []).few;
  cut = λ names z s e. rw (bytes_are letter kind n names) ((flat_counts letter kind s).same names (rw e (read letter kind n names z).1));
}
  where
    read : (letter : ℕ) (kind : AnswerKind) (n : ℕ) → kind_of letter ≡ Some (Kind.Answer kind) → (length_said letter n).number ≡ 0
        → (length_said letter n ≡ said 0 0) × (length_answer kind n ≡ Ok tt)
    read letter kind n names =
        by_case letter kind n names (λ a. a.number ≡ 0 → (a ≡ said 0 0) × (length_answer kind n ≡ Ok tt))
        (λ h f z. absurd (omega (arith, z)))
        (λ i h f z. absurd (omega (arith, z)))
        (λ h x e z. (refl, e))

-- the walk's number, in both forms of its answer
pub walk_number : (v : Result Verdict CaptureError) → (walk_answer v).number ≡ (walked_number v).number
walk_number (Ok (Verdict.Ended read)) = refl
walk_number (Ok (Verdict.Missing ask read)) = refl
walk_number (Ok (Verdict.Spent ask read)) = refl
walk_number (Ok (Verdict.Circle read)) = refl
walk_number (Err (CaptureError.NoRoom n)) = refl
walk_number (Err CaptureError.BadCapture) = refl

module _ (len : ℕ) where
  slots_told : (b : Bool) → bad_length len ≡ b → (slots_hands len).number ≡ 5 → slots_answer len ≡ Err CaptureError.BadCapture
  unfolding slots_answer
  slots_told true e z = rw e
  slots_told false e z = absurd (omega (arith, rw e at z))

  slots_else : (b : Bool) → bad_length len ≡ b → ((slots_hands len).number ≡ 5 → ⊥) → ((slots_hands len).number ≡ 0) × (slots_answer len ≡ Ok tt)
  unfolding slots_answer
  slots_else true e z = absurd (z (rw e))
  slots_else false e z = (rw e, rw e)

  walk_says : (s : List ℕ) (b : ℕ) (old left : List ℕ) (r : SelWalk) → Walks s b old r left → r.number ≡ (walked_number (walk_of s b (length old))).number
  walk_says s b old left r w = ap (λ (x : SelWalk). x.number) w.answered ∙ walk_number (walk_of s b (length old))

  pub slots_say : SlotsSay len
  slots_say = record {
    refused = λ z s e b old left r w. walk_says s b old left r w ∙ (slots_length len).bad.0 (slots_told (bad_length len) refl z) s e b old;
    walked = λ z.
        let f = slots_else (bad_length len) refl z in
        (f.0, λ s e b old left r w room. walk_says s b old left r w ∙ (slots_length len).walked f.1 s e b old room);
  }
