-- The theorem of specs/Rows.antt, from the rows of the table of numbers. Assumes nothing.
use Rattle.std.specs.Prelude.{Option, Some}
use Prim.Native.Nat.{ℕ, ◌≤◌, ◌<◌}
use mathlib.Core.Path.{◌≡◌, refl, sym, ap, ◌∙◌}
use mathlib.Core.List.{List, ◌++◌}
use mathlib.Core.Logic.{◌↔◌}
use native.Mathlib.Decide.{ℕ_discrete}
use native.Mathlib.Nat.{zero-add}
use borrow.Author.Tests.{eq-eqb, ne_eqb, le-leb, lt-leb}
use lib.Dec.{leb}
use lib.ListN.{length, drop}
use Rattle.field.specs.Handed.{Handed}
use Rattle.field.specs.Placed.{placed}
use Rattle.field.specs.Rows.{Rows}
use Rattle.field.proofs.Choices.{either}
use Rattle.connection.specs.Channel.{valid_channel}
use Rattle.answers.specs.Rows.{Row, hands_of}
use Rattle.answers.specs.declared.AnswerKind.{AnswerKind}
use Rattle.answers.proofs.Rows.{answer_rows}
use Rattle.flat_form.specs.Form.{Gives, decided, from_written, refusal, refused, said, taken}
use Rattle.flat_form.specs.declared.SelAnswer.{SelAnswer}
use Rattle.flat_form.proofs.Laws.{gives_is}
use Rattle.flat_form.proofs.Untouched.{untouched_else}
use Rattle.flat_record.specs.Records.{entry_flat_in, get_entry_flat_in}
use Rattle.flat_answers.specs.Answers.{allocation_flat, clear_flat, info_flat, reserve_flat}
use Rattle.flat.specs.Kinds.{answer_flat, flat_by, flat_of}
use Rattle.flat.specs.Letters.{kind_of}
use Rattle.flat.specs.Rows.{Asked, FlatRows}
use Rattle.flat.specs.declared.Kind.{Kind}

-- each kind of answer is decided by its own number, with flat bytes that the kind has of its bytes
unfoldable pub decides : (kind : AnswerKind) → (flat : List ℕ → List ℕ) × ((s : List ℕ) → answer_flat kind s ≡ decided (hands_of valid_channel kind s) (flat s))
unfolding entry_flat_in get_entry_flat_in info_flat allocation_flat reserve_flat clear_flat
decides AnswerKind.Entry = (_, λ s. refl)
decides AnswerKind.GetEntry = (_, λ s. refl)
decides AnswerKind.Info = (_, λ s. refl)
decides AnswerKind.Allocation = (_, λ s. refl)
decides AnswerKind.Reserve = (_, λ s. refl)
decides AnswerKind.Clear = (_, λ s. refl)

pub by_number : (letter : ℕ) {kind : AnswerKind} (s : List ℕ) → kind_of letter ≡ Some (Kind.Answer kind) → flat_of letter s ≡ decided (hands_of valid_channel kind s) ((decides kind).0 s)
by_number letter {kind} s k = ap (λ (x : Option Kind). flat_by x s) k ∙ (decides kind).1 s

pub is_refused : (h : Handed) (flat : List ℕ) → (h.number ≡ 0 → ⊥) → decided h flat ≡ refused h
unfolding decided
is_refused h flat n = rw (ne_eqb h.number 0 n)

pub is_taken : (h : Handed) (flat : List ℕ) → h.number ≡ 0 → decided h flat ≡ taken flat
unfolding decided
is_taken h flat e = rw (eq-eqb h.number 0 e)

-- flat bytes are written where there is room, and else 4 is given: so no other number is
module _ {out left : List ℕ} {r : SelAnswer} (flat : List ℕ) (g : Gives (taken flat) out r left) where
  fits : length flat ≤ length out → (r ≡ said 0 (length flat)) × (left ≡ flat ++ drop (length flat) out)
  unfolding placed
  fits h = let b = le-leb (length flat) (length out) h in (g.answered ∙ rw b, g.leaves ∙ rw (b, zero-add))

  pub too_long : length out < length flat → r ≡ said 4 (length flat)
  too_long h = g.answered ∙ rw (lt-leb (length flat) (length out) h)

  no_other_lem : (n : ℕ) → (n ≡ 0 → ⊥) → (n ≡ 4 → ⊥) → r.number ≡ n → ⊥
  no_other_lem n z f =
      rw g.answered (either (λ w. (from_written w).number ≡ n → ⊥) (leb (length flat) (length out)) _ _ (λ e. z (sym e)) (λ e. f (sym e)))

-- what is decided by a number, of which the rows are known
module _ {hands : Handed} {Row : Handed → Type 0} (rows : Rows hands Row) (flat : List ℕ) {out left : List ℕ} {r : SelAnswer} (g : Gives (decided hands flat) out r left) where
  pub turned : (h : Handed) → Row h → (h.number ≡ 0 → ⊥) → r ≡ refusal h
  turned h p n = (gives_is (ap (λ (x : Handed). decided x flat) ((rows.exactly h).1 p) ∙ is_refused h flat n) g).answered

  number : (n : ℕ) → (n ≡ 0 → ⊥) → (n ≡ 4 → ⊥) → r.number ≡ n → Dec (hands.number ≡ 0) → hands.number ≡ n
  number n z f e (yes t) = absurd (no_other_lem flat (gives_is (is_taken hands flat t) g) n z f e)
  number n z f e (no t) = ap (λ (x : SelAnswer). x.number) (sym (gives_is (is_refused hands flat t) g).answered) ∙ e

  pub exactly : (n : ℕ) → (n ≡ 0 → ⊥) → (n ≡ 4 → ⊥) → (r.number ≡ n) ↔ ((h : Handed) × Row h × (h.number ≡ n))
  exactly n z f = (
    λ e. (hands, (rows.exactly hands).0 refl, number n z f e (ℕ_discrete hands.number 0)),
    λ w. ap (λ (x : SelAnswer). x.number) (turned w.0 w.1 (λ q. z (sym w.2 ∙ q))) ∙ w.2,
  )

module _ (letter : ℕ) (kind : AnswerKind) (s out left : List ℕ) (r : SelAnswer) where
  rows : Rows (hands_of valid_channel kind s) (Row valid_channel kind s)
  rows = (answer_rows valid_channel kind s).rows

  given : Asked letter kind s out left r → Gives (decided (hands_of valid_channel kind s) ((decides kind).0 s)) out r left
  given a = gives_is (by_number letter s a.0) a.1

  pub flat_rows : FlatRows letter kind s out left r
  flat_rows =
      record {
        refused = λ a. turned rows _ (given a);
        exactly = λ a. exactly rows _ (given a);
        accepted = λ a p.
            let flat = (decides kind).0 s in
            let e = by_number letter s a.0 ∙ is_taken _ flat (ap (λ (x : Handed). x.number) ((rows.exactly _).1 p)) in
            (flat, e, fits flat (gives_is e a.1), too_long flat (gives_is e a.1));
        untouched = λ a. (untouched_else (flat_of letter s) out left r).untouched a.1;
      }
