-- The table of numbers (docs/SCOPE.md, "Numbers handed back") as one statement about one function: every answer of any length, asked by the letter
-- of any kind of answer, is refused by `flat` exactly where the table refuses it, by that number and with what it carries; else its flat bytes are
-- written, or 4 says how much room they need. Only what is written touches the output. Assumes nothing.
use Rattle.std.specs.Prelude.{ℕ, ◌≤◌, ◌<◌, ◌≡◌, List, [], ◌++◌, ◌↔◌, length, drop, Some}
use Rattle.field.specs.Handed.{Handed, handed}
use Rattle.connection.specs.Channel.{valid_channel}
use Rattle.answers.specs.Rows.{Row}
use Rattle.answers.specs.declared.AnswerKind.{AnswerKind}
use Rattle.flat_form.specs.Form.{Gives, refusal, said, taken}
use Rattle.flat_form.specs.declared.SelAnswer.{SelAnswer}
use Rattle.flat.specs.Kinds.{flat_of}
use Rattle.flat.specs.Letters.{kind_of}
use Rattle.flat.specs.declared.Kind.{Kind}

-- the letter names that kind of answer, and r is what is given of the bytes s
abbrev pub Asked : ℕ → AnswerKind → List ℕ → List ℕ → List ℕ → SelAnswer → Type 0
Asked letter kind s out left r = (kind_of letter ≡ Some (Kind.Answer kind)) × Gives (flat_of letter s) out r left

pub record FlatRows (letter : ℕ) (kind : AnswerKind) (s out left : List ℕ) (r : SelAnswer) : Type 0 where
  -- whichever row refuses it, its number is given, with what the row has it carry
  pub refused : Asked letter kind s out left r → (h : Handed) → Row valid_channel kind s h → (h.number ≡ 0 → ⊥) → r ≡ refusal h
  -- and no number of a refusal without its row
  pub exactly : Asked letter kind s out left r → (n : ℕ) → (n ≡ 0 → ⊥) → (n ≡ 4 → ⊥)
      → (r.number ≡ n) ↔ ((h : Handed) × Row valid_channel kind s h × (h.number ≡ n))
  -- any other answer is decoded: its flat bytes stand at the output's start and the rest is as it was; or there is no room for them
  pub accepted : Asked letter kind s out left r → Row valid_channel kind s (handed 0 [])
      → (flat : List ℕ) × (flat_of letter s ≡ taken flat)
      × (length flat ≤ length out → (r ≡ said 0 (length flat)) × (left ≡ flat ++ drop (length flat) out))
      × (length out < length flat → r ≡ said 4 (length flat))
  -- whatever number but 0 is given, the output is as it was
  pub untouched : Asked letter kind s out left r → (r.number ≡ 0 → ⊥) → left ≡ out
