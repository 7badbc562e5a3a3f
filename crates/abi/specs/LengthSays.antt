-- What `sel_length` says of a length is what `sel_decode` then says of every answer of that length, and of its first `sel_bytes_that_count` bytes;
-- what `sel_slots_length` says of one is what `sel_walk` then says. Assumes nothing.
use Rattle.std.specs.Prelude.{ℕ, ◌≤◌, ◌<◌, ◌≡◌, List, ◌↔◌, ◌⊎◌, length, take, Some}
use Rattle.field.specs.Bits.{Bytes}
use Rattle.answers.specs.declared.AnswerKind.{AnswerKind}
use Rattle.capture.specs.Length.{slots_hands}
use Rattle.capture.specs.Slots.{count}
use Rattle.flat_form.specs.Form.{Gives, said, taken}
use Rattle.flat_form.specs.declared.SelAnswer.{SelAnswer}
use Rattle.flat.specs.Kinds.{flat_of}
use Rattle.flat.specs.Lengths.{length_said}
use Rattle.flat.specs.Letters.{kind_of}
use Rattle.flat.specs.declared.Kind.{Kind}
use Rattle.abi.specs.Questions.{letter_bytes}
use Rattle.abi.specs.Walks.{Walks}
use Rattle.abi.specs.declared.walk.SelWalk.{SelWalk}

-- of a letter that names the kind of answer
pub record LengthSays (letter : ℕ) (kind : AnswerKind) (n : ℕ) : Type 0 where
  -- where it says a number other than 0, every answer of that length is refused by that number, with what it carries, whatever output is lent
  pub refused : kind_of letter ≡ Some (Kind.Answer kind) → ((length_said letter n).number ≡ 0 → ⊥) → (s out left : List ℕ) (r : SelAnswer) → Bytes n s
      → Gives (flat_of letter s) out r left → r ≡ length_said letter n
  -- which is 1, with the length that the kind needs, exactly for a shorter one, and 8 exactly for a longer info answer
  pub short : kind_of letter ≡ Some (Kind.Answer kind) → (length_said letter n ≡ said 1 (letter_bytes letter)) ↔ (n < letter_bytes letter)
  pub long : kind_of letter ≡ Some (Kind.Answer kind) → (length_said letter n ≡ said 8 0) ↔ ((kind ≡ AnswerKind.Info) × (letter_bytes letter < n))
  pub two : kind_of letter ≡ Some (Kind.Answer kind) → ((length_said letter n).number ≡ 0 → ⊥) → (length_said letter n ≡ said 1 (letter_bytes letter)) ⊎ (length_said letter n ≡ said 8 0)
  -- where it says 0, some answer of that length is accepted
  pub readable : kind_of letter ≡ Some (Kind.Answer kind) → (length_said letter n).number ≡ 0
      → (length_said letter n ≡ said 0 0) × ((s : List ℕ) × Bytes n s × ((flat : List ℕ) × (flat_of letter s ≡ taken flat)))
  -- it then has the bytes that count, at most 18, and these alone come to the same: so `sel_decode` answers and writes the same of them
  pub there : kind_of letter ≡ Some (Kind.Answer kind) → (length_said letter n).number ≡ 0 → letter_bytes letter ≤ n
  pub few : kind_of letter ≡ Some (Kind.Answer kind) → letter_bytes letter ≤ 18
  pub cut : kind_of letter ≡ Some (Kind.Answer kind) → (length_said letter n).number ≡ 0 → (s : List ℕ) → length s ≡ n
      → flat_of letter (take (letter_bytes letter) s) ≡ flat_of letter s

pub record SlotsSay (len : ℕ) : Type 0 where
  -- where it says 5, every capture of that length is refused with 5, whatever the budget and the list
  pub refused : (slots_hands len).number ≡ 5 → (s : List ℕ) → length s ≡ len → (b : ℕ) (old left : List ℕ) (r : SelWalk) → Walks s b old r left → r.number ≡ 5
  -- else it says 0, and with a place for each slot every one is walked
  pub walked : ((slots_hands len).number ≡ 5 → ⊥)
      → ((slots_hands len).number ≡ 0)
      × ((s : List ℕ) → length s ≡ len → (b : ℕ) (old left : List ℕ) (r : SelWalk) → Walks s b old r left → count s ≤ length old → r.number ≡ 0)
