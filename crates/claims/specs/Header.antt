-- What include/sel.h says of the library for C and Rust beside the promise of each of its functions. Assumes nothing.
use Rattle.std.specs.Prelude.{ℕ, ◌≡◌, List}
use Rattle.answers.specs.declared.AnswerKind.{AnswerKind}
use Rattle.flat_form.specs.Form.{Flat}
use Rattle.flat_form.specs.Untouched.{OneAnswer, Untouched}
use Rattle.flat_form.specs.declared.SelAnswer.{SelAnswer}
use Rattle.flat.specs.Sizes.{Sizes}
use Rattle.abi.specs.Filled.{Filled}
use Rattle.abi.specs.FromStore.{FromStore}
use Rattle.abi.specs.LengthSays.{LengthSays, SlotsSay}
use Rattle.abi.specs.Walks.{Walks}
use Rattle.abi.specs.declared.walk.SelWalk.{SelWalk}

pub record Header : Type 0 where
  -- where the number is not 0, the output is as it was; where it is 0, what stands behind the bytes written is. Two answers are one
  pub untouched : (flat : Flat) (out left : List ℕ) (r : SelAnswer) → Untouched flat out left r
  pub one : (flat : Flat) (out : List ℕ) → OneAnswer flat out
  -- the same of the slices that `sel_texts` fills, and of the list that `sel_walk` is lent
  pub unfilled : (a b c : List ℕ) (f : SelAnswer) (store starts lengths : List ℕ) → Filled a b c f store starts lengths → (f.number ≡ 0 → ⊥)
      → (store ≡ a) × (starts ≡ b) × (lengths ≡ c)
  pub unlisted : (s : List ℕ) (b : ℕ) (old left : List ℕ) (r : SelWalk) → Walks s b old r left → (r.number ≡ 0 → ⊥) → left ≡ old
  -- what `sel_length` says of a length, `sel_decode` says of every answer of it, and of its first `sel_bytes_that_count` bytes
  pub lengths : (letter : ℕ) (kind : AnswerKind) (n : ℕ) → LengthSays letter kind n
  -- what `sel_slots_length` says of a length, `sel_walk` says of every capture of it
  pub slots : (len : ℕ) → SlotsSay len
  -- how many bytes can be written
  pub sizes : Sizes
  -- `sel_texts`, and then `sel_event_text_from`, is `sel_event_text`
  pub from_store : (a b c : List ℕ) (f : SelAnswer) (store starts lengths : List ℕ) → FromStore a b c f store starts lengths
