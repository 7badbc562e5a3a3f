-- The index of a capture's slots, in numbers. Assumes nothing.
use Rattle.std.specs.Prelude.{ℕ, ◌≡◌, not, List, [], length, if◌then◌else◌, Result, Ok, Err}
use Rattle.field.specs.Handed.{Handed, bad_capture, handed, wrong_index}
use Rattle.capture.specs.Length.{bad_length}
use Rattle.index.specs.Check.{right_index}
use Rattle.index.specs.Walk.{list_indexed, walk_indexed}
use Rattle.capture.specs.declared.Verdict.{Verdict}
use Rattle.index.specs.declared.IndexError.{IndexError}
use Rattle.index_make.specs.Add.{added_hands, added_in}
use Rattle.index_make.specs.Make.{made_hands, made_in}
use Rattle.flat_form.specs.Form.{refusal}
use Rattle.flat_form.specs.declared.SelAnswer.{SelAnswer}
use Rattle.abi.specs.Walks.{walk_answer, walked}
use Rattle.abi.specs.declared.walk.SelWalk.{SelWalk}

-- The promises of making and of adding: the number with what it carries, and what is left of each lent slice.
pub record MakesIndex (s old was : List ℕ) (r : SelAnswer) (left scratch : List ℕ) : Type 0 where
  pub answered : r ≡ refusal (made_hands s (length old) (length was))
  pub leaves : left ≡ made_in s (length old) (length was) old
  pub scratched : scratch ≡ made_in s (length old) (length was) was

pub record AddsIndex (s old : List ℕ) (r : SelAnswer) (left : List ℕ) : Type 0 where
  pub answered : r ≡ refusal (added_hands s old)
  pub leaves : left ≡ added_in s old

-- what the walk refuses of a capture and its index, whatever list is lent: 5, then 10
unfoldable pub check_hands : List ℕ → List ℕ → Handed
check_hands s x =
    if bad_length (length s) then bad_capture else
    if not (right_index s x) then wrong_index else
    handed 0 []

abbrev pub indexed_answer : Result Verdict IndexError → SelWalk
indexed_answer (Ok v) = walk_answer (Ok v)
indexed_answer (Err (IndexError.Capture e)) = walk_answer (Err e)
indexed_answer (Err IndexError.WrongIndex) = walked wrong_index.number 0 0 0 0

-- The promise of the walk with an index: what it answers, and what it leaves of the lent list.
pub record WalksIndexed (s x : List ℕ) (b : ℕ) (old : List ℕ) (r : SelWalk) (left : List ℕ) : Type 0 where
  pub answered : r ≡ indexed_answer (walk_indexed s x b (length old))
  pub leaves : left ≡ list_indexed s x b old
