-- What the writer of a whole text answers, and what it leaves in the lent output. Assumes nothing.
use Rattle.std.specs.Prelude.{ℕ, ◌≡◌, Bool, List, [], ◌∷◌, Result, Ok, Err, leb, length, if◌then◌else◌}
use Rattle.field.specs.Handed.{Handed, handed, no_room}
use Rattle.field.specs.Placed.{placed}
use Rattle.text.specs.declared.NoRoom.{NoRoom}

-- what the writer of a text answers: its length, as written, or as needed
abbrev pub Written : Type 0
Written = Result ℕ NoRoom

abbrev pub needs : ℕ → NoRoom
needs n = record { 0 = n }

-- the one test for room
abbrev pub room_for : List ℕ → List ℕ → Bool
room_for text out = leb (length text) (length out)

-- the text's length, as written, or as needed where the output is shorter
abbrev pub answer : List ℕ → List ℕ → Written
answer text out = if room_for text out then Ok (length text) else Err (needs (length text))

-- the text at the output's start and the rest as it was, or all as it was
abbrev pub after : List ℕ → List ℕ → List ℕ
after text out = if room_for text out then placed out 0 text else out

-- docs/SCOPE.md, "Numbers handed back": accepted, or 4 with the length needed
abbrev pub number_of : Written → Handed
number_of (Ok n) = handed 0 (n ∷ [])
number_of (Err e) = no_room e.0

-- The promise of a writer: what it answers, the number of that, and what it leaves of the output `out`.
pub record Wrote (text out : List ℕ) (r : Written) (left : List ℕ) : Type 0 where
  pub answered : r ≡ answer text out
  pub numbered : number_of r ≡ (if room_for text out then handed 0 (length text ∷ []) else no_room (length text))
  pub leaves : left ≡ after text out
