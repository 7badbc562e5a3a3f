-- The walk over a capture, and the search for a slot, in numbers. Assumes nothing.
use Rattle.std.specs.Prelude.{ℕ, ◌≡◌, List, length, Option, Some, None, Result, Ok, Err}
use Rattle.field.specs.Handed.{bad_capture, no_room}
use Rattle.capture.specs.Walk.{list_after, walk_of}
use Rattle.capture.specs.declared.CaptureError.{CaptureError}
use Rattle.capture.specs.declared.Verdict.{Verdict}
use Rattle.abi.specs.declared.walk.SelFound.{SelFound}
use Rattle.abi.specs.declared.walk.SelWalk.{SelWalk}

abbrev pub found : ℕ → ℕ → SelFound
found f i = record { found = f; slot = i }

abbrev pub found_answer : Option ℕ → SelFound
found_answer (Some i) = found 1 i
found_answer None = found 0 0

abbrev pub walked : ℕ → ℕ → ℕ → ℕ → ℕ → SelWalk
walked number verdict ask read needed = record { number = number; verdict = verdict; ask = ask; read = read; needed = needed }

-- number, verdict, ask, read, needed
abbrev pub walk_answer : Result Verdict CaptureError → SelWalk
walk_answer (Ok (Verdict.Ended read)) = walked 0 0 0 read 0
walk_answer (Ok (Verdict.Missing ask read)) = walked 0 1 ask.0 read 0
walk_answer (Ok (Verdict.Spent ask read)) = walked 0 2 ask.0 read 0
walk_answer (Ok (Verdict.Circle read)) = walked 0 3 0 read 0
walk_answer (Err (CaptureError.NoRoom n)) = walked (no_room n).number 0 0 0 n
walk_answer (Err CaptureError.BadCapture) = walked bad_capture.number 0 0 0 0

-- the count that an answer carries: of the slots read, or of the places needed
abbrev pub count_of : Result Verdict CaptureError → ℕ
count_of (Ok (Verdict.Ended read)) = read
count_of (Ok (Verdict.Missing ask read)) = read
count_of (Ok (Verdict.Spent ask read)) = read
count_of (Ok (Verdict.Circle read)) = read
count_of (Err (CaptureError.NoRoom n)) = n
count_of (Err CaptureError.BadCapture) = 0

-- The promise of the walk: what it answers, and what it leaves of the lent list.
pub record Walks (s : List ℕ) (b : ℕ) (old : List ℕ) (r : SelWalk) (left : List ℕ) : Type 0 where
  pub answered : r ≡ walk_answer (walk_of s b (length old))
  pub leaves : left ≡ list_after s b old
