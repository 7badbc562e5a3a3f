-- Demand 3: the walk over a capture, as the crate capture states it. Assumes nothing.
use Rattle.std.specs.Prelude.{ℕ, ◌+◌, ◌*◌, ◌≤◌, ◌<◌, ◌≡◌, List, ◌++◌, length, Result}
use Rattle.field.specs.Bits.{bytes_at, le16_at}
use Rattle.connection.specs.Channel.{valid_channel}
use Rattle.capture.specs.Asking.{Asking}
use Rattle.capture.specs.Demand.{Demand}
use Rattle.capture.specs.Listing.{Listing, Reads}
use Rattle.capture.specs.Slots.{answer_in, asked_of, count}
use Rattle.capture.specs.Unseen.{LaterSlotsDoNotMatter, RecordsDoNotMatter}
use Rattle.capture.specs.Walk.{list_after, walk_of}
use Rattle.capture.specs.Walked.{Walked}
use Rattle.capture.specs.declared.CaptureError.{CaptureError}
use Rattle.capture.specs.declared.Verdict.{Verdict}
use Rattle.claims.specs.SlotAnswer.{SlotAnswer}

-- a slot of a capture: twenty bytes, of which the first two are the asked id, and the others its answer
pub record Slot (s : List ℕ) (i : ℕ) : Type 0 where
  pub inside : i < count s → 20 * i + 20 ≤ length s
  pub asked : asked_of s i ≡ le16_at (bytes_at s (20 * i) 20) 0
  pub whole : bytes_at s (20 * i) 20 ≡ bytes_at s (20 * i) 2 ++ answer_in s i
  pub answer : SlotAnswer valid_channel s i

pub record Demand3 : Type 0 where
  -- a capture of n slots, each an asked id and its answer
  pub slots : (s : List ℕ) (n : ℕ) → length s ≡ 20 * n → count s ≡ n
  pub slot : (s : List ℕ) (i : ℕ) → Slot s i
  -- what the walk answers and leaves is what the others speak of
  pub walked : (s : List ℕ) (b : ℕ) (old left : List ℕ) (r : Result Verdict CaptureError) → Walked s b old r left
      → (r ≡ walk_of s b (length old)) × (left ≡ list_after s b old)
  -- which id is asked when, and which slot is found
  pub asks : (s : List ℕ) → Asking s
  -- ended, missing, spent, circle, each exactly when; n + 1 lookups settle it; a larger budget changes no verdict but "spent"
  pub says : (s : List ℕ) (n : ℕ) (old : List ℕ) → Demand s n old
  -- the list, and what `read` counts
  pub lists : (s : List ℕ) (b : ℕ) (old : List ℕ) → Listing s b old
  pub reads : (s : List ℕ) (b : ℕ) (old : List ℕ) → Reads s b old
  -- records do not stop it, and later slots with an id are never seen
  pub records : (s s' : List ℕ) → RecordsDoNotMatter s s'
  pub later : (s s' : List ℕ) → LaterSlotsDoNotMatter s s'
