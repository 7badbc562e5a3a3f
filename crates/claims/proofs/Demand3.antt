-- Demand 3, from the proofs of capture. Assumes nothing.
use Prim.Native.Nat.{ℕ, ◌+◌, ◌*◌}
use mathlib.Core.Path.{◌≡◌, refl, ap, ◌∙◌}
use mathlib.Core.List.{List, ◌++◌}
use native.Mathlib.Omega.{arith}
use lib.ListN.{drop, take}
use lib.Seq.{drop-drop, take-add}
use Rattle.field.specs.Bits.{bytes_at, le16_at}
use Rattle.connection.specs.Channel.{valid_channel}
use Rattle.capture.specs.Slots.{answer_in, asked_of}
use Rattle.capture.proofs.Asking.{asking_holds}
use Rattle.capture.proofs.Demand.{demand}
use Rattle.capture.proofs.Listing.{listing, reads}
use Rattle.capture.proofs.Slots.{byte_in}
use Rattle.capture.proofs.Unseen.{later_slots_do_not_matter, records_do_not_matter}
use Rattle.claims.specs.Demand3.{Demand3, Slot}
use Rattle.claims.proofs.SlotAnswer.{slot_answer}

module _ (s : List ℕ) (i : ℕ) where
  asked : asked_of s i ≡ le16_at (bytes_at s (20 * i) 20) 0
  unfolding asked_of
  asked = rw (byte_in s (20 * i) 20 0 (20 * i) (omega arith) (omega arith), byte_in s (20 * i) 20 1 (20 * i + 1) (omega arith) refl)

  whole : bytes_at s (20 * i) 20 ≡ bytes_at s (20 * i) 2 ++ answer_in s i
  whole = take-add 2 18 (drop (20 * i) s) ∙ ap (λ (l : List ℕ). bytes_at s (20 * i) 2 ++ take 18 l) (drop-drop 2 (20 * i) s)

  slot : Slot s i
  slot = record { inside = λ h. omega arith; asked = asked; whole = whole; answer = slot_answer valid_channel s i }

pub demand_3 : Demand3
demand_3 =
    record {
      slots = λ s n e. omega arith;
      slot = slot;
      walked = λ s b old left r w. (w.answered, w.leaves);
      asks = asking_holds;
      says = demand;
      lists = listing;
      reads = reads;
      records = records_do_not_matter;
      later = later_slots_do_not_matter;
    }
