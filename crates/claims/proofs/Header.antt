-- What include/sel.h says, from the proofs of abi. Assumes nothing.
use Prim.Native.Nat.{ℕ}
use mathlib.Core.Path.{◌≡◌, ap, ◌∙◌}
use mathlib.Core.List.{List}
use lib.ListN.{length}
use Rattle.event_offset.specs.Fills.{fill_answer}
use Rattle.capture.specs.Walk.{walk_of}
use Rattle.capture.proofs.Refusals.{refusals}
use Rattle.flat_form.specs.declared.SelAnswer.{SelAnswer}
use Rattle.flat_form.proofs.Untouched.{one_answer, untouched_else}
use Rattle.flat.proofs.Sizes.{sizes}
use Rattle.abi.specs.Filled.{Filled}
use Rattle.abi.specs.Walks.{Walks}
use Rattle.abi.specs.declared.walk.SelWalk.{SelWalk}
use Rattle.abi.proofs.FromStore.{from_store_lem, number_is}
use Rattle.abi.proofs.LengthSays.{length_says, slots_say, walk_number}
use Rattle.claims.specs.Header.{Header}

unfilled : (a b c : List ℕ) (f : SelAnswer) (store starts lengths : List ℕ) → Filled a b c f store starts lengths → (f.number ≡ 0 → ⊥)
    → (store ≡ a) × (starts ≡ b) × (lengths ≡ c)
unfilled a b c f store starts lengths p z =
    p.leaves.untouched (λ n. z (ap (λ (x : SelAnswer). x.number) p.answered ∙ number_is (fill_answer (length a) (length b) (length c)) ∙ n))

unlisted : (s : List ℕ) (b : ℕ) (old left : List ℕ) (r : SelWalk) → Walks s b old r left → (r.number ≡ 0 → ⊥) → left ≡ old
unlisted s b old left r w z =
    w.leaves ∙ (refusals s b old).untouched (λ n. z (ap (λ (x : SelWalk). x.number) w.answered ∙ walk_number (walk_of s b (length old)) ∙ n))

pub header : Header
header =
    record {
      untouched = untouched_else;
      one = one_answer;
      unfilled = unfilled;
      unlisted = unlisted;
      lengths = length_says;
      slots = slots_say;
      sizes = sizes;
      from_store = from_store_lem;
    }
