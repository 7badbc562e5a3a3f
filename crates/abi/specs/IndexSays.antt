-- What the functions for an index say of each other, and what they leave: of a capture s, any index and any lent slices. Assumes nothing.
use Rattle.std.specs.Prelude.{ℕ, ◌≡◌, ◌↔◌, List, take}
use Rattle.capture.specs.Refusals.{Bad}
use Rattle.capture.specs.Slots.{count, first_slot}
use Rattle.index.specs.Find.{find_indexed}
use Rattle.index.specs.Index.{RightIndex}
use Rattle.flat_form.specs.declared.SelAnswer.{SelAnswer}
use Rattle.abi.specs.Indexes.{AddsIndex, MakesIndex, WalksIndexed, check_hands}
use Rattle.abi.specs.Walks.{Walks, found_answer}
use Rattle.abi.specs.declared.walk.SelWalk.{SelWalk}

pub record IndexSays (s : List ℕ) : Type 0 where
  -- `sel_index_check` says 5 exactly for a bad capture, then 10 exactly for what is not the right index, and else 0
  pub five : (x : List ℕ) → ((check_hands s x).number ≡ 5) ↔ Bad s
  pub ten : (x : List ℕ) → ((check_hands s x).number ≡ 10) ↔ ((Bad s → ⊥) × (RightIndex s x → ⊥))
  pub zero : (x : List ℕ) → ((check_hands s x).number ≡ 0) ↔ ((Bad s → ⊥) × RightIndex s x)
  -- where it says 0, `sel_find_indexed` is `sel_find`, and `sel_walk_indexed` is `sel_walk`
  pub finds : (x : List ℕ) → (check_hands s x).number ≡ 0 → (id : ℕ) → found_answer (find_indexed s x id) ≡ found_answer (first_slot s id)
  pub walks : (x : List ℕ) → (check_hands s x).number ≡ 0 → (b : ℕ) (old left : List ℕ) (r : SelWalk) → WalksIndexed s x b old r left → Walks s b old r left
  -- where it does not, `sel_walk_indexed` refuses by that number, whatever the budget and the list
  pub refused : (x : List ℕ) → ((check_hands s x).number ≡ 0 → ⊥) → (b : ℕ) (old left : List ℕ) (r : SelWalk) → WalksIndexed s x b old r left
      → r.number ≡ (check_hands s x).number
  -- it says 0 of what `sel_index_make` made, and of what `sel_index_add` extended
  pub made : (old was left scratch : List ℕ) (r : SelAnswer) → MakesIndex s old was r left scratch → r.number ≡ 0
      → (check_hands s (take (count s) left)).number ≡ 0
  pub added : (old left : List ℕ) (r : SelAnswer) → AddsIndex s old r left → r.number ≡ 0 → (check_hands s (take (count s) left)).number ≡ 0
  -- a refusal leaves every lent slice as it was
  pub unlisted : (x : List ℕ) (b : ℕ) (old left : List ℕ) (r : SelWalk) → WalksIndexed s x b old r left → (r.number ≡ 0 → ⊥) → left ≡ old
  pub unmade : (old was left scratch : List ℕ) (r : SelAnswer) → MakesIndex s old was r left scratch → (r.number ≡ 0 → ⊥) → (left ≡ old) × (scratch ≡ was)
  pub unadded : (old left : List ℕ) (r : SelAnswer) → AddsIndex s old r left → (r.number ≡ 0 → ⊥) → left ≡ old
