-- The index of a capture's slots, in numbers. Assumes nothing.
use Rattle.std.specs.Prelude.{Result}
use Prim.Native.Nat.{ℕ, ◌≤◌}
use mathlib.Core.Path.{◌≡◌, sym, ap, subst, ◌∙◌}
use mathlib.Core.Bool.{true, false}
use mathlib.Core.List.{List}
use lib.ListN.{length}
use Rattle.capture.specs.Length.{bad_length}
use Rattle.capture.specs.declared.Verdict.{Verdict}
use Rattle.index.specs.Check.{right_index}
use Rattle.index.specs.Walk.{WalkedIndexed}
use Rattle.index.specs.Refusals.{wrapped}
use Rattle.index.specs.declared.IndexError.{IndexError}
use Rattle.capture.specs.declared.CaptureError.{CaptureError}
use Rattle.index.proofs.Indexed.{indexed_walk}
use Rattle.index_make.specs.Add.{IndexAdded, added_number_of}
use Rattle.index_make.specs.Make.{IndexMade, made_number_of}
use Rattle.flat_form.specs.Form.{refusal}
use Rattle.flat_form.specs.declared.SelAnswer.{SelAnswer}
use Rattle.abi.specs.Indexes.{AddsIndex, MakesIndex, WalksIndexed, check_hands, indexed_answer}
use Rattle.abi.specs.Walks.{count_of}
use Rattle.abi.specs.declared.walk.SelWalk.{SelWalk}
use Rattle.abi.proofs.Walking.{count_few}

-- the answer of making, and of adding, by what was told apart
pub makes : {s old was : List ℕ} {m w : Result ℕ CaptureError} {left scratch : List ℕ} → IndexMade s old was m left scratch → m ≡ w
    → {r : SelAnswer} → r ≡ refusal (made_number_of w) → MakesIndex s old was r left scratch
makes p e q = record { answered = q ∙ ap (λ (x : Result ℕ CaptureError). refusal (made_number_of x)) (sym e) ∙ ap refusal p.numbered; leaves = p.leaves; scratched = p.scratched }

pub adds : {s old : List ℕ} {m w : Result ℕ IndexError} {left : List ℕ} → IndexAdded s old m left → m ≡ w
    → {r : SelAnswer} → r ≡ refusal (added_number_of w) → AddsIndex s old r left
adds p e q = record { answered = q ∙ ap (λ (x : Result ℕ IndexError). refusal (added_number_of x)) (sym e) ∙ ap refusal p.numbered; leaves = p.leaves }

-- the two tests
module _ (s x : List ℕ) where
  pub is_bad : bad_length (length s) ≡ true → 5 ≡ (check_hands s x).number
  unfolding check_hands
  is_bad t = rw t

  module _ (f : bad_length (length s) ≡ false) where
    pub is_right : right_index s x ≡ true → 0 ≡ (check_hands s x).number
    unfolding check_hands
    is_right t = rw (f, t)

    pub is_wrong : right_index s x ≡ false → 10 ≡ (check_hands s x).number
    unfolding check_hands
    is_wrong e = rw (f, e)

-- a verdict with an index is the walk's, and what it counts is few
module _ (s x : List ℕ) (b : ℕ) (old : List ℕ) {v : Result Verdict IndexError} {left : List ℕ} (p : WalkedIndexed s x b old v left) where
  pub counted_few : (w : Result Verdict CaptureError) → v ≡ wrapped w → count_of w ≤ 3000
  counted_few w e = subst (λ (y : Result Verdict CaptureError). count_of y ≤ 3000) (sym ((indexed_walk s x b old).verdicts w (sym p.answered ∙ e))) (count_few s b old)

  pub walks_indexed : {w : Result Verdict IndexError} → v ≡ w → {r : SelWalk} → r ≡ indexed_answer w → WalksIndexed s x b old r left
  walks_indexed e q = record { answered = q ∙ ap indexed_answer (sym e ∙ p.answered); leaves = p.leaves }
