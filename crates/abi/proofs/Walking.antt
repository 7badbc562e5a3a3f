-- The walk and the search for a slot, in numbers: what they carry fits 32 bits. Assumes nothing.
use Rattle.std.specs.Prelude.{Result, Ok}
use Prim.Native.Nat.{ℕ, ◌≤◌}
use mathlib.Core.Path.{◌≡◌, refl, sym, ap, ◌∙◌}
use mathlib.Core.List.{List}
use mathlib.Core.Logic.{inr}
use native.Mathlib.Decide.{dec_le}
use native.Mathlib.Omega.{arith}
use lib.ListN.{length}
use Rattle.capture.specs.Listing.{read_of}
use Rattle.capture.specs.Refusals.{Bad}
use Rattle.capture.specs.Slots.{count}
use Rattle.capture.specs.Walk.{verdict, walk_of}
use Rattle.capture.specs.Walked.{Walked}
use Rattle.capture.specs.declared.CaptureError.{CaptureError}
use Rattle.capture.specs.declared.Verdict.{Verdict}
use Rattle.capture.proofs.Answer.{Answer, bad, short, goes, answer}
use Rattle.capture.proofs.Listing.{few}
use Rattle.capture.proofs.Ran.{counted}
use Rattle.capture.proofs.Tested.{one_of_four}
use Rattle.abi.specs.Walks.{Walks, count_of, walk_answer}
use Rattle.abi.specs.declared.walk.SelWalk.{SelWalk}

module _ (s : List ℕ) (b : ℕ) (old : List ℕ) where
  -- a verdict counts what was read
  counts : count_of (Ok (verdict s b)) ≡ read_of (Ok (verdict s b))
  counts = one_of_four (λ v. count_of (Ok v) ≡ read_of (Ok v)) (λ r. refl) (λ a r. refl) (λ a r. refl) (λ r. refl) s b

  slots_few : (Bad s → ⊥) → count s ≤ 3000
  slots_few fine = by (dec_le (length s) 60000)
    where
      by : Dec (length s ≤ 60000) → count s ≤ 3000
      by (yes h) = omega arith
      by (no h) = absurd (fine (inr (omega arith)))

  pub count_few : count_of (walk_of s b (length old)) ≤ 3000
  count_few = by (answer s b old)
    where
      by : Answer s b old → count_of (walk_of s b (length old)) ≤ 3000
      by (bad why e l) = let z = ap count_of e in omega (arith, z)
      by (short fine r e l) = let z = ap count_of e in omega (arith, z, slots_few fine)
      by (goes fine r e l) =
          let z = ap count_of e ∙ counts ∙ sym (counted s b) in
          omega (arith, z, few s b, slots_few fine)

  pub counted_few : {v : Result Verdict CaptureError} {left : List ℕ} → Walked s b old v left → count_of v ≤ 3000
  counted_few p = rw p.answered count_few

  pub walks : {v : Result Verdict CaptureError} {left : List ℕ} → Walked s b old v left → {r : SelWalk} → r ≡ walk_answer v → Walks s b old r left
  walks p e =
      record {
        answered = e ∙ ap walk_answer p.answered;
        leaves = p.leaves;
      }
