-- What the functions for an index say of each other. Assumes nothing.
use Rattle.std.specs.Prelude.{Result, Ok, Err}
use Prim.Native.Nat.{ℕ}
use mathlib.Core.Path.{◌≡◌, refl, sym, ap, ◌∙◌}
use mathlib.Core.Bool.{Bool, true, false}
use mathlib.Core.List.{List}
use mathlib.Core.Logic.{⊎_elim}
use native.Mathlib.Omega.{arith}
use lib.ListN.{length, take}
use Rattle.field.proofs.Choices.{clash}
use Rattle.capture.specs.Length.{slots_answer}
use Rattle.capture.specs.Refusals.{Bad}
use Rattle.capture.specs.Slots.{count}
use Rattle.capture.specs.declared.CaptureError.{CaptureError}
use Rattle.capture.specs.declared.Verdict.{Verdict}
use Rattle.capture.proofs.Length.{Tells, tells}
use Rattle.index.specs.Check.{right_index}
use Rattle.index.specs.Index.{RightIndex}
use Rattle.index.specs.Walk.{indexed_number_of, walk_indexed}
use Rattle.index.specs.declared.IndexError.{IndexError}
use Rattle.index.proofs.Checked.{checked}
use Rattle.index.proofs.Indexed.{indexed_walk}
use Rattle.index.proofs.Lookup.{finds}
use Rattle.index_make.specs.Add.{added_hands}
use Rattle.index_make.specs.Make.{made_hands}
use Rattle.index_make.proofs.Added.{adds_index}
use Rattle.index_make.proofs.Made.{makes_index, number_is}
use Rattle.flat_form.specs.declared.SelAnswer.{SelAnswer}
use Rattle.abi.specs.IndexSays.{IndexSays}
use Rattle.abi.specs.Indexes.{WalksIndexed, check_hands, indexed_answer}
use Rattle.capture.specs.Walk.{walk_of}
use Rattle.index.specs.Refusals.{wrapped}
use Rattle.abi.specs.Walks.{found_answer, walk_answer}
use Rattle.abi.specs.declared.walk.SelWalk.{SelWalk}
use Rattle.abi.proofs.Indexing.{is_bad, is_right, is_wrong}
use Rattle.abi.proofs.LengthSays.{walk_number}

-- what the walk answers is told alike with an index
as_walked : (r : Result Verdict CaptureError) → indexed_answer (wrapped r) ≡ walk_answer r
as_walked (Ok v) = refl
as_walked (Err e) = refl

module _ (s : List ℕ) where
  module _ (x : List ℕ) where
    data Says : Type 0 where
      bad : Bad s → (check_hands s x).number ≡ 5 → Says
      wrong : (Bad s → ⊥) → (RightIndex s x → ⊥) → (check_hands s x).number ≡ 10 → Says
      right : (Bad s → ⊥) → RightIndex s x → (check_hands s x).number ≡ 0 → Says

    says : Says
    says = go (slots_answer (length s)) (tells (length s)) (right_index s x) refl
      where
        go : (a : Result Unit CaptureError) → Tells (length s) a → (b : Bool) → right_index s x ≡ b → Says
        go (Err a) (t, why, is) b e = bad why (sym (is_bad s x t))
        go (Ok u) (f, h, l) true e =
            right (⊎_elim (λ p. p h) (λ p. omega arith)) ((checked s x).exactly.0 e) (sym (is_right s x f e))
        go (Ok u) (f, h, l) false e =
            wrong (⊎_elim (λ p. p h) (λ p. omega arith)) (λ r. clash ((checked s x).exactly.1 r) e) (sym (is_wrong s x f e))

    five : (((check_hands s x).number ≡ 5) → Bad s) × (Bad s → (check_hands s x).number ≡ 5)
    five = go says
      where
        go : Says → (((check_hands s x).number ≡ 5) → Bad s) × (Bad s → (check_hands s x).number ≡ 5)
        go (bad why e) = (λ p. why, λ p. e)
        go (wrong sound r e) = (λ p. absurd (omega arith), λ p. absurd (sound p))
        go (right sound r e) = (λ p. absurd (omega arith), λ p. absurd (sound p))

    ten : (((check_hands s x).number ≡ 10) → (Bad s → ⊥) × (RightIndex s x → ⊥)) × ((Bad s → ⊥) × (RightIndex s x → ⊥) → (check_hands s x).number ≡ 10)
    ten = go says
      where
        go : Says → (((check_hands s x).number ≡ 10) → (Bad s → ⊥) × (RightIndex s x → ⊥)) × ((Bad s → ⊥) × (RightIndex s x → ⊥) → (check_hands s x).number ≡ 10)
        go (bad why e) = (λ p. absurd (omega arith), λ p. absurd (p.0 why))
        go (wrong sound r e) = (λ p. (sound, r), λ p. e)
        go (right sound r e) = (λ p. absurd (omega arith), λ p. absurd (p.1 r))

    zero : (((check_hands s x).number ≡ 0) → (Bad s → ⊥) × RightIndex s x) × ((Bad s → ⊥) × RightIndex s x → (check_hands s x).number ≡ 0)
    zero = go says
      where
        go : Says → (((check_hands s x).number ≡ 0) → (Bad s → ⊥) × RightIndex s x) × ((Bad s → ⊥) × RightIndex s x → (check_hands s x).number ≡ 0)
        go (bad why e) = (λ p. absurd (omega arith), λ p. absurd (p.0 why))
        go (wrong sound r e) = (λ p. absurd (omega arith), λ p. absurd (r p.1))
        go (right sound r e) = (λ p. (sound, r), λ p. e)

    -- the number of what the walk with it answers
    indexed_number : (v : Result Verdict IndexError) → (indexed_answer v).number ≡ (indexed_number_of v).number
    indexed_number (Ok v) = walk_number (Ok v)
    indexed_number (Err (IndexError.Capture e)) = walk_number (Err e)
    indexed_number (Err IndexError.WrongIndex) = refl

    module _ (b : ℕ) (old : List ℕ) {left : List ℕ} {r : SelWalk} (w : WalksIndexed s x b old r left) where
      number : r.number ≡ (indexed_number_of (walk_indexed s x b (length old))).number
      number = ap (λ (y : SelWalk). y.number) w.answered ∙ indexed_number (walk_indexed s x b (length old))

      refused : ((check_hands s x).number ≡ 0 → ⊥) → r.number ≡ (check_hands s x).number
      refused n = go says
        where
          go : Says → r.number ≡ (check_hands s x).number
          go (bad why e) = number ∙ number_is ((indexed_walk s x b old).five.1 why) ∙ sym e
          go (wrong sound q e) = number ∙ number_is ((indexed_walk s x b old).ten.1 (sound, q)) ∙ sym e
          go (right sound q e) = absurd (n e)

  -- what was made is of a capture that is not bad
  made_sound : (old was : List ℕ) → (made_hands s (length old) (length was)).number ≡ 0 → Bad s → ⊥
  made_sound old was n b = omega (arith, n, number_is ((makes_index s old was).five.1 b))

  added_sound : (old : List ℕ) → (added_hands s old).number ≡ 0 → Bad s → ⊥
  added_sound old n b = omega (arith, n, number_is ((adds_index s old).five.1 b))

  pub index_says : IndexSays s
  index_says = record {
    five = five;
    ten = ten;
    zero = zero;
    finds = λ x z id. ap found_answer ((finds s x id refl).accepted ((checked s x).exactly.1 ((zero x).0 z).1));
    walks = λ x z b old left r w.
        let i = indexed_walk s x b old in
        let q = ((zero x).0 z).1 in
        record { answered = w.answered ∙ ap indexed_answer (i.same q) ∙ as_walked (walk_of s b (length old)); leaves = w.leaves ∙ i.leaves q };
    refused = λ x n b old left r w. refused x b old w n;
    made = λ old was left scratch r m z.
        let t = makes_index s old was in
        let n = sym (ap (λ (y : SelAnswer). y.number) m.answered) ∙ z in
        (zero (take (count s) left)).1 (made_sound old was n, rw m.leaves (t.right n));
    added = λ old left r m z.
        let t = adds_index s old in
        let n = sym (ap (λ (y : SelAnswer). y.number) m.answered) ∙ z in
        (zero (take (count s) left)).1 (added_sound old n, rw m.leaves (t.right n));
    unlisted = λ x b old left r w n. w.leaves ∙ (indexed_walk s x b old).untouched (λ z. n (number x b old w ∙ z));
    unmade = λ old was left scratch r m n.
        let u = (makes_index s old was).untouched (λ z. n (ap (λ (y : SelAnswer). y.number) m.answered ∙ z)) in
        (m.leaves ∙ u.0, m.scratched ∙ u.1);
    unadded = λ old left r m n. m.leaves ∙ (adds_index s old).untouched (λ z. n (ap (λ (y : SelAnswer). y.number) m.answered ∙ z));
  }
