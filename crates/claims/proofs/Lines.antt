-- The lines of an input that lead: they are good, the one after them is not, and there are no more. Assumes nothing.
use Rattle.std.specs.Prelude.{Result}
use Prim.Native.Nat.{ℕ, zero, suc, ◌≤◌, ◌<◌}
use mathlib.Core.Path.{◌≡◌, refl, sym, ap, ◌∙◌}
use mathlib.Core.Bool.{Bool, true, false}
use mathlib.Core.List.{List, [], ◌∷◌}
use mathlib.Core.Logic.{◌↔◌}
use native.Mathlib.Omega.{arith}
use native.Mathlib.Decide.{dec_le}
use borrow.Author.Tests.{lt-ltb, le-ltb}
use lib.ListN.{length, get_or}
use Rattle.field.specs.Handed.{Answers, Handed, handed}
use Rattle.field.proofs.Choices.{clash}
use Rattle.slot_line.specs.Input.{input_hands, judge_input, leading, line_form, lines, number_of}
use Rattle.slot_line.specs.Line.{fits}
use Rattle.slot_line.specs.declared.InputError.{InputError}
use Rattle.slot_line.proofs.Forms.{unlike}
use Rattle.claims.specs.Demand1.{AllGood, FirstBad, OneTooMany}

abbrev good : List (List ℕ) → ℕ → Bool
good ls j = fits line_form (get_or ls j [])

abbrev lead : List ℕ → ℕ
lead input = leading (lines input)

-- where the first line is good, one more leads than in the rest, and where it is bad, none
lead_good : (l : List ℕ) (ls : List (List ℕ)) → fits line_form l ≡ true → leading (l ∷ ls) ≡ suc (leading ls)
unfolding leading
lead_good l ls e = rw e

lead_bad : (l : List ℕ) (ls : List (List ℕ)) → fits line_form l ≡ false → leading (l ∷ ls) ≡ 0
unfolding leading
lead_bad l ls e = rw e

no_lines : leading [] ≡ 0
unfolding leading
no_lines = refl

-- those that lead are good
leads : (ls : List (List ℕ)) (j : ℕ) → j < leading ls → good ls j ≡ true
leads [] j h = absurd (omega (arith, no_lines))
leads (l ∷ ls) j h = by (fits line_form l) refl j h (λ j. leads ls j)
  where
    by : (b : Bool) → fits line_form l ≡ b → (j : ℕ) → j < leading (l ∷ ls) → ((j : ℕ) → j < leading ls → good ls j ≡ true) → good (l ∷ ls) j ≡ true
    by true e zero m rest = e
    by true e (suc j) m rest = rest j (omega (arith, lead_good l ls e))
    by false e j m rest = absurd (omega (arith, lead_bad l ls e))

-- and none other follows
follows : (ls : List (List ℕ)) → leading ls < length ls → good ls (leading ls) ≡ false
follows [] h = absurd (omega arith)
follows (l ∷ ls) h = by (fits line_form l) refl (λ m. follows ls m)
  where
    by : (b : Bool) → fits line_form l ≡ b → (leading ls < length ls → good ls (leading ls) ≡ false) → good (l ∷ ls) (leading (l ∷ ls)) ≡ false
    by true e rest = ap (good (l ∷ ls)) (lead_good l ls e) ∙ rest (omega (arith, lead_good l ls e))
    by false e rest = ap (good (l ∷ ls)) (lead_bad l ls e) ∙ e

-- as many as are good from the first on
no_line : fits line_form [] ≡ false
no_line = unlike line_form [] (λ e. omega arith)

reach : (ls : List (List ℕ)) (k : ℕ) → ((j : ℕ) → j < k → good ls j ≡ true) → k ≤ leading ls
reach ls zero g = omega arith
reach [] (suc k) g = clash (g 0 (omega arith)) no_line
reach (l ∷ ls) (suc k) g = omega (arith, lead_good l ls (g 0 (omega arith)), reach ls k (λ j h. g (suc j) (omega arith)))

within : (ls : List (List ℕ)) → leading ls ≤ length ls
within [] = omega (arith, no_lines)
within (l ∷ ls) = by (fits line_form l) refl (within ls)
  where
    by : (b : Bool) → fits line_form l ≡ b → leading ls ≤ length ls → leading (l ∷ ls) ≤ length (l ∷ ls)
    by true e h = omega (arith, lead_good l ls e)
    by false e h = omega (arith, lead_bad l ls e)

module _ (input : List ℕ) where
  hands_many : 3000 < lead input → input_hands input ≡ handed 5 []
  unfolding judge_input
  hands_many h = rw (lt-ltb 3000 (lead input) h)

  hands_bad : lead input ≤ 3000 → lead input < length (lines input) → input_hands input ≡ handed 6 (suc (lead input) ∷ [])
  unfolding judge_input
  hands_bad h m = rw (le-ltb 3000 (lead input) h, lt-ltb (lead input) (length (lines input)) m)

  hands_good : lead input ≤ 3000 → length (lines input) ≤ lead input → input_hands input ≡ handed 0 (length (lines input) ∷ [])
  unfolding judge_input
  hands_good h m = rw (le-ltb 3000 (lead input) h, le-ltb (lead input) (length (lines input)) m)

  -- an input is of one of three kinds
  data Fate : Type 0 where
    many : 3000 < lead input → input_hands input ≡ handed 5 [] → Fate
    bad : lead input ≤ 3000 → lead input < length (lines input) → input_hands input ≡ handed 6 (suc (lead input) ∷ []) → Fate
    fine : lead input ≤ 3000 → length (lines input) ≤ lead input → input_hands input ≡ handed 0 (length (lines input) ∷ []) → Fate

  fate : Fate
  fate = by (dec_le (suc (lead input)) (length (lines input))) (dec_le (lead input) 3000)
    where
      by : Dec (suc (lead input) ≤ length (lines input)) → Dec (lead input ≤ 3000) → Fate
      by (yes m) (yes h) = bad h m (hands_bad h m)
      by (no m) (yes h) = let l : length (lines input) ≤ lead input = omega arith in fine h l (hands_good h l)
      by m (no h) = let n : 3000 < lead input = omega arith in many n (hands_many n)

  number : {h h' : Handed} → h ≡ h' → h.number ≡ h'.number
  number e = ap (λ (x : Handed). x.number) e

  said_bad : (k : ℕ) → Fate → input_hands input ≡ handed 6 (suc k ∷ []) → FirstBad input k
  said_bad k (many h e) p = cc (number e, number p)
  said_bad k (fine h l e) p = cc (number e, number p)
  said_bad k (bad h m e) p =
      let s : suc (lead input) ≡ suc k = ap (λ (x : Handed). get_or x.carries 0 0) (sym e ∙ p) in
      let same : lead input ≡ k = omega arith in
      (omega arith, (λ j i. leads (lines input) j (omega arith)), omega arith, ap (good (lines input)) (sym same) ∙ follows (lines input) m)

  is_bad : (k : ℕ) → FirstBad input k → input_hands input ≡ handed 6 (suc k ∷ [])
  is_bad k p =
      let reached = reach (lines input) k p.1 in
      let same : lead input ≡ k = by (dec_le (lead input) k) reached in
      hands_bad (omega (arith, p.0)) (omega (arith, p.2)) ∙ ap (λ n. handed 6 (suc n ∷ [])) same
    where
      by : Dec (lead input ≤ k) → k ≤ lead input → lead input ≡ k
      by (yes h) i = omega arith
      by (no h) i = clash (leads (lines input) k (omega arith)) p.3

  said_many : Fate → input_hands input ≡ handed 5 [] → OneTooMany input
  said_many (many h e) p = (omega (arith, within (lines input)), λ j i. leads (lines input) j (omega arith))
  said_many (bad h m e) p = cc (number e, number p)
  said_many (fine h l e) p = cc (number e, number p)

  said_good : (k : ℕ) → Fate → input_hands input ≡ handed 0 (k ∷ []) → AllGood input k
  said_good k (many h e) p = cc (number e, number p)
  said_good k (bad h m e) p = cc (number e, number p)
  said_good k (fine h l e) p =
      let same : length (lines input) ≡ k = ap (λ (x : Handed). get_or x.carries 0 0) (sym e ∙ p) in
      (omega (arith, within (lines input)), same, λ j i. leads (lines input) j (omega arith))

  is_good : (k : ℕ) → AllGood input k → input_hands input ≡ handed 0 (k ∷ [])
  is_good k p =
      let reached = reach (lines input) k p.2 in
      let top = within (lines input) in
      hands_good (omega (arith, p.0, p.1)) (omega (arith, p.1)) ∙ ap (λ n. handed 0 (n ∷ [])) p.1

  carries : Fate → (input_hands input).number ≡ 6 → (k : ℕ) × (input_hands input ≡ handed 6 (suc k ∷ []))
  carries (many h e) p = cc
  carries (fine h l e) p = cc
  carries (bad h m e) p = (lead input, e)

  pub good_lines_lem : (r : Result ℕ InputError) (k : ℕ) → Answers r (judge_input input) number_of (input_hands input)
      → (number_of r ≡ handed 0 (k ∷ [])) ↔ AllGood input k
  good_lines_lem r k a = (λ p. said_good k fate (sym a.numbered ∙ p), λ p. a.numbered ∙ is_good k p)

  pub bad_carries_lem : (r : Result ℕ InputError) → Answers r (judge_input input) number_of (input_hands input)
      → (number_of r).number ≡ 6 → (k : ℕ) × (number_of r ≡ handed 6 (suc k ∷ [])) × FirstBad input k
  bad_carries_lem r a p =
      let c = carries fate (sym (number a.numbered) ∙ p) in
      (c.0, a.numbered ∙ c.1, said_bad c.0 fate c.1)

  pub bad_line_lem : (r : Result ℕ InputError) (k : ℕ) → Answers r (judge_input input) number_of (input_hands input)
      → (number_of r ≡ handed 6 (suc k ∷ [])) ↔ FirstBad input k
  bad_line_lem r k a = (λ p. said_bad k fate (sym a.numbered ∙ p), λ p. a.numbered ∙ is_bad k p)

  pub too_many_lem : (r : Result ℕ InputError) → Answers r (judge_input input) number_of (input_hands input)
      → (number_of r ≡ handed 5 []) ↔ OneTooMany input
  too_many_lem r a = (λ p. said_many fate (sym a.numbered ∙ p), λ p. a.numbered ∙ hands_many (reach (lines input) 3001 p.1))
