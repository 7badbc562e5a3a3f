-- Where a number other than 0 is handed back, the output is as it was; where it is 0, what stands behind the bytes written is. And any two answers
-- that a promise allows are one. Assumes nothing.
use Rattle.std.specs.Prelude.{ℕ, ◌≡◌, List, drop}
use Rattle.flat_form.specs.Form.{Flat, Gives}
use Rattle.flat_form.specs.declared.SelAnswer.{SelAnswer}

pub record Untouched (flat : Flat) (out left : List ℕ) (r : SelAnswer) : Type 0 where
  pub untouched : Gives flat out r left → (r.number ≡ 0 → ⊥) → left ≡ out
  pub behind : Gives flat out r left → r.number ≡ 0 → drop r.value left ≡ drop r.value out

pub record OneAnswer (flat : Flat) (out : List ℕ) : Type 0 where
  pub one : (r r' : SelAnswer) (left left' : List ℕ) → Gives flat out r left → Gives flat out r' left' → (r ≡ r') × (left ≡ left')
