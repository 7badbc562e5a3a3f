-- docs/SCOPE.md, "Numbers handed back", row 4, for every writer: it is given exactly when the output is shorter than the text. Assumes nothing.
use Rattle.std.specs.Prelude.{ℕ, ◌≤◌, ◌<◌, ◌≡◌, List, [], ◌∷◌, ◌↔◌, length}
use Rattle.field.specs.Handed.{handed}
use Rattle.text.specs.Written.{Written, Wrote, number_of}

pub record Room (text out left : List ℕ) (r : Written) : Type 0 where
  pub four : Wrote text out r left → ((number_of r).number ≡ 4) ↔ (length out < length text)
  pub zero : Wrote text out r left → ((number_of r).number ≡ 0) ↔ (length text ≤ length out)
  -- it then carries the length needed, and the output is as it was
  pub needed : Wrote text out r left → length out < length text → number_of r ≡ handed 4 (length text ∷ [])
  pub untouched : Wrote text out r left → length out < length text → left ≡ out
