-- Number 4 is given exactly when the output is shorter than the text. Assumes nothing.
use Prim.Native.Nat.{ℕ, ◌≤◌, ◌<◌}
use mathlib.Core.Path.{◌≡◌, ap, ◌∙◌}
use mathlib.Core.List.{List, [], ◌∷◌}
use mathlib.Core.Logic.{◌↔◌}
use native.Mathlib.Omega.{arith}
use native.Mathlib.Decide.{dec_le}
use borrow.Author.Tests.{le-leb, lt-leb}
use lib.ListN.{length}
use Rattle.field.specs.Handed.{Handed, handed}
use Rattle.text.specs.Room.{Room}
use Rattle.text.specs.Written.{Written, Wrote, number_of}

module _ (text out left : List ℕ) (r : Written) where
  needed : Wrote text out r left → length out < length text → number_of r ≡ handed 4 (length text ∷ [])
  needed w h = w.numbered ∙ rw (lt-leb (length text) (length out) h)

  fits : Wrote text out r left → length text ≤ length out → number_of r ≡ handed 0 (length text ∷ [])
  fits w h = w.numbered ∙ rw (le-leb (length text) (length out) h)

  four : Wrote text out r left → Dec (length text ≤ length out) → ((number_of r).number ≡ 4) ↔ (length out < length text)
  four w (yes h) = let n = ap (λ (x : Handed). x.number) (fits w h) in (λ p. omega arith, λ p. omega arith)
  four w (no h) = (λ p. omega arith, λ p. ap (λ (x : Handed). x.number) (needed w p))

  zero : Wrote text out r left → Dec (length text ≤ length out) → ((number_of r).number ≡ 0) ↔ (length text ≤ length out)
  zero w (yes h) = (λ p. h, λ p. ap (λ (x : Handed). x.number) (fits w h))
  zero w (no h) = let n = ap (λ (x : Handed). x.number) (needed w (omega arith)) in (λ p. omega arith, λ p. omega arith)

  pub room : Room text out left r
  room =
      record {
        four = λ w. four w (dec_le (length text) (length out));
        zero = λ w. zero w (dec_le (length text) (length out));
        needed = needed;
        untouched = λ w h. w.leaves ∙ rw (lt-leb (length text) (length out) h);
      }
