-- Laws of choices; and an answer that is the definition's has the definition's number.
-- Assumes nothing.
use Rattle.std.specs.Prelude.{if◌then◌else◌}
use Prim.Native.Nat.{ℕ}
use mathlib.Core.Path.{◌≡◌, refl, sym, ap, subst, ◌∙◌}
use mathlib.Core.Bool.{Bool, true, false}
use lib.Dec.{T, eqb}
use borrow.Author.Tests.{eqb-true}
use Rattle.field.specs.Handed.{Handed, Answers}

-- no test goes both ways
pub clash : {A : Type 0} {b : Bool} → b ≡ true → b ≡ false → A
clash p q = absurd (subst T (sym p ∙ q) tt)

-- a function of a choice is the choice of its values
pub float : {A B : Type 0} (f : A → B) (b : Bool) (x y : A) → f (if b then x else y) ≡ (if b then f x else f y)
float f true x y = refl
float f false x y = refl

-- what both have, the chosen one has
pub either : {A : Type 0} (P : A → Type 0) (b : Bool) (x y : A) → P x → P y → P (if b then x else y)
either P true x y p q = p
either P false x y p q = q

-- a choice of a number by equality with it is the number
pub settled : (n k : ℕ) (b : Bool) → eqb n k ≡ b → (if b then k else n) ≡ n
settled n k true e = sym (eqb-true n k e)
settled n k false e = refl

pub answers : {A : Type 0} {answer definition : A} (number_of : A → Handed) {table : Handed} →
    answer ≡ definition → number_of definition ≡ table → Answers answer definition number_of table
answers number_of e n = record { decoded = e; numbered = ap number_of e ∙ n }

-- any two answers are equal
pub one_answer : {A : Type 0} {answer answer' definition : A} {number_of : A → Handed} {table : Handed} →
    Answers answer definition number_of table → Answers answer' definition number_of table → answer ≡ answer'
one_answer p q = p.decoded ∙ sym q.decoded
