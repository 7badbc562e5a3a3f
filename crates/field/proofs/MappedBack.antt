-- The theorem of specs/MappedBack.antt. Assumes nothing.
use mathlib.Core.Path.{◌≡◌}
use mathlib.Core.List.{[]}
use mathlib.Core.Logic.{◌⊎◌, inl, inr}
use native.Mathlib.Omega.{arith}
use borrow.Author.Tests.{eq-eqb, ne_eqb}
use Rattle.field.specs.Handed.{Handed, handed, ported}
use Rattle.field.specs.MappedBack.{MappedBack}

pub mapped_back_lem : (h : Handed) → MappedBack h
mapped_back_lem h = record { told = told; kept = λ a b c. rw (ne_eqb h.number 1 a, ne_eqb h.number 8 b, ne_eqb h.number 9 c) }
  where
    told : (h.number ≡ 1) ⊎ (h.number ≡ 8) ⊎ (h.number ≡ 9) → ported h ≡ handed 1 []
    told (inl e) = rw (eq-eqb h.number 1 e)
    told (inr (inl e)) = rw (ne_eqb h.number 1 (λ z. omega arith), eq-eqb h.number 8 e)
    told (inr (inr e)) = rw (ne_eqb h.number 1 (λ z. omega arith), ne_eqb h.number 8 (λ z. omega arith), eq-eqb h.number 9 e)
