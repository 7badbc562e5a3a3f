-- The theorems of specs/Untouched.antt. Assumes nothing.
use Prim.Native.Nat.{ℕ, ◌+◌}
use mathlib.Core.Path.{◌≡◌, refl, sym, ap, ◌∙◌}
use mathlib.Core.List.{List}
use native.Mathlib.Nat.{zero-add}
use lib.ListN.{length, drop}
use lib.Seq.{drop_at}
use Rattle.field.specs.Handed.{value_of}
use Rattle.field.specs.Placed.{placed}
use Rattle.flat_form.specs.Form.{Flat}
use Rattle.flat_form.specs.Untouched.{OneAnswer, Untouched}
use Rattle.flat_form.specs.declared.SelAnswer.{SelAnswer}
use Rattle.flat_form.proofs.Laws.{Told, short, told, turned, wrote}

module _ {f : Flat} {out left : List ℕ} where
  as_it_was : (r : SelAnswer) → Told f out left r → (r.number ≡ 0 → ⊥) → left ≡ out
  as_it_was _ (wrote e p) n = absurd (n refl)
  as_it_was _ (short e h l) n = l
  as_it_was _ (turned e l) n = l

  rest : (r : SelAnswer) → Told f out left r → r.number ≡ 0 → drop r.value left ≡ drop r.value out
  unfolding placed
  rest _ (wrote {t} e p) z = ap (drop (length t)) p.holds ∙ drop_at t (drop (0 + length t) out) (length t) refl ∙ rw zero-add
  rest _ (short {t} e h l) z = ap (drop (length t)) l
  rest _ (turned {h} e l) z = ap (drop (value_of h)) l

pub untouched_else : (f : Flat) (out left : List ℕ) (r : SelAnswer) → Untouched f out left r
untouched_else f out left r = record { untouched = λ g n. as_it_was r (told f g) n; behind = λ g z. rest r (told f g) z }

pub one_answer : (f : Flat) (out : List ℕ) → OneAnswer f out
one_answer f out = record { one = λ r r' left left' p q. (p.answered ∙ sym q.answered, p.leaves ∙ sym q.leaves) }
