-- What two equal entries may differ in, of the functions that are called. Assumes nothing.
use Rattle.std.specs.Prelude.{Ok, Err}
use mathlib.Core.Path.{◌≡◌, refl, ap}
use mathlib.Core.Bool.{true, false}
use mathlib.Core.Logic.{◌↔◌}
use native.Mathlib.Omega.{arith}
use Rattle.same_entry.specs.Answer.{SameAnswer}
use Rattle.same_entry.specs.declared.SameError.{SameError}
use Rattle.same_entry.proofs.EqualEntries.{equal_entries, same_says}
use Rattle.abi.specs.Sames.{same_answer}
use Rattle.claims.specs.Equality.{Equality}

same : (r : SameAnswer) → ((same_answer r).same ≡ 1) ↔ (r ≡ Ok true)
same r = (there r, λ e. ap (λ (x : SameAnswer). (same_answer x).same) e)
  where
    there : (r : SameAnswer) → (same_answer r).same ≡ 1 → r ≡ Ok true
    there (Ok true) e = refl
    there (Ok false) e = absurd (omega arith)
    there (Err (SameError.First why)) e = absurd (omega arith)
    there (Err (SameError.Second why)) e = absurd (omega arith)

pub equality : Equality
equality = record { entries = equal_entries; says = same_says; parsed = λ s p b e. record { bytes = b.each; promised = e }; same = same }
