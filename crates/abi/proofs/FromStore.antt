-- The theorem of specs/FromStore.antt. Assumes nothing.
use Rattle.std.specs.Prelude.{Ok, Err}
use Prim.Native.Nat.{ℕ}
use mathlib.Core.Path.{◌≡◌, refl, sym, ap, ◌∙◌}
use mathlib.Core.List.{List}
use lib.ListN.{length}
use Rattle.text.specs.Written.{Written, number_of}
use Rattle.event_offset.specs.Fills.{fill_answer}
use Rattle.event_offset.proofs.FilledGives.{filled_gives}
use Rattle.flat_form.specs.Form.{from_written, taken}
use Rattle.flat_form.specs.declared.SelAnswer.{SelAnswer}
use Rattle.flat_form.proofs.Laws.{gives_is}
use Rattle.abi.specs.Filled.{Filled}
use Rattle.abi.specs.FromStore.{FromStore}

-- the number of what is filled, in both forms of the answer
pub number_is : (w : Written) → (from_written w).number ≡ (number_of w).number
number_is (Ok n) = refl
number_is (Err e) = refl

module _ (a b c : List ℕ) (f : SelAnswer) (store starts lengths : List ℕ) where
  accepted : Filled a b c f store starts lengths → f.number ≡ 0 → (number_of (fill_answer (length a) (length b) (length c))).number ≡ 0
  accepted p z = sym (number_is (fill_answer (length a) (length b) (length c))) ∙ sym (ap (λ (x : SelAnswer). x.number) p.answered) ∙ z

  pub from_store_lem : FromStore a b c f store starts lengths
  from_store_lem = record {
    same = λ p z event sensor offset out left r.
        gives_is (ap taken ((filled_gives a b c _ store starts lengths).gives p.leaves (accepted p z) event sensor offset));
    behind = λ p z x y z' event sensor offset out left r.
        gives_is (ap taken ((filled_gives a b c _ store starts lengths).behind p.leaves (accepted p z) x y z' event sensor offset));
  }
