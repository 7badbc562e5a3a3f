-- From what the crates below promise to the numbers handed back. Assumes nothing.
use Rattle.std.specs.Prelude.{Result, Ok, Err}
use Prim.Native.Nat.{ℕ, ◌≤◌}
use mathlib.Core.Path.{◌≡◌, sym, ap, subst, ◌∙◌}
use mathlib.Core.List.{List}
use native.Mathlib.Decide.{dec_le}
use native.Mathlib.Omega.{arith}
use borrow.Author.Tests.{le-leb, lt-leb}
use Rattle.field.specs.Handed.{Answers, Handed}
use Rattle.text.specs.Written.{Written, Wrote}
use Rattle.connection.specs.Channel.{channel_hands, channel_number, channel_of, number_of as channel_number_of, valid_channel}
use Rattle.connection.specs.Unit.{unit_named, unit_number}
use Rattle.connection.specs.declared.Channel.{Channel}
use Rattle.connection.specs.declared.LogicalUnit.{LogicalUnit}
use Rattle.connection.specs.declared.InvalidChannel.{InvalidChannel}
use Rattle.connection.specs.declared.InvalidUnit.{InvalidUnit}
use Rattle.connection.proofs.Back.{unit_back}
use Rattle.capture.proofs.Clash.{clash}
use Rattle.event_offset.specs.Fills.{Fills}
use Rattle.flat_form.specs.Form.{Gives, from_written, refusal, said, taken}
use Rattle.flat_form.specs.declared.SelAnswer.{SelAnswer}
use Rattle.flat_form.proofs.Laws.{gives_is, gives_written}
use Rattle.abi.specs.Filled.{Filled}
use Rattle.abi.specs.Units.{unit_hands}

-- a text was written, and it is that of its equal
pub gives_text : {text t out left : List ℕ} {w : Written} {r : SelAnswer} → text ≡ t → r ≡ from_written w → Wrote text out w left → Gives (taken t) out r left
gives_text i e p = gives_is (ap taken i) (gives_written e p)

-- the number of what was answered, and then told apart
pub told_number : {A : Type 0} {number_of : A → Handed} {definition : A} {table : Handed} {a b : A} → Answers a definition number_of table → a ≡ b
    → (number_of b).number ≡ table.number
told_number {A} {number_of} p e = ap (λ (x : A). (number_of x).number) (sym e) ∙ ap (λ (h : Handed). h.number) p.numbered

pub fills : {a b c store starts lengths : List ℕ} {w : Written} {r : SelAnswer} → r ≡ from_written w → Fills a b c w store starts lengths
    → Filled a b c r store starts lengths
fills {a} {b} {c} {store} {starts} {lengths} e p =
    record {
      answered = e ∙ ap from_written p.answered;
      leaves = subst (λ (x : Written). Fills a b c x store starts lengths) p.answered p;
    }

-- a channel is told by its number, and so is a number that is none
module _ (n : ℕ) {a : Result Channel InvalidChannel} (p : Answers a (channel_of valid_channel n) channel_number_of (channel_hands valid_channel n)) where
  pub channel_is : {channel : Channel} {v : ℕ} → a ≡ Ok channel → v ≡ channel_number channel → said 0 v ≡ refusal (channel_hands valid_channel n)
  channel_is e i = rw i (ap refusal (ap channel_number_of (sym e) ∙ p.numbered))

  pub no_channel : {e : InvalidChannel} → a ≡ Err e → said 3 e.0 ≡ refusal (channel_hands valid_channel n)
  no_channel e = ap refusal (ap channel_number_of (sym e) ∙ p.numbered)

module _ (n : ℕ) {a : Result LogicalUnit InvalidUnit} (p : a ≡ unit_named n) where
  pub unit_is : {unit : LogicalUnit} {v : ℕ} → a ≡ Ok unit → v ≡ unit_number unit → said 0 v ≡ refusal (unit_hands n)
  unfolding unit_hands
  unit_is {unit} {v} e i = by (dec_le n 3)
    where
      by : Dec (n ≤ 3) → said 0 v ≡ refusal (unit_hands n)
      by (yes h) = rw (i, unit_back.back n unit (sym p ∙ e), le-leb n 3 h)
      by (no h) = clash (cc (unit_back.turned_away n (omega arith)))

  pub no_unit_lem : {u : InvalidUnit} → a ≡ Err u → said 255 0 ≡ refusal (unit_hands n)
  unfolding unit_hands
  no_unit_lem e = by (dec_le n 3)
    where
      by : Dec (n ≤ 3) → said 255 0 ≡ refusal (unit_hands n)
      by (yes h) = clash (cc (unit_back.taken n h))
      by (no h) = rw (lt-leb n 3 (omega arith))
