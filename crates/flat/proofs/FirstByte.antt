-- From the first byte of a question, and the rest, to what it comes to. Assumes nothing.
use Prim.Native.Nat.{ℕ, ◌-◌}
use mathlib.Core.Path.{◌≡◌}
use mathlib.Core.List.{List}
use borrow.Author.Tests.{eq-eqb, ne_eqb}
use borrow.Rule.Slice.PartMut.{mid_of}
use lib.ListN.{length}
use Rattle.field.specs.Bits.{byte_at}
use Rattle.field.proofs.Parts.{tail_is}
use Rattle.flat_form.specs.Form.{Flat, no_question}
use Rattle.flat.specs.Versions.{behind_version}

module _ (of : ℕ → List ℕ → Flat) (s : List ℕ) where
  pub no_byte : length s ≡ 0 → no_question ≡ behind_version of s
  unfolding behind_version
  no_byte h = rw (eq-eqb (length s) 0 h)

  pub behind : (length s ≡ 0 → ⊥) → of (byte_at s 0) (mid_of 1 (length s - 1) s) ≡ behind_version of s
  unfolding behind_version
  behind h = rw (ne_eqb (length s) 0 h, tail_is s 1)
