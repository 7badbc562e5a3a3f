-- Questions under a version of the standard (docs/SCOPE.md, "The flat form"): the number that names it, and then the bytes. Assumes nothing.
use Rattle.std.specs.Prelude.{ℕ, List, eqb, length, drop, if◌then◌else◌}
use Rattle.field.specs.Bits.{byte_at}
use Rattle.flat_form.specs.Form.{Flat, no_question}

-- what the rest comes to under the version that the first byte names; where there is not even that byte, nothing was asked
unfoldable pub behind_version : (ℕ → List ℕ → Flat) → List ℕ → Flat
behind_version of s = if eqb (length s) 0 then no_question else of (byte_at s 0) (drop 1 s)
