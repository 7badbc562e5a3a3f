-- Logical units by their number. Assumes nothing.
use Rattle.std.specs.Prelude.{ℕ, [], ◌∷◌, leb, if◌then◌else◌}
use Rattle.field.specs.Handed.{Handed, handed}
use Rattle.flat_form.specs.Form.{unasked}

-- a logical unit has a number of two bits; any other number is no question
unfoldable pub unit_hands : ℕ → Handed
unit_hands n = if leb n 3 then handed 0 (n ∷ []) else unasked
