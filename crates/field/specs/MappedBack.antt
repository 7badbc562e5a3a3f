-- The mapping back to the Rust's numbers, exactly: what it does not tell apart becomes one, and nothing else changes. Assumes nothing.
use Rattle.std.specs.Prelude.{◌≡◌, [], ◌⊎◌}
use Rattle.field.specs.Handed.{Handed, handed, ported}

pub record MappedBack (h : Handed) : Type 0 where
  -- 1, 8 and 9, whatever they carry, become 1 with nothing
  pub told : (h.number ≡ 1) ⊎ (h.number ≡ 8) ⊎ (h.number ≡ 9) → ported h ≡ handed 1 []
  -- and every other number stays, with what it carries
  pub kept : (h.number ≡ 1 → ⊥) → (h.number ≡ 8 → ⊥) → (h.number ≡ 9 → ⊥) → ported h ≡ h
