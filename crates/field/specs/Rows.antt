-- Rows of the table of numbers (docs/SCOPE.md, "Numbers handed back"): each says when a number is given, and what it carries. A table is a family of
-- types, by the number with what it carries, and has a line for each row. Assumes nothing.
use Rattle.std.specs.Prelude.{ℕ, ◌≤◌, ◌<◌, ◌≡◌, ◌↔◌, List, [], length}
use Rattle.field.specs.Handed.{Handed, handed, short}

-- h is given exactly when its row says, for every h: so one is given, and no other
pub record Rows (given : Handed) (Row : Handed → Type 0) : Type 0 where
  pub exactly : (h : Handed) → (given ≡ h) ↔ Row h

-- row 1 comes first: an answer under n bytes is too short, and the other rows are of those that are not
pub data LongEnough (n : ℕ) (s : List ℕ) (Row : Handed → Type 0) : Handed → Type 0 where
  too_short : length s < n → LongEnough n s Row (short n)
  long : {h : Handed} → n ≤ length s → Row h → LongEnough n s Row h

-- row 0 alone: accepted
pub data Taken : Handed → Type 0 where
  accepted : Taken (handed 0 [])
