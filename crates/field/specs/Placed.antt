-- A lent output afterwards: new elements from a place on, and the rest as it was. Assumes nothing.
use Rattle.std.specs.Prelude.{ℕ, ◌+◌, List, ◌++◌, length, take, drop}

-- `out` with `new` at the place `at`
unfoldable pub placed : List ℕ → ℕ → List ℕ → List ℕ
placed out at new = take at out ++ new ++ drop (at + length new) out
