-- A text as the list of its bytes, and a text put into an output as a part of it. Assumes nothing.
use Rattle.std.specs.Prelude.{ℕ, ◌+◌, ◌≤◌, ◌≡◌, List, [], ◌∷◌, length}
use Prim.Native.Char.{code}
use Prim.Native.String.{String, [] as none, ◌∷◌ as ◌then◌}
use Rattle.field.specs.Placed.{placed}

-- the codes of a text's characters: for ASCII, its bytes
abbrev pub bytes : String → List ℕ
bytes none = []
bytes (c then s) = code c ∷ bytes s

-- The promise of a part writer: `left` is `out` with the text at the place `at`, where it fits, and `next` is the place after it.
pub record Put (out left : List ℕ) (at next : ℕ) (text : List ℕ) : Type 0 where
  pub ends : next ≡ at + length text
  pub fits : at + length text ≤ length out
  pub holds : left ≡ placed out at text

-- The same, of a text of varying length that takes at most `room` bytes.
pub record PutWithin (room : ℕ) (out left : List ℕ) (at next : ℕ) (text : List ℕ) : Type 0 where
  pub put : Put out left at next text
  pub short : next ≤ at + room
