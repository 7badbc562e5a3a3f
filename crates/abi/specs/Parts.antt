-- An answer that is joined, in numbers. Assumes nothing.
use Rattle.std.specs.Prelude.{◌≡◌, List, ℕ}
use Rattle.field.specs.Handed.{Handed, value_of}
use Rattle.partial.specs.Join.{after, held, join_hands}
use Rattle.partial.specs.declared.Joining.{Joining}
use Rattle.abi.specs.declared.parts.SelJoined.{SelJoined}

abbrev pub joined_answer : Handed → Joining → SelJoined
joined_answer h j = record { number = h.number; value = value_of h; next = j.next; got = j.got }

-- The promise of an answer handed in: its number with what it carries, the joining after it, and what is left of the lent bytes.
pub record JoinsPart (j : Joining) (s old : List ℕ) (r : SelJoined) (left : List ℕ) : Type 0 where
  pub answered : r ≡ joined_answer (join_hands (held j old) s) (after (held j old) s).state
  pub leaves : left ≡ (after (held j old) s).bytes
