-- Find one slot fast, sentence by sentence. Assumes nothing.
use Rattle.std.specs.Prelude.{ℕ, ◌≡◌, Bool, true, ◌↔◌, List, Result}
use Rattle.capture.specs.Walked.{Walked}
use Rattle.capture.specs.declared.CaptureError.{CaptureError}
use Rattle.capture.specs.declared.Verdict.{Verdict}
use Rattle.index.specs.Check.{Checks}
use Rattle.index.specs.Checked.{Checked}
use Rattle.index.specs.Find.{find_indexed}
use Rattle.index.specs.Index.{RightIndex}
use Rattle.index.specs.Lookup.{Finds}
use Rattle.index.specs.OneIndex.{OneIndex}
use Rattle.index.specs.Refusals.{IndexedWalk, wrapped}
use Rattle.index.specs.Walk.{WalkedIndexed}
use Rattle.index.specs.declared.IndexError.{IndexError}
use Rattle.index_make.specs.Made.{Adds, Makes}
use Rattle.abi.specs.IndexSays.{IndexSays}

pub record FindFast : Type 0 where
  -- an index has the slot numbers in order of asked id, equal ids in slot order: of any slots there is exactly one
  pub index : (s : List ℕ) → OneIndex s
  -- the check accepts exactly the right index of these slots, for any index and any slots
  pub check : (s x : List ℕ) → Checked s x
  pub checks : (s x : List ℕ) (r : Bool) → Checks s x r → (r ≡ true) ↔ RightIndex s x
  -- one lookup, by halving, answers as the full search does, for any index that the check accepts;
  -- on another index a slot that it names does carry the asked id
  pub lookup : (s x : List ℕ) (id : ℕ) → Finds s x id (find_indexed s x id)
  -- the walk checks once and then uses it, with verdicts as before, and 10 after 5 and before 4
  pub walk : (s x : List ℕ) (b : ℕ) (old : List ℕ) → IndexedWalk s x b old
  -- with the right index it keeps the promise of the walk without one, from which all of demand 3 starts
  pub walked : (s x : List ℕ) (b : ℕ) (old left : List ℕ) (r : Result Verdict IndexError) → RightIndex s x → WalkedIndexed s x b old r left
      → (v : Result Verdict CaptureError) × (r ≡ wrapped v) × Walked s b old v left
  -- an index is made, and kept while slots are added at the end
  pub makes : (s old was : List ℕ) → Makes s old was
  pub adds : (s x : List ℕ) → Adds s x
  -- and the same of the functions for C
  pub says : (s : List ℕ) → IndexSays s
