-- Something at the start of an output. Assumes nothing.
use Prim.Native.Nat.{ℕ, ◌-◌, ◌+◌, ◌≤◌, ◌<◌}
use mathlib.Core.Path.{◌≡◌, ◌∙◌}
use mathlib.Core.List.{List, ◌++◌}
use native.Mathlib.Nat.{zero-add}
use native.Mathlib.Omega.{arith}
use lib.ListN.{length, get_or, drop, length-append, length-drop, get_or-append}
use lib.Seq.{get_or-append-add, get_or-drop}
use Rattle.field.specs.Placed.{placed}

pub placed_front : (out new : List ℕ) → placed out 0 new ≡ new ++ drop (length new) out
unfolding placed
placed_front out new = rw (zero-add (length new))

-- its length, what stands in front, and what stands behind that
module _ (new old : List ℕ) where
  pub front_length : length new ≤ length old → length (placed old 0 new) ≡ length old
  unfolding placed
  front_length h = simp (length-append, length-drop) (omega arith)

  pub front_below : (k : ℕ) → k < length new → get_or (placed old 0 new) k 0 ≡ get_or new k 0
  unfolding placed
  front_below k h = rw get_or-append

  pub front_rest : (k : ℕ) → length new ≤ k → get_or (placed old 0 new) k 0 ≡ get_or old k 0
  unfolding placed
  front_rest k h =
      let e : k ≡ length new + (k - length new) = omega arith in
      rw (e, zero-add) (get_or-append-add new _ _ 0 ∙ get_or-drop (length new) old _ 0)
