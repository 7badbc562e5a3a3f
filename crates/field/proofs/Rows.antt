-- How a table's rows are shown to be given exactly. Assumes nothing.
use Prim.Native.Nat.{ℕ, ◌≤◌, ◌<◌}
use mathlib.Core.Path.{◌≡◌, refl, sym, subst}
use mathlib.Core.List.{List, []}
use native.Mathlib.Omega.{arith}
use native.Mathlib.Decide.{dec_le}
use lib.ListN.{length}
use Rattle.field.specs.Handed.{Handed, handed, short}
use Rattle.field.specs.Rows.{Rows, LongEnough, too_short, long, Taken, accepted}

-- the row of what is given holds, and no other row does
pub rows_by : {given : Handed} {Row : Handed → Type 0} → Row given → ((h : Handed) → Row h → given ≡ h) → Rows given Row
rows_by {given} {Row} r only = record { exactly = λ h. (λ e. subst Row e r, only h) }

pub taken_rows : {given : Handed} → given ≡ handed 0 [] → Rows given Taken
taken_rows {given} e = rows_by (subst Taken (sym e) accepted) only
  where
    only : (h : Handed) → Taken h → given ≡ h
    only _ accepted = e

pub long_rows : {given : Handed} {Row : Handed → Type 0} (n : ℕ) (s : List ℕ) → (length s < n → given ≡ short n) → (n ≤ length s → Rows given Row)
    → Rows given (LongEnough n s Row)
long_rows {given} {Row} n s few many = rows_by (by (dec_le n (length s))) only
  where
    by : Dec (n ≤ length s) → LongEnough n s Row given
    by (yes h) = long h (((many h).exactly given).0 refl)
    by (no h) =
        let m : length s < n = omega arith in
        subst (LongEnough n s Row) (sym (few m)) (too_short m)

    only : (h : Handed) → LongEnough n s Row h → given ≡ h
    only _ (too_short m) = few m
    only h (long m r) = ((many m).exactly h).1 r

-- where the other rows have numbers under k, all have
pub long_under : {Row : Handed → Type 0} (k n : ℕ) (s : List ℕ) → 1 < k → ((h : Handed) → Row h → h.number < k) → (h : Handed) → LongEnough n s Row h
    → h.number < k
long_under k n s one few _ (too_short m) = one
long_under k n s one few h (long m r) = few h r

-- what is given by another definition is given by the same rows
pub rows_are : {given given' : Handed} {Row : Handed → Type 0} → given ≡ given' → Rows given Row → Rows given' Row
rows_are {Row = Row} e r = subst (λ (h : Handed). Rows h Row) e r
