-- A part of a list is its bytes one by one; what holds of its first bytes written out; a part that goes to the end is the tail.
-- Assumes nothing.
use Prim.Native.Nat.{ℕ, zero, suc, ◌+◌, ◌-◌, ◌≤◌}
use mathlib.Core.Path.{◌≡◌, refl, sym, ap, subst, ◌∙◌}
use mathlib.Core.List.{List, [], ◌∷◌, ◌++◌}
use native.Mathlib.Omega.{arith}
use lib.ListN.{length, get_or, take, drop, length-drop, take-append-drop}
use lib.Seq.{drop-cons, take_all}

-- what an array literal of n bytes of a slice holds
abbrev pub each : List ℕ → ℕ → ℕ → List ℕ
each s k zero = []
each s k (suc n) = get_or s k 0 ∷ each s (suc k) n

pub part_each : (s : List ℕ) (k n : ℕ) → k + n ≤ length s → take n (drop k s) ≡ each s k n
part_each s k zero h = refl
part_each s k (suc n) h =
    ap (take (suc n)) (drop-cons s k 0 (omega arith))
    ∙ ap (λ (l : List ℕ). get_or s k 0 ∷ l) (part_each s (suc k) n (omega arith))

-- what holds of n bytes written out, and of these with what follows them, holds of a list's first n bytes, and of the list
pub front : (n : ℕ) (s : List ℕ) (P : List ℕ → List ℕ → Type 0) → n ≤ length s → P (each s 0 n) (each s 0 n ++ drop n s) → P (take n s) s
front n s P h p =
    let e : take n s ≡ each s 0 n = part_each s 0 n (omega arith) in
    subst (λ (l : List ℕ). P l s) (sym e)
    (subst (λ (l : List ℕ). P (each s 0 n) l) (ap (λ (l : List ℕ). l ++ drop n s) (sym e) ∙ take-append-drop n s) p)

-- `&s[k..]`, as the slice rule gives it
pub tail_is : (s : List ℕ) (k : ℕ) → take (length s - k) (drop k s) ≡ drop k s
tail_is s k = take_all (length s - k) (drop k s) (omega (arith, length-drop k s))
