-- Bytes in hexadecimal, one byte after the other. Assumes nothing.
use Prim.Native.Nat.{ℕ, suc, ◌*◌, ◌<◌, ◌≤◌}
use mathlib.Core.Path.{◌≡◌, refl, ap, ◌∙◌}
use mathlib.Core.List.{List, [], ◌∷◌, ◌++◌}
use native.Mathlib.Omega.{arith}
use lib.ListN.{length, get_or, take}
use lib.Seq.{take-suc, length-take-le}
use Rattle.text.specs.Numbers.{hex, hex_bytes}

pub hex_length : (l : List ℕ) → length (hex_bytes l) ≡ length l * 2
hex_length [] = refl
hex_length (b ∷ l) = omega (arith, hex_length l)

pub hex_append : (l m : List ℕ) → hex_bytes (l ++ m) ≡ hex_bytes l ++ hex_bytes m
hex_append [] m = refl
hex_append (b ∷ l) m = ap (λ t. hex 2 b ++ t) (hex_append l m)

pub hex_next : (l : List ℕ) (i : ℕ) → i < length l → hex_bytes (take (suc i) l) ≡ hex_bytes (take i l) ++ hex 2 (get_or l i 0)
hex_next l i h = ap hex_bytes (take-suc l i 0 h) ∙ hex_append (take i l) (get_or l i 0 ∷ [])

-- how much of the first i bytes' text there is
pub hex_so_far : (l : List ℕ) (i : ℕ) → i ≤ length l → length (hex_bytes (take i l)) ≡ i * 2
hex_so_far l i h = hex_length (take i l) ∙ ap (λ n. n * 2) (length-take-le i l h)
