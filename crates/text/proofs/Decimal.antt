-- Laws of decimal texts. Assumes nothing.
use Rattle.std.specs.Prelude.{if◌then◌else◌}
use mathlib.Core.Path.{◌≡◌, refl, ◌∙◌, ap, sym}
use mathlib.Core.Bool.{Bool, true, false}
use mathlib.Core.List.{[], ◌∷◌, ◌++◌, append_assoc}
use Prim.Native.Nat.{ℕ, zero, suc, ◌*◌, ◌/◌, ◌%◌, ◌^◌, ◌<◌, ◌≤◌}
use native.Mathlib.Omega.{arith}
use native.Mathlib.Nat.{pow-suc}
use borrow.Author.Tests.{lt-ltb, le-ltb, ltb-true, ltb-false}
use lib.Dec.{ltb}
use lib.ListN.{length, length-append}
use Rattle.text.specs.Numbers.{digit_of, decimal_in, decimal, last_two}

-- below 10, one digit; else, those of the tenth part and one digit
small : (k n : ℕ) → n < 10 → decimal_in (suc k) n ≡ digit_of n ∷ []
unfolding decimal_in
small k n h = simp (lt-ltb n 10 h)

large : (k n : ℕ) → 10 ≤ n → decimal_in (suc k) n ≡ decimal_in k (n / 10) ++ (digit_of (n % 10) ∷ [])
unfolding decimal_in
large k n h = simp (le-ltb n 10 h)

-- the tenth part of a number below a power of ten is below the power before
tenth : (k n : ℕ) → n < 10 ^ suc k → n / 10 < 10 ^ k
tenth k n h =
    let e : 10 ^ suc k ≡ 10 ^ k * 10 = pow-suc 10 k in
    omega arith

-- one more digit of room changes nothing
room : (k n : ℕ) → n < 10 ^ suc k → decimal_in (suc k) n ≡ decimal_in (suc (suc k)) n
room zero n h = small zero n h ∙ sym (small (suc zero) n h)
room (suc k) n h = by (ltb n 10) refl (room k (n / 10) (tenth (suc k) n h))
  where
    by : (b : Bool) → ltb n 10 ≡ b → decimal_in (suc k) (n / 10) ≡ decimal_in (suc (suc k)) (n / 10)
        → decimal_in (suc (suc k)) n ≡ decimal_in (suc (suc (suc k))) n
    by true t r = small (suc k) n (ltb-true n 10 t) ∙ sym (small (suc (suc k)) n (ltb-true n 10 t))
    by false t r =
        let g = ltb-false n 10 t in
        large (suc k) n g ∙ ap (λ l. l ++ (digit_of (n % 10) ∷ [])) r ∙ sym (large (suc (suc k)) n g)

-- a number below 10 ^ k has at most k digits
bound : (f k n : ℕ) → n < 10 ^ suc k → length (decimal_in f n) ≤ suc k
unfolding decimal_in
bound zero k n h = omega arith
bound (suc f) zero n h = simp (small f n h) (omega arith)
bound (suc f) (suc k) n h = by (ltb n 10) (bound f k (n / 10) (tenth (suc k) n h))
  where
    by : (b : Bool) → length (decimal_in f (n / 10)) ≤ suc k
        → length (if b then digit_of n ∷ [] else decimal_in f (n / 10) ++ (digit_of (n % 10) ∷ [])) ≤ suc (suc k)
    by true r = omega arith
    by false r = simp length-append (omega arith)

pub decimal_small : (n : ℕ) → n < 10 → decimal n ≡ digit_of (n % 10) ∷ []
unfolding decimal
decimal_small n h =
    let e : n % 10 ≡ n = omega arith in
    small 19 n h ∙ rw e

pub decimal_large : (n : ℕ) → n < 2 ^ 64 → 10 ≤ n → decimal n ≡ decimal (n / 10) ++ (digit_of (n % 10) ∷ [])
unfolding decimal
decimal_large n f h =
    let b : n / 10 < 10 ^ 19 = omega arith in
    large 19 n h ∙ ap (λ l. l ++ (digit_of (n % 10) ∷ [])) (room 18 (n / 10) b)

-- two digits at once
pub decimal_pair : (n : ℕ) → 10 ≤ n → n < 100 → decimal n ≡ last_two n
decimal_pair n g l =
    decimal_large n (omega arith) g ∙ ap (λ d. d ++ (digit_of (n % 10) ∷ [])) (decimal_small (n / 10) (omega arith))

pub decimal_hundreds : (n : ℕ) → n < 2 ^ 64 → 100 ≤ n → decimal n ≡ decimal (n / 100) ++ last_two n
decimal_hundreds n f h =
    let e : n / 10 / 10 ≡ n / 100 = omega arith in
    decimal_large n f (omega arith)
    ∙ ap (λ d. d ++ (digit_of (n % 10) ∷ [])) (decimal_large (n / 10) (omega arith) (omega arith))
    ∙ append_assoc (decimal (n / 10 / 10)) (digit_of (n / 10 % 10) ∷ []) (digit_of (n % 10) ∷ [])
    ∙ ap (λ q. decimal q ++ last_two n) e

pub decimal_length : (k n : ℕ) → n < 10 ^ suc k → length (decimal n) ≤ suc k
unfolding decimal
decimal_length k n h = bound 20 k n h

-- no number has more digits than there is room for
within : (k n : ℕ) → length (decimal_in k n) ≤ k
unfolding decimal_in
within zero n = omega arith
within (suc k) n = by (ltb n 10) (within k (n / 10))
  where
    by : (b : Bool) → length (decimal_in k (n / 10)) ≤ k
        → length (if b then digit_of n ∷ [] else decimal_in k (n / 10) ++ (digit_of (n % 10) ∷ [])) ≤ suc k
    by true r = omega arith
    by false r = omega (arith, length-append (decimal_in k (n / 10)) (digit_of (n % 10) ∷ []))

pub decimal_short : (n : ℕ) → length (decimal n) ≤ 20
unfolding decimal
decimal_short n = within 20 n
