-- Numbers of several bytes: as bytes and read again, and read and as bytes again. Assumes nothing.
use Prim.Native.Nat.{ℕ, suc, ◌+◌, ◌*◌, ◌/◌, ◌%◌, ◌≤◌, ◌<◌, ◌^◌}
use mathlib.Core.Path.{◌≡◌, ap, ◌∙◌}
use mathlib.Core.List.{List, [], ◌∷◌}
use native.Mathlib.Nat.{add-mul-mod_self_left, mod-eq_of_lt}
use native.Mathlib.Omega.{arith}
use Rattle.std.specs.Int.{to_le_bytes, w16, w32}
use Rattle.field.specs.Bits.{le_bytes, le16_at, le24_at, le32_at}

pub high_byte : (n : ℕ) → n < 65536 → n / 256 % 256 ≡ n / 256
high_byte n h = omega arith

pub two_kept : (n : ℕ) → n < 2 ^ 16 → le16_at (le_bytes 2 n) 0 ≡ n
two_kept n h = omega arith

pub three_kept : (n : ℕ) → n ≤ 0xFFFFFF → le24_at (le_bytes 3 n) 0 ≡ n
three_kept n h = omega arith

pub four_kept : (n : ℕ) → n < 2 ^ 32 → le32_at (le_bytes 4 n) 0 ≡ n
four_kept n h = omega arith

low : (a n : ℕ) → a < 256 → (a + 256 * n) % 256 ≡ a
low a n h = add-mul-mod_self_left a 256 n ∙ mod-eq_of_lt h

rest : (a n : ℕ) → a < 256 → (a + 256 * n) / 256 ≡ n
rest a n h = let e = low a n h in omega arith

first_back : (k a n : ℕ) → a < 256 → le_bytes (suc k) (a + 256 * n) ≡ a ∷ le_bytes k n
first_back k a n h = rw (low a n h, rest a n h)

pub two_back : (a b : ℕ) → a < 256 → b < 256 → le_bytes 2 (a + 256 * b) ≡ a ∷ b ∷ []
two_back a b h i =
    let e : b % 256 ≡ b = omega arith in
    first_back 1 a b h ∙ cc

pub three_back : (a b c : ℕ) → a < 256 → b < 256 → c < 256 → le_bytes 3 (a + 256 * b + 65536 * c) ≡ a ∷ b ∷ c ∷ []
three_back a b c h i j =
    let e : a + 256 * b + 65536 * c ≡ a + 256 * (b + 256 * c) = omega arith in
    ap (le_bytes 3) e ∙ first_back 2 a (b + 256 * c) h ∙ ap (λ (l : List ℕ). a ∷ l) (two_back b c i j)

pub four_back : (a b c d : ℕ) → a < 256 → b < 256 → c < 256 → d < 256 → le_bytes 4 (a + 256 * b + 65536 * (c + 256 * d)) ≡ a ∷ b ∷ c ∷ d ∷ []
four_back a b c d h i j k =
    let e : a + 256 * b + 65536 * (c + 256 * d) ≡ a + 256 * (b + 256 * c + 65536 * d) = omega arith in
    ap (le_bytes 4) e ∙ first_back 3 a (b + 256 * c + 65536 * d) h ∙ ap (λ (l : List ℕ). a ∷ l) (three_back b c d i j k)

-- the library's two bytes of a number, and its four
pub two_bytes : {r : List ℕ} {n m : ℕ} → r ≡ to_le_bytes w16 n → n ≡ m → r ≡ le_bytes 2 m
two_bytes e f = e ∙ rw f

pub four_bytes : {r : List ℕ} {n m : ℕ} → r ≡ to_le_bytes w32 n → n ≡ m → r ≡ le_bytes 4 m
four_bytes {m = m} e f =
    let third : m / 65536 % 256 ≡ m / 256 / 256 % 256 = omega arith in
    let fourth : m / 16777216 % 256 ≡ m / 256 / 256 / 256 % 256 = omega arith in
    e ∙ rw (f, third, fourth)
