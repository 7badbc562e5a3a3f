-- Bytes and bits of a message, as the standard counts them: bytes from 0, bit 0 the lowest, numbers of several bytes little-endian.
-- Assumes nothing.
use Rattle.std.specs.Prelude.{ℕ, zero, suc, ◌+◌, ◌-◌, ◌*◌, ◌/◌, ◌%◌, ◌^◌, ◌<◌, ◌≡◌, List, [], ◌∷◌, length, get_or, take, drop}

-- byte k; past the end, 0
abbrev pub byte_at : List ℕ → ℕ → ℕ
byte_at s k = get_or s k 0

-- numbers that are bytes, as a slice has them; and n of them
abbrev pub Octets : List ℕ → Type 0
Octets s = (k : ℕ) → byte_at s k < 256

pub record Bytes (n : ℕ) (s : List ℕ) : Type 0 where
  pub long : length s ≡ n
  pub each : Octets s

-- bits hi to lo of a byte, as a number: b / 2 ^ lo % 2 ^ (hi + 1 - lo), written so that it computes at lo = 0 too
abbrev pub bits : ℕ → ℕ → ℕ → ℕ
bits hi zero b = b % 2 ^ suc hi
bits hi (suc lo) b = b / 2 ^ suc lo % 2 ^ (hi - lo)

-- n bytes from byte k on
abbrev pub bytes_at : List ℕ → ℕ → ℕ → List ℕ
bytes_at s k n = take n (drop k s)

-- the number of two, three or four bytes from byte k on, the lowest byte first
abbrev pub le16_at : List ℕ → ℕ → ℕ
le16_at s k = byte_at s k + 256 * byte_at s (k + 1)

abbrev pub le24_at : List ℕ → ℕ → ℕ
le24_at s k = le16_at s k + 65536 * byte_at s (k + 2)

abbrev pub le32_at : List ℕ → ℕ → ℕ
le32_at s k = le16_at s k + 65536 * le16_at s (k + 2)

-- a number as k bytes, the lowest first
abbrev pub le_bytes : ℕ → ℕ → List ℕ
le_bytes zero n = []
le_bytes (suc k) n = n % 256 ∷ le_bytes k (n / 256)
