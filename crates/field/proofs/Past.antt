-- Past the end of a list every byte is 0, and so is every number that starts there.
-- Assumes nothing.
use Prim.Native.Nat.{ℕ, ◌+◌, ◌≤◌}
use mathlib.Core.Path.{◌≡◌}
use mathlib.Core.List.{List}
use native.Mathlib.Omega.{arith}
use lib.ListN.{length, get_or-eq_default}
use Rattle.field.specs.Bits.{byte_at, le16_at, le24_at, le32_at}

module _ (s : List ℕ) where
  pub byte_past : (k : ℕ) → length s ≤ k → byte_at s k ≡ 0
  byte_past k h = get_or-eq_default s 0 h

  pub le16_past : (k : ℕ) → length s ≤ k → le16_at s k ≡ 0
  le16_past k h = rw (byte_past k h, byte_past (k + 1) (omega arith))

  pub le24_past : (k : ℕ) → length s ≤ k → le24_at s k ≡ 0
  le24_past k h = rw (le16_past k h, byte_past (k + 2) (omega arith))

  pub le32_past : (k : ℕ) → length s ≤ k → le32_at s k ≡ 0
  le32_past k h = rw (le16_past k h, le16_past (k + 2) (omega arith))
