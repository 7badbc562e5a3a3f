-- What the two versions of the standard differ in, and which numbers name them. Assumes nothing.
use Rattle.std.specs.Prelude.{ℕ, ◌≤◌, ◌≡◌, Bool, true, false, ◌↔◌, Ok, Err}
use Rattle.field.specs.Handed.{Handed, unnamed_version}
use Rattle.connection.specs.Channel.{valid_channel}
use Rattle.connection.specs.Version.{no_version, valid_channel15, version_of}
use Rattle.connection.specs.declared.Version.{Version}

-- a number that names no version
abbrev pub NoVersion : ℕ → Type 0
NoVersion b = (b ≡ 0x51 → ⊥) × (b ≡ 0x02 → ⊥)

-- every channel of one set is one of another
abbrev pub Inside : (ℕ → Bool) → (ℕ → Bool) → Type 0
Inside narrow wide = (n : ℕ) → narrow n ≡ true → wide n ≡ true

pub record Versions : Type 0 where
  -- in 1.5 channels 8h to Dh are reserved, in 2.0 only Ch and Dh are
  pub reserved15 : (n : ℕ) → n ≤ 0xF → (valid_channel15 n ≡ false) ↔ ((0x8 ≤ n) × (n ≤ 0xD))
  pub reserved20 : (n : ℕ) → n ≤ 0xF → (valid_channel n ≡ false) ↔ ((0xC ≤ n) × (n ≤ 0xD))
  -- so a valid channel of 1.5 is one of 2.0, and 8h to Bh are all that 2.0 has besides
  pub inside : Inside valid_channel15 valid_channel
  pub besides : (n : ℕ) → ((valid_channel n ≡ true) × (valid_channel15 n ≡ false)) ↔ ((0x8 ≤ n) × (n ≤ 0xB))
  -- 51h names 1.5, 02h names 2.0, and no other number names a version
  pub older : (b : ℕ) → (version_of b ≡ Ok Version.V1_5) ↔ (b ≡ 0x51)
  pub newer : (b : ℕ) → (version_of b ≡ Ok Version.V2_0) ↔ (b ≡ 0x02)
  pub unnamed : (b : ℕ) → (version_of b ≡ Err no_version) ↔ NoVersion b

-- row 11 comes first: a number that names no version is refused, and the other rows are those of the version that it names, by its valid channels
pub data VersionNamed (b : ℕ) (Row : (ℕ → Bool) → Handed → Type 0) : Handed → Type 0 where
  unnamed : NoVersion b → VersionNamed b Row unnamed_version
  older : {h : Handed} → b ≡ 0x51 → Row valid_channel15 h → VersionNamed b Row h
  newer : {h : Handed} → b ≡ 0x02 → Row valid_channel h → VersionNamed b Row h
