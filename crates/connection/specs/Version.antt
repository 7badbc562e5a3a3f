-- Versions of the standard, which differ in the valid channels (section 6.3, table 6-1): 1h to 7h are numbered in IPMI 1.5, where 8h to Dh are
-- reserved, and 1h to Bh in 2.0. A caller names one by its number in Get Device ID (section 20.1, IPMI version), whose low digit comes first: 51h
-- is 1.5, and 02h is 2.0. Assumes nothing.
use Rattle.std.specs.Prelude.{ℕ, Bool, ◌||◌, Result, Ok, Err, eqb, leb, if◌then◌else◌}
use Rattle.connection.specs.Channel.{valid_channel}
use Rattle.connection.specs.declared.UnnamedVersion.{UnnamedVersion}
use Rattle.connection.specs.declared.Version.{Version}

-- the valid channels of IPMI 1.5
unfoldable pub valid_channel15 : ℕ → Bool
valid_channel15 n = leb n 0x7 || eqb n 0xE || eqb n 0xF

-- any such set, by its last numbered channel
unfoldable pub valid_to : ℕ → ℕ → Bool
valid_to last n = leb n last || eqb n 0xE || eqb n 0xF

-- the numbers of the versions
abbrev pub ipmi15 : ℕ
ipmi15 = 0x51

abbrev pub ipmi20 : ℕ
ipmi20 = 0x02

-- whether a number names a version, and the valid channels of the one that it names
abbrev pub is_version : ℕ → Bool
is_version b = eqb b ipmi15 || eqb b ipmi20

abbrev pub valid_by : ℕ → ℕ → Bool
valid_by b = if eqb b ipmi15 then valid_channel15 else valid_channel

abbrev pub no_version : UnnamedVersion
no_version = record {}

-- the same, as the code has them
unfoldable pub version_of : ℕ → Result Version UnnamedVersion
version_of b =
    if eqb b ipmi15 then Ok Version.V1_5 else
    if eqb b ipmi20 then Ok Version.V2_0 else
    Err no_version

abbrev pub valid_in : Version → ℕ → Bool
valid_in Version.V1_5 = valid_channel15
valid_in Version.V2_0 = valid_channel

-- the last numbered channel of a version
abbrev pub last_numbered : Version → ℕ
last_numbered Version.V1_5 = 0x7
last_numbered Version.V2_0 = 0xB
