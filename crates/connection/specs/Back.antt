-- What being made a channel or a unit keeps: the number comes back, and every number is decided. Assumes nothing.
use Rattle.std.specs.Prelude.{ℕ, ◌≤◌, ◌<◌, ◌≡◌, Bool, true, false, Ok, Err}
use Rattle.field.specs.Bits.{bits}
use Rattle.connection.specs.Channel.{channel_at, channel_of, channel_number, not_valid}
use Rattle.connection.specs.Unit.{no_unit, unit_number, unit_of, unit_named}
use Rattle.connection.specs.declared.Channel.{Channel}
use Rattle.connection.specs.declared.LogicalUnit.{LogicalUnit}

pub record ChannelBack (valid : ℕ → Bool) : Type 0 where
  -- `value` of what `new` accepts is the number given
  pub back : (n : ℕ) (c : Channel) → channel_of valid n ≡ Ok c → channel_number c ≡ n
  -- a valid number is accepted, any other is turned away
  pub taken : (n : ℕ) → valid n ≡ true → channel_of valid n ≡ Ok (channel_at n)
  pub turned_away : (n : ℕ) → valid n ≡ false → channel_of valid n ≡ Err (not_valid n)

pub record UnitBack : Type 0 where
  -- the number of what `from_low_bits` makes is bits 1 to 0
  pub low : (n : ℕ) → unit_number (unit_of n) ≡ bits 1 0 n
  -- the number of what `try_from` accepts is the number given
  pub back : (n : ℕ) (u : LogicalUnit) → unit_named n ≡ Ok u → unit_number u ≡ n
  -- a number up to 3 is accepted, any other is turned away
  pub taken : (n : ℕ) → n ≤ 3 → unit_named n ≡ Ok (unit_of n)
  pub turned_away : (n : ℕ) → 3 < n → unit_named n ≡ Err no_unit
