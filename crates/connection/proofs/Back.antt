-- The theorems of specs/Back.antt, and the number of an answer. Assumes nothing.
use Rattle.std.specs.Prelude.{Result, Ok, Err, if◌then◌else◌}
use Prim.Native.Nat.{ℕ, ◌≤◌, ◌<◌, ◌%◌}
use mathlib.Core.Path.{◌≡◌, refl, sym, ap, ◌∙◌}
use mathlib.Core.Bool.{Bool, true, false}
use native.Mathlib.Omega.{arith}
use lib.Dec.{eqb, leb}
use borrow.Author.Tests.{eqb-true, eqb-false, leb-true, leb-false, le-leb, lt-leb}
use Rattle.field.specs.Bits.{bits}
use Rattle.field.specs.Handed.{Answers}
use Rattle.field.proofs.Choices.{float, settled, answers}
use Rattle.connection.specs.Channel.{channel_at, channel_of, channel_number, not_valid, number_of, channel_hands}
use Rattle.connection.specs.Unit.{unit_number, unit_at, unit_of, unit_named, no_unit}
use Rattle.connection.specs.Back.{ChannelBack, UnitBack}
use Rattle.connection.specs.declared.Channel.{Channel}
use Rattle.connection.specs.declared.InvalidChannel.{InvalidChannel}
use Rattle.connection.specs.declared.LogicalUnit.{LogicalUnit}

pub channel_number_lem : (n : ℕ) → channel_number (channel_at n) ≡ n
unfolding channel_at
channel_number_lem n =
    simp (float channel_number, settled n 0xF (eqb n 0xF) refl, settled n 0xE (eqb n 0xE) refl, settled n 0 (eqb n 0) refl)

pub channel_answer : (valid : ℕ → Bool) (n : ℕ) {r : Result Channel InvalidChannel} → r ≡ channel_of valid n → Answers r (channel_of valid n) number_of (channel_hands valid n)
unfolding channel_of channel_hands
channel_answer valid n e = answers number_of e (simp (float number_of, channel_number_lem n))

pub channel_back : (valid : ℕ → Bool) → ChannelBack valid
unfolding channel_of
channel_back valid =
    record { back = λ n c e. by n c (valid n) e; taken = λ n h. rw h; turned_away = λ n h. rw h }
  where
    by : (n : ℕ) (c : Channel) (b : Bool) → (if b then Ok (channel_at n) else Err (not_valid n)) ≡ Ok c → channel_number c ≡ n
    by n c true e =
        let same : channel_at n ≡ c = cc in
        ap channel_number (sym same) ∙ channel_number_lem n
    by n c false e =
        let z : ◌≡◌ {A = ℕ} 0 1 = cc in
        omega arith

pub three : (m : ℕ) → m < 4 → (m ≡ 0 → ⊥) → (m ≡ 1 → ⊥) → (m ≡ 2 → ⊥) → m ≡ 3
three m h a b c = omega (arith, a, b, c)

-- a number of two bits is 0, 1, 2 or 3
two_bits : (m : ℕ) → m < 4 → (if eqb m 0 then 0 else if eqb m 1 then 1 else if eqb m 2 then 2 else 3) ≡ m
two_bits m h = by (eqb m 0) (eqb m 1) (eqb m 2) refl refl refl
  where
    by : (a b c : Bool) → eqb m 0 ≡ a → eqb m 1 ≡ b → eqb m 2 ≡ c → (if a then 0 else if b then 1 else if c then 2 else 3) ≡ m
    by true b c i j k = sym (eqb-true m 0 i)
    by false true c i j k = sym (eqb-true m 1 j)
    by false false true i j k = sym (eqb-true m 2 k)
    by false false false i j k = sym (three m h (eqb-false m 0 i) (eqb-false m 1 j) (eqb-false m 2 k))

unit_low : (n : ℕ) → unit_number (unit_of n) ≡ bits 1 0 n
unfolding unit_of
unit_low n = simp (float unit_number) (two_bits (n % 4) (omega arith))

pub unit_is : (n k : ℕ) → bits 1 0 n ≡ k → unit_at k ≡ unit_of n
unfolding unit_of
unit_is n k e = ap unit_at (sym e)

pub unit_taken : (n : ℕ) → n ≤ 3 → unit_named n ≡ Ok (unit_of n)
unfolding unit_named
unit_taken n h = rw (le-leb n 3 h)

pub unit_turned_away : (n : ℕ) → 3 < n → unit_named n ≡ Err no_unit
unfolding unit_named
unit_turned_away n h = rw (lt-leb n 3 h)

unit_named_lem : (n : ℕ) (u : LogicalUnit) (b : Bool) → leb n 3 ≡ b → unit_named n ≡ Ok u → unit_number u ≡ n
unit_named_lem n u true t e =
    let h = leb-true n 3 t in
    let same : unit_of n ≡ u = cc (unit_taken n h) in
    ap unit_number (sym same) ∙ unit_low n ∙ omega arith
unit_named_lem n u false t e =
    let z : ◌≡◌ {A = ℕ} 0 1 = cc (unit_turned_away n (leb-false n 3 t)) in
    omega arith

pub unit_back : UnitBack
unit_back =
    record { low = unit_low; back = λ n u e. unit_named_lem n u (leb n 3) refl e; taken = unit_taken; turned_away = unit_turned_away }
