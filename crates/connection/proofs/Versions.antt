-- The one test of a channel, over the sets of the versions; the numbers that name a version; the theorem of specs/Versions.antt. Assumes nothing.
use Prim.Native.Nat.{ℕ, ◌≤◌, ◌<◌}
use mathlib.Core.Path.{◌≡◌, refl, sym, ap, ◌∙◌}
use mathlib.Core.Bool.{Bool, true, false, ◌||◌}
use mathlib.Core.Logic.{◌↔◌, ◌⊎◌, inl, inr, ⊎_elim}
use native.Mathlib.Omega.{arith}
use native.Mathlib.Decide.{dec_le, ℕ_discrete}
use borrow.Author.Tests.{eq-eqb, ne_eqb, le-leb, lt-leb}
use lib.Dec.{eqb, leb}
use Rattle.field.specs.Handed.{Answers}
use Rattle.field.proofs.Choices.{clash}
use Rattle.std.specs.Prelude.{Result, Ok, Err}
use Rattle.connection.specs.Channel.{channel_at, channel_hands, channel_of, not_valid, number_of, valid_channel}
use Rattle.connection.specs.Version.{is_version, last_numbered, no_version, valid_by, valid_channel15, valid_in, valid_to, version_of}
use Rattle.connection.specs.Versions.{Inside, NoVersion, Versions}
use Rattle.connection.specs.declared.Channel.{Channel}
use Rattle.connection.specs.declared.UnnamedVersion.{UnnamedVersion}
use Rattle.connection.specs.declared.Version.{Version}
use Rattle.connection.proofs.Back.{channel_answer}

-- each version's set, by its last numbered channel
pub valid_to_lem : (v : Version) → valid_to (last_numbered v) ≡ valid_in v
unfolding valid_to valid_channel valid_channel15
valid_to_lem Version.V1_5 = refl
valid_to_lem Version.V2_0 = refl

-- the test, of a version
pub tested : (v : Version) (n : ℕ) {last : ℕ} {t : Bool} → last ≡ last_numbered v → t ≡ valid_to last n → t ≡ valid_in v n
tested v n l e = e ∙ rw l (ap (λ (valid : ℕ → Bool). valid n) (valid_to_lem v))

-- from the test and the channel to the answer, over any set of channels
module _ (valid : ℕ → Bool) (n : ℕ) where
  pub held : {t : Bool} {c : Channel} → t ≡ valid n → t ≡ true → c ≡ channel_at n
      → Answers (Ok c) (channel_of valid n) number_of (channel_hands valid n)
  unfolding channel_of
  held e t c = channel_answer valid n (rw (← e, t, c))

  pub not_held : {t : Bool} → t ≡ valid n → t ≡ false → Answers (Err (not_valid n)) (channel_of valid n) number_of (channel_hands valid n)
  unfolding channel_of
  not_held e t = channel_answer valid n (rw (← e, t))

-- a set whose numbered channels end at `last` lacks, up to Fh, those behind it up to Dh
reserved : (last n : ℕ) → last < 0xD → n ≤ 0xF → ((leb n last || eqb n 0xE || eqb n 0xF) ≡ false) ↔ ((last < n) × (n ≤ 0xD))
reserved last n l h = (by (dec_le n last) (ℕ_discrete n 0xE) (ℕ_discrete n 0xF), back)
  where
    by : Dec (n ≤ last) → Dec (n ≡ 0xE) → Dec (n ≡ 0xF) → (leb n last || eqb n 0xE || eqb n 0xF) ≡ false → (last < n) × (n ≤ 0xD)
    by (yes p) q r z = absurd (clash (rw (le-leb n last p)) z)
    by (no p) (yes q) r z = absurd (clash (rw (lt-leb n last (omega arith), eq-eqb n 0xE q)) z)
    by (no p) (no q) (yes r) z = absurd (clash (rw (lt-leb n last (omega arith), ne_eqb n 0xE q, eq-eqb n 0xF r)) z)
    by (no p) (no q) (no r) z = (omega arith, omega (arith, q, r))

    back : (last < n) × (n ≤ 0xD) → (leb n last || eqb n 0xE || eqb n 0xF) ≡ false
    back b = simp (lt-leb n last b.0, ne_eqb n 0xE (λ e. omega (arith, b.1)), ne_eqb n 0xF (λ e. omega (arith, b.1)))

-- a number is in both sets or in neither, or it is 8h to Bh
which : (n : ℕ) → (valid_channel15 n ≡ valid_channel n) ⊎ ((0x8 ≤ n) × (n ≤ 0xB))
unfolding valid_channel valid_channel15
which n = by (dec_le n 0x7) (dec_le n 0xB)
  where
    by : Dec (n ≤ 0x7) → Dec (n ≤ 0xB) → (valid_channel15 n ≡ valid_channel n) ⊎ ((0x8 ≤ n) × (n ≤ 0xB))
    by (yes p) q = inl (rw (le-leb n 0x7 p, le-leb n 0xB (omega arith)))
    by (no p) (yes q) = inr (omega arith, q)
    by (no p) (no q) = inl (rw (lt-leb n 0x7 (omega arith), lt-leb n 0xB (omega arith)))

pub besides : (n : ℕ) → ((valid_channel n ≡ true) × (valid_channel15 n ≡ false)) ↔ ((0x8 ≤ n) × (n ≤ 0xB))
unfolding valid_channel valid_channel15
besides n = (
  λ p. ⊎_elim (λ e. absurd (clash (e ∙ p.0) p.1)) (λ b. b) (which n),
  λ b. (
    rw (le-leb n 0xB b.1),
    simp (lt-leb n 0x7 (omega (arith, b.0)), ne_eqb n 0xE (λ e. omega (arith, b.1)), ne_eqb n 0xF (λ e. omega (arith, b.1))),
  ),
)

pub inside_15 : Inside valid_channel15 valid_channel
inside_15 n e = ⊎_elim (λ x. sym x ∙ e) (λ b. ((besides n).1 b).0) (which n)

-- what a number names
pub data Naming (b : ℕ) : Type 0 where
  older : b ≡ 0x51 → version_of b ≡ Ok Version.V1_5 → Naming b
  newer : b ≡ 0x02 → version_of b ≡ Ok Version.V2_0 → Naming b
  none : NoVersion b → version_of b ≡ Err no_version → Naming b

pub naming : (b : ℕ) → Naming b
unfolding version_of
naming b = by (ℕ_discrete b 0x51) (ℕ_discrete b 0x02)
  where
    by : Dec (b ≡ 0x51) → Dec (b ≡ 0x02) → Naming b
    by (yes p) q = older p (rw p)
    by (no p) (yes q) = newer q (rw q)
    by (no p) (no q) = none (p, q) (rw (ne_eqb b 0x51 p, ne_eqb b 0x02 q))

-- a number for each answer, by which they are told apart
abbrev place : Result Version UnnamedVersion → ℕ
place (Ok Version.V1_5) = 0
place (Ok Version.V2_0) = 1
place (Err e) = 2

named_older : (b : ℕ) → (version_of b ≡ Ok Version.V1_5) ↔ (b ≡ 0x51)
unfolding version_of
named_older b = (λ e. by (naming b) e, λ e. rw e)
  where
    by : Naming b → version_of b ≡ Ok Version.V1_5 → b ≡ 0x51
    by (older p q) e = p
    by (newer p q) e = absurd (omega (arith, ap place (sym q ∙ e)))
    by (none p q) e = absurd (omega (arith, ap place (sym q ∙ e)))

named_newer : (b : ℕ) → (version_of b ≡ Ok Version.V2_0) ↔ (b ≡ 0x02)
unfolding version_of
named_newer b = (λ e. by (naming b) e, λ e. rw e)
  where
    by : Naming b → version_of b ≡ Ok Version.V2_0 → b ≡ 0x02
    by (older p q) e = absurd (omega (arith, ap place (sym q ∙ e)))
    by (newer p q) e = p
    by (none p q) e = absurd (omega (arith, ap place (sym q ∙ e)))

named_none : (b : ℕ) → (version_of b ≡ Err no_version) ↔ NoVersion b
unfolding version_of
named_none b = (λ e. by (naming b) e, λ n. rw (ne_eqb b 0x51 n.0, ne_eqb b 0x02 n.1))
  where
    by : Naming b → version_of b ≡ Err no_version → NoVersion b
    by (older p q) e = absurd (omega (arith, ap place (sym q ∙ e)))
    by (newer p q) e = absurd (omega (arith, ap place (sym q ∙ e)))
    by (none p q) e = p

pub versions : Versions
unfolding valid_channel valid_channel15
versions =
    record {
      reserved15 = λ n h. reserved 0x7 n (omega arith) h;
      reserved20 = λ n h. reserved 0xB n (omega arith) h;
      inside = inside_15;
      besides = besides;
      older = named_older;
      newer = named_newer;
      unnamed = named_none;
    }

-- by a number that names a version, its valid channels are the version's
pub named : (b : ℕ) (v : Version) → Ok v ≡ version_of b → (is_version b ≡ true) × (valid_by b ≡ valid_in v)
named b Version.V1_5 e = let p = (named_older b).0 (sym e) in (rw p, rw p)
named b Version.V2_0 e = let p = (named_newer b).0 (sym e) in (rw p, rw p)

pub unnamed : (b : ℕ) → Err no_version ≡ version_of b → is_version b ≡ false
unnamed b e = let n = (named_none b).0 (sym e) in rw (ne_eqb b 0x51 n.0, ne_eqb b 0x02 n.1)
