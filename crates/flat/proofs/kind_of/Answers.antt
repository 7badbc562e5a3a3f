-- `kind_of` meets its contract: each letter has its own kind. Assumes nothing.
use Prim.Native.Nat.{ℕ, ◌≤◌}
use Prim.Native.Char.{code}
use mathlib.Core.Path.{◌≡◌}
use mathlib.Core.Bool.{false}
use native.Mathlib.Omega.{arith}
use borrow.Author.Tests.{ne_eqb}
use lib.Dec.{eqb}
use Rattle.flat.specs.Letters.{kind_of}
use Rattle.flat.proofs.kind_of.Goals as goal

pub returns-then-letter-lt97 : goal.returns-then-letter-lt97
unfolding kind_of
returns-then-letter-lt97 c =
    let letter = c.args.letter in
    let no : (k : ℕ) → code "a" ≤ k → eqb letter k ≡ false = λ k h. ne_eqb letter k (λ e. omega arith) in
    rw (
      no (code "e") (omega arith),
      no (code "g") (omega arith),
      no (code "i") (omega arith),
      no (code "a") (omega arith),
      no (code "r") (omega arith),
      no (code "c") (omega arith),
      no (code "y") (omega arith),
      no (code "p") (omega arith),
      no (code "d") (omega arith),
      no (code "v") (omega arith),
      no (code "x") (omega arith),
      no (code "t") (omega arith),
      no (code "s") (omega arith),
      no (code "n") (omega arith),
      no (code "q") (omega arith),
    )
    c.upper_kind_of.ensures

pub returns-in_default : goal.returns-in_default
unfolding kind_of
returns-in_default c =
    let letter = c.args.letter in
    let r = c.in_default.in_default-own.rest in
    let answers = r.0.0.0.0.0.0.0.0.0 in
    rw (ne_eqb _ _ answers.0.0.0.0.0.1, ne_eqb _ _ answers.0.0.0.0.1, ne_eqb _ _ answers.0.0.0.1, ne_eqb _ _ answers.0.0.1, ne_eqb _ _ answers.0.1, ne_eqb _ _ answers.1)
    (rw (ne_eqb _ _ r.0.0.0.0.0.0.0.0.1, ne_eqb _ _ r.0.0.0.0.0.0.0.1, ne_eqb _ _ r.0.0.0.0.0.0.1, ne_eqb _ _ r.0.0.0.0.0.1, ne_eqb _ _ r.0.0.0.0.1, ne_eqb _ _ r.0.0.0.1, ne_eqb _ _ r.0.0.1, ne_eqb _ _ r.0.1, ne_eqb _ _ r.1)
    (rw (ne_eqb letter (code "D") (λ e. omega arith), ne_eqb letter (code "E") (λ e. omega arith), ne_eqb letter (code "G") (λ e. omega arith), ne_eqb letter (code "L") (λ e. omega arith), ne_eqb letter (code "V") (λ e. omega arith))))

pub returns-in-101 : goal.returns-in-101
unfolding kind_of
returns-in-101 c = rw c.in-101.is

pub returns-in-103 : goal.returns-in-103
unfolding kind_of
returns-in-103 c = rw c.in-103.is

pub returns-in-105 : goal.returns-in-105
unfolding kind_of
returns-in-105 c = rw c.in-105.is

pub returns-in-97 : goal.returns-in-97
unfolding kind_of
returns-in-97 c = rw c.in-97.is

pub returns-in-114 : goal.returns-in-114
unfolding kind_of
returns-in-114 c = rw c.in-114.is

pub returns-in-99 : goal.returns-in-99
unfolding kind_of
returns-in-99 c = rw c.in-99.is

pub returns-in-121 : goal.returns-in-121
unfolding kind_of
returns-in-121 c = rw c.in-121.is

pub returns-in-112 : goal.returns-in-112
unfolding kind_of
returns-in-112 c = rw c.in-112.is

pub returns-in-100 : goal.returns-in-100
unfolding kind_of
returns-in-100 c = rw c.in-100.is

pub returns-in-118 : goal.returns-in-118
unfolding kind_of
returns-in-118 c = rw c.in-118.is

pub returns-in-120 : goal.returns-in-120
unfolding kind_of
returns-in-120 c = rw c.in-120.is

pub returns-in-116 : goal.returns-in-116
unfolding kind_of
returns-in-116 c = rw c.in-116.is

pub returns-in-115 : goal.returns-in-115
unfolding kind_of
returns-in-115 c = rw c.in-115.is

pub returns-in-110 : goal.returns-in-110
unfolding kind_of
returns-in-110 c = rw c.in-110.is

pub returns-in-113 : goal.returns-in-113
unfolding kind_of
returns-in-113 c = rw c.in-113.is
