-- An answer that is joined, in numbers. Assumes nothing.
use Prim.Native.Nat.{ℕ, ◌<◌, ◌≤◌}
use mathlib.Core.Path.{◌≡◌, ap}
use mathlib.Core.List.{List}
use Rattle.field.specs.Handed.{value_of}
use Rattle.partial.specs.Join.{Held, JoinAnswer, Takes, after, held, number_of}
use Rattle.partial.specs.declared.Joining.{Joining}
use Rattle.partial.proofs.Rows.{value_few}
use Rattle.partial.proofs.Taking.{got_few}
use Rattle.abi.specs.Parts.{JoinsPart}

module _ {j k : Joining} {s old left : List ℕ} {t : JoinAnswer} (p : Takes (held j old) s t (held k left)) where
  -- the joining after it
  state : k ≡ (after (held j old) s).state
  state = ap (λ (h : Held). h.state) p.leaves

  pub joins : {n v : ℕ} → n ≡ (number_of t).number → v ≡ value_of (number_of t)
      → JoinsPart j s old (record { number = n; value = v; next = k.next; got = k.got }) left
  joins d e = record { answered = rw (d, e, p.answered, state); leaves = ap (λ (h : Held). h.bytes) p.leaves }

  pub value_fits : value_of (number_of t) ≤ 18
  value_fits = rw p.answered (value_few (held j old) s)

  pub got_fits : j.got < 256 → k.got < 256
  got_fits g = rw state (got_few (held j old) s g)
