-- The sentences of specs/PartsSay.antt. Assumes nothing.
use Rattle.std.specs.Prelude.{if◌then◌else◌}
use Prim.Native.Nat.{ℕ}
use mathlib.Core.Path.{◌≡◌, sym, ap, ◌∙◌}
use mathlib.Core.List.{List}
use lib.Dec.{eqb}
use Rattle.field.specs.Handed.{no_bytes, no_such_part, unreserved}
use Rattle.field.proofs.Choices.{float}
use Rattle.text.specs.Written.{room_for}
use Rattle.partial.specs.Join.{Held, after, held, joining}
use Rattle.partial.specs.Reads.{pairs, reads_hands, reads_of}
use Rattle.partial.specs.Request.{may_ask, part_hands, part_request}
use Rattle.partial.specs.declared.GetEntryPart.{GetEntryPart}
use Rattle.partial.specs.declared.Joining.{Joining}
use Rattle.partial.proofs.Joins.{stays}
use Rattle.partial.proofs.Taking.{most_kept}
use Rattle.flat_form.specs.Form.{Flat, Gives, flat_answer, from_written, refusal}
use Rattle.flat_form.specs.declared.SelAnswer.{SelAnswer}
use Rattle.flat_parts.specs.Parts.{part_flat, reads_flat}
use Rattle.flat_parts.proofs.Laws.{may_float}
use Rattle.abi.specs.Parts.{JoinsPart}
use Rattle.abi.specs.PartsSay.{PartsSay}
use Rattle.abi.specs.declared.parts.SelJoined.{SelJoined}

reads : (m : ℕ) (out left : List ℕ) (r : SelAnswer) → Gives (reads_flat m) out r left → r ≡ refusal (reads_hands m out)
reads m out left r g =
    g.answered
    ∙ float (λ (f : Flat). flat_answer f out) (eqb m 0) _ _
    ∙ ap (λ (x : SelAnswer). if eqb m 0 then refusal no_bytes else x)
    (float from_written (room_for (pairs (reads_of m)) out) _ _ ∙ sym (float refusal (room_for (pairs (reads_of m)) out) _ _))
    ∙ sym (float refusal (eqb m 0) _ _)

requests : (g : GetEntryPart) (out left : List ℕ) (r : SelAnswer) → Gives (part_flat g) out r left → r ≡ refusal (part_hands g out)
unfolding part_request
requests g out left r p =
    p.answered
    ∙ may_float (λ (f : Flat). flat_answer f out) g _ _ _
    ∙ ap (λ (x : SelAnswer). may_ask g (refusal unreserved) (refusal no_such_part) x)
    (float from_written (room_for (part_request g) out) _ _ ∙ sym (float refusal (room_for (part_request g) out) _ _))
    ∙ sym (may_float refusal g _ _ _)

module _ (j : Joining) (s old left : List ℕ) (r : SelJoined) (p : JoinsPart j s old r left) where
  goes_on_lem : held (joining j.most r.got r.next) left ≡ after (held j old) s
  goes_on_lem =
      let h = after (held j old) s in
      rw (p.answered, p.leaves) (ap (λ (m : ℕ). held (joining m h.state.got h.state.next) h.bytes) (sym (most_kept (held j old) s)))

  unjoined : (r.number ≡ 0 → ⊥) → (r.got ≡ j.got) × (r.next ≡ j.next) × (left ≡ old)
  unjoined n =
      let k = stays (held j old) s (λ z. n (ap (λ (x : SelJoined). x.number) p.answered ∙ z)) in (
        ap (λ (x : SelJoined). x.got) p.answered ∙ ap (λ (h : Held). h.state.got) k,
        ap (λ (x : SelJoined). x.next) p.answered ∙ ap (λ (h : Held). h.state.next) k,
        p.leaves ∙ ap (λ (h : Held). h.bytes) k,
      )

pub parts_say : PartsSay
parts_say = record { reads = reads; requests = requests; goes_on = goes_on_lem; unjoined = unjoined }
