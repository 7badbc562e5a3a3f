-- What the functions for a record read by parts say, by the table of numbers, and what they leave. Assumes nothing.
use Rattle.std.specs.Prelude.{ℕ, ◌≡◌, List}
use Rattle.partial.specs.Join.{after, held, joining}
use Rattle.partial.specs.Reads.{reads_hands}
use Rattle.partial.specs.Request.{part_hands}
use Rattle.partial.specs.declared.GetEntryPart.{GetEntryPart}
use Rattle.partial.specs.declared.Joining.{Joining}
use Rattle.flat_form.specs.Form.{Gives, refusal}
use Rattle.flat_form.specs.declared.SelAnswer.{SelAnswer}
use Rattle.flat_parts.specs.Parts.{part_flat, reads_flat}
use Rattle.abi.specs.Parts.{JoinsPart}
use Rattle.abi.specs.declared.parts.SelJoined.{SelJoined}

pub record PartsSay : Type 0 where
  -- `sel_reads` and `sel_request_part` say the number of the library's function, with what it carries
  pub reads : (m : ℕ) (out left : List ℕ) (r : SelAnswer) → Gives (reads_flat m) out r left → r ≡ refusal (reads_hands m out)
  pub requests : (g : GetEntryPart) (out left : List ℕ) (r : SelAnswer) → Gives (part_flat g) out r left → r ≡ refusal (part_hands g out)
  -- what `sel_join` hands back is the joining with which it is called for the next answer, so that its calls are answers handed in one after the other
  pub goes_on : (j : Joining) (s old left : List ℕ) (r : SelJoined) → JoinsPart j s old r left
      → held (joining j.most r.got r.next) left ≡ after (held j old) s
  -- a refused answer leaves all as it was
  pub unjoined : (j : Joining) (s old left : List ℕ) (r : SelJoined) → JoinsPart j s old r left → (r.number ≡ 0 → ⊥)
      → (r.got ≡ j.got) × (r.next ≡ j.next) × (left ≡ old)
