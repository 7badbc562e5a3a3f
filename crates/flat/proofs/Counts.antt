-- The theorem of specs/Counts.antt: neither the number nor the flat bytes look further. Assumes nothing.
use Rattle.std.specs.Prelude.{Option, Ok}
use Prim.Native.Nat.{ℕ}
use mathlib.Core.Path.{◌≡◌, refl, sym, subst, ◌∙◌}
use mathlib.Core.List.{List, ◌++◌}
use lib.ListN.{length, drop, take}
use Rattle.field.proofs.Parts.{each, front}
use Rattle.connection.specs.Channel.{valid_channel}
use Rattle.answers.specs.Length.{bytes_that_count, length_answer}
use Rattle.answers.specs.declared.AnswerKind.{AnswerKind}
use Rattle.answers.proofs.BytesThatCount.{bytes_that_count_lem}
use Rattle.flat_record.specs.Records.{plain_flat, record_flat, stamped_flat, system_flat}
use Rattle.flat.specs.Counts.{FlatCounts}
use Rattle.flat.specs.Kinds.{answer_flat, flat_by}
use Rattle.flat.specs.declared.Kind.{Kind}
use Rattle.flat.proofs.Rows.{decides}

-- the flat bytes of the bytes that count, written out, and of these with whatever follows
reads : (kind : AnswerKind) (s : List ℕ) → (decides kind).0 (each s 0 (bytes_that_count kind)) ≡ (decides kind).0 (each s 0 (bytes_that_count kind) ++ drop (bytes_that_count kind) s)
unfolding decides record_flat system_flat stamped_flat plain_flat
reads AnswerKind.Entry s = refl
reads AnswerKind.GetEntry s = refl
reads AnswerKind.Info s = refl
reads AnswerKind.Allocation s = refl
reads AnswerKind.Reserve s = refl
reads AnswerKind.Clear s = refl

same : (kind : AnswerKind) (s : List ℕ) → length_answer kind (length s) ≡ Ok tt → answer_flat kind (take (bytes_that_count kind) s) ≡ answer_flat kind s
same kind s e =
    let counts = bytes_that_count_lem valid_channel kind s in
    let d = decides kind in
    d.1 (take (bytes_that_count kind) s)
    ∙ rw (counts.number e, front (bytes_that_count kind) s (λ a b. d.0 a ≡ d.0 b) (counts.there e) (reads kind s), d.1 s)

pub flat_counts : (letter : ℕ) (kind : AnswerKind) (s : List ℕ) → FlatCounts letter kind s
flat_counts letter kind s =
    record { same = λ k e. subst (λ (x : Option Kind). flat_by x (take (bytes_that_count kind) s) ≡ flat_by x s) (sym k) (same kind s e) }
