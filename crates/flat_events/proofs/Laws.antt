-- A function of a choice is the choice of its values, on both ways. Assumes nothing.
use Rattle.std.specs.Prelude.{if◌then◌else◌}
use Prim.Native.Nat.{ℕ}
use mathlib.Core.Path.{◌≡◌, ap, ◌∙◌}
use mathlib.Core.Bool.{not}
use mathlib.Core.List.{List}
use lib.Dec.{eqb, ltb}
use lib.ListN.{length}
use Rattle.field.specs.Lengths.{entry_bytes}
use Rattle.field.proofs.Choices.{float}
use Rattle.connection.specs.Channel.{valid_channel}
use Rattle.sel.specs.Entry.{type_at}
use Rattle.platform_event.specs.Message.{channel_beside, message_bytes}
use Rattle.platform_event.specs.Ways.{way_in, way_out}
use Rattle.platform_event.specs.declared.Beside.{Beside}

pub in_float : {A B : Type 0} (f : A → B) (b : Beside) (m : List ℕ) (few many no_channel good : A)
    → f (way_in b m few many no_channel good) ≡ way_in b m (f few) (f many) (f no_channel) (f good)
in_float {A} {B} f b m few many no_channel good =
    float f (ltb (length m) message_bytes) _ _
    ∙ ap (λ (rest : B). if ltb (length m) message_bytes then f few else rest)
    (float f (ltb message_bytes (length m)) _ _
    ∙ ap (λ (rest : B). if ltb message_bytes (length m) then f many else rest) (float f (not (valid_channel (channel_beside b))) no_channel good))

pub out_float : {A B : Type 0} (f : A → B) (s : List ℕ) (few other good : A) → f (way_out s few other good) ≡ way_out s (f few) (f other) (f good)
out_float {A} {B} f s few other good =
    float f (ltb (length s) entry_bytes) _ _
    ∙ ap (λ (rest : B). if ltb (length s) entry_bytes then f few else rest) (float f (not (eqb (type_at s) 0x02)) other good)
