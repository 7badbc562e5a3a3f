-- A function of a choice by what is asked of a part is the choice of its values. Assumes nothing.
use Rattle.std.specs.Prelude.{if◌then◌else◌}
use mathlib.Core.Path.{◌≡◌, ap, ◌∙◌}
use lib.Dec.{eqb}
use Rattle.field.proofs.Choices.{float}
use Rattle.partial.specs.Request.{may_ask, no_part}
use Rattle.partial.specs.declared.GetEntryPart.{GetEntryPart}

pub may_float : {A B : Type 0} (f : A → B) (g : GetEntryPart) (none bad good : A) → f (may_ask g none bad good) ≡ may_ask g (f none) (f bad) (f good)
may_float {A} {B} f g none bad good =
    float f (eqb g.reservation_id.0 0) _ _
    ∙ ap (λ (rest : B). if eqb g.reservation_id.0 0 then f none else rest) (float f (no_part g.offset g.bytes_to_read) bad good)
