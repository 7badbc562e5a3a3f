-- `length_of_kind` meets its contract: each answer by its number. Assumes nothing.
use mathlib.Core.Path.{◌∙◌}
use Rattle.flat_form.specs.Form.{decided}
use Rattle.flat.proofs.LengthSaid.{length_told}
use Rattle.flat.proofs.lengths.length_of_kind.Goals as goal

pub returns-in-Ok : goal.returns-in-Ok
unfolding decided
returns-in-Ok c = c.written.ensures ∙ length_told _ _ c.length_answer.ensures.decoded c.in-Ok.is

pub returns-in-Err-NotEnoughData : goal.returns-in-Err-NotEnoughData
unfolding decided
returns-in-Err-NotEnoughData c =
    let a = c.in-Err-NotEnoughData in
    c.too_short.ensures ∙ length_told _ _ c.length_answer.ensures.decoded (rw a.field-0-is at a.is)

pub returns-in-Err-TooLong : goal.returns-in-Err-TooLong
unfolding decided
returns-in-Err-TooLong c =
    let a = c.in-Err-TooLong in
    c.too_long.ensures ∙ length_told _ _ c.length_answer.ensures.decoded (rw a.field-0-is at a.is)
