-- `entry_text` meets its contract. Assumes nothing.
use mathlib.Core.Path.{◌∙◌}
use Rattle.flat_form.proofs.Laws.{gives_is, gives_refusal, gives_written}
use Rattle.flat.proofs.Laws.{entry_text_is}
use Rattle.flat.proofs.texts.entry_text.Goals as goal

pub returns-in-Ok : goal.returns-in-Ok
returns-in-Ok c =
    gives_is (entry_text_is _ c.in-Ok.ensures.decoded) (gives_written c.of_written.ensures c.event_description.ensures)

pub returns-in-Err : goal.returns-in-Err
returns-in-Err c =
    gives_is (entry_text_is _ c.in-Err.ensures.decoded)
    (gives_refusal (c.refused.ensures ∙ rw (c.number.ensures, c.value.ensures)))
