-- `sel_slots_length` meets its contract. Assumes nothing.
use mathlib.Core.Path.{sym, ◌∙◌}
use Rattle.capture.proofs.Length.{is_bad, told}
use Rattle.abi.proofs.walk.sel_slots_length.Goals as goal

pub returns-in-Err : goal.returns-in-Err
returns-in-Err c = rw (is_bad _ (told _ (sym c.slots_answer.ensures.decoded ∙ c.in-Err.is)).0)
