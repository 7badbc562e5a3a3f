-- `sel_unit` meets its contract. Assumes nothing.
use mathlib.Core.Path.{◌∙◌}
use Rattle.abi.proofs.Laws.{no_unit_lem, unit_is}
use Rattle.abi.proofs.connections.sel_unit.Goals as goal

pub returns-in-Ok : goal.returns-in-Ok
returns-in-Ok c = unit_is _ c.try_from.ensures c.in-Ok.is c.from.ensures

pub returns-in-Err : goal.returns-in-Err
returns-in-Err c = c.no_question.ensures ∙ no_unit_lem _ c.try_from.ensures c.in-Err.is
