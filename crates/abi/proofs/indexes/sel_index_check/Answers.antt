-- `sel_index_check` meets its contract. Assumes nothing.
use mathlib.Core.Path.{◌≡◌, sym, ◌∙◌}
use mathlib.Core.Bool.{false}
use lib.ListN.{length}
use Rattle.capture.specs.Length.{bad_length}
use Rattle.capture.proofs.Length.{told}
use Rattle.abi.proofs.Indexing.{is_bad, is_right, is_wrong}
use Rattle.abi.proofs.indexes.sel_index_check.Goals as goal

pub returns-in-Err : goal.returns-in-Err
returns-in-Err c = is_bad _ _ (told _ (sym c.slots_answer.ensures.decoded ∙ c.in-Err.is)).0

pub returns-then-check_index : goal.returns-then-check_index
returns-then-check_index c =
    let sound : bad_length (length c.args.slots.now) ≡ false = (told _ (sym c.slots_answer.ensures.decoded ∙ c.in-Ok.is)).0 in
    is_right _ _ (sound) (sym c.check_index.ensures.answered ∙ c.if-check_index.true)

pub returns-else-check_index : goal.returns-else-check_index
returns-else-check_index c =
    let sound : bad_length (length c.args.slots.now) ≡ false = (told _ (sym c.slots_answer.ensures.decoded ∙ c.in-Ok.is)).0 in
    is_wrong _ _ (sound) (sym c.check_index.ensures.answered ∙ c.if-check_index.false)
