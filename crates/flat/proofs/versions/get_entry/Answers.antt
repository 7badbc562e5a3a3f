-- `get_entry` meets its contract: the first byte names the version, and the rest is the answer. Assumes nothing.
use Rattle.flat_form.proofs.Laws.{gives_is, gives_refusal}
use Rattle.flat.proofs.FirstByte.{behind, no_byte}
use Rattle.flat.proofs.versions.get_entry.Goals as goal

pub returns-then-data-eq0 : goal.returns-then-data-eq0
returns-then-data-eq0 c = gives_is (no_byte _ _ c.if-data-eq0.true) (gives_refusal c.no_question.ensures)

pub returns : goal.returns
returns c =
    gives_is (behind _ _ c.if-data-eq0.false) c.get_entry_of.ensures
