-- `text::put_named1` meets its contract. Assumes nothing.
use Rattle.text.proofs.Writes.{◌then◌}
use Rattle.text.proofs.put_named1.Goals as goal

pub returns : goal.returns
returns c =
    c.put-next.ensures then c.put_hex1.ensures
