-- `text::put_named2` meets its contract. Assumes nothing.
use Rattle.text.proofs.Writes.{◌then◌}
use Rattle.text.proofs.put_named2.Goals as goal

pub returns : goal.returns
returns c =
    c.put-next.ensures then c.put_hex2.ensures
