-- `text::put_hex2` meets its contract: the high digit and then the low one. Assumes nothing.
use Rattle.text.proofs.Writes.{◌then◌}
use Rattle.text.proofs.put_hex2.Goals as goal

pub returns : goal.returns
returns c = c.put_hex1-next.ensures then c.put_hex1.ensures
