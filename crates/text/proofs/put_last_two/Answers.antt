-- `text::put_last_two` meets its contract: the tens and then the ones. Assumes nothing.
use Rattle.text.proofs.Writes.{◌then◌}
use Rattle.text.proofs.put_last_two.Goals as goal

pub returns : goal.returns
returns c =
    rw (← c.digit.ensures, ← c.digit-2.ensures)
    (c.put_byte-next.ensures then c.put_byte.ensures)
