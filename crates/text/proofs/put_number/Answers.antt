-- `text::put_number` meets its contract. Assumes nothing.
use Rattle.text.proofs.Writes.{◌then◌}
use Rattle.text.proofs.put_number.Goals as goal

pub returns : goal.returns
returns c =
    c.put-next.ensures then c.put_decimal.ensures
