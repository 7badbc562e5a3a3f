-- `sel_walk_indexed` meets its contract. Assumes nothing.
use Rattle.std.specs.Prelude.{Ok, Err}
use Rattle.abi.proofs.Indexing.{counted_few}
use Rattle.abi.proofs.indexes.sel_walk_indexed.Goals as goal

pub in_numbers-requires : goal.in_numbers-requires
in_numbers-requires c = counted_few _ _ _ _ c.walk_indexed.ensures (Ok c.in-Ok.verdict) c.in-Ok.is

pub in_numbers-requires-in-Err-Capture : goal.in_numbers-requires-in-Err-Capture
in_numbers-requires-in-Err-Capture c =
    let a = c.in-Err-Capture in
    counted_few _ _ _ _ c.walk_indexed.ensures (Err a.e) (rw a.field-0-is at a.is)
