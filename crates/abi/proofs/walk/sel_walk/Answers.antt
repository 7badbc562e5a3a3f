-- `sel_walk` meets its contract. Assumes nothing.
use Rattle.abi.proofs.Walking.{counted_few, walks}
use Rattle.abi.proofs.walk.sel_walk.Goals as goal

pub in_numbers-requires : goal.in_numbers-requires
in_numbers-requires c = counted_few _ _ _ c.walk.ensures

pub returns : goal.returns
returns c = walks _ _ _ c.walk.ensures c.in_numbers.ensures
