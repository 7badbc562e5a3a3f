-- `sel_join` meets its contract. Assumes nothing.
use native.Mathlib.Omega.{arith}
use Rattle.abi.proofs.Parting.{got_fits, joins, value_fits}
use Rattle.abi.proofs.parts.sel_join.Goals as goal

pub value_in-requires : goal.value_in-requires
value_in-requires c = value_fits c.take-told.ensures

pub returns : goal.returns
returns c = joins c.take-told.ensures c.number_in.ensures c.value_in.ensures

pub overflow_cast-result : goal.overflow_cast-result
overflow_cast-result c = omega (arith, got_fits c.take-told.ensures (omega arith))
