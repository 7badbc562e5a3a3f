use lib.ListN.{take}
use Rattle.text.specs.Numbers.{hex_bytes}
use Rattle.text.specs.Text.{Put}
use Rattle.text.proofs.put_hex_bytes.Given as goal

abbrev pub invariant-loop-b : goal.invariant-loop-b
invariant-loop-b l = Put l.initial.out l.out l.at l.next (hex_bytes (take l.b-index l.«data»))
