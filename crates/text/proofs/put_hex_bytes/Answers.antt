-- `text::put_hex_bytes` meets its contract: before each byte, those before it have been put. Assumes nothing.
use native.Mathlib.Numerals.{add-one}
use native.Mathlib.Omega.{arith}
use Rattle.text.proofs.HexBytes.{hex_next, hex_so_far}
use Rattle.text.proofs.Writes.{◌then◌, nothing, put_length}
use Rattle.text.proofs.put_hex_bytes.Goals as goal

pub loop-b-init : goal.loop-b-init
loop-b-init c = nothing _ _ (omega arith)

pub put_hex2-next-requires : goal.put_hex2-next-requires
put_hex2-next-requires c =
    let l = c.loop-b in
    let long = hex_so_far c.args.«data».now l.b-index (omega arith) in
    omega (arith, long, put_length l.invariant, l.invariant.ends, c.loop-b-test.true)

pub loop-b-preserved : goal.loop-b-preserved
loop-b-preserved c = rw (add-one, hex_next _ _ c.loop-b-test.true) (c.loop-b.invariant then c.put_hex2-next.ensures)
