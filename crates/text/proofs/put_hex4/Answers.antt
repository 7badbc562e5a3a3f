-- `text::put_hex4` meets its contract: the high byte and then the low one. Assumes nothing.
use mathlib.Core.Path.{◌≡◌}
use Prim.Native.Nat.{◌/◌, ◌%◌}
use native.Mathlib.Omega.{arith}
use Rattle.text.proofs.Writes.{◌then◌}
use Rattle.text.proofs.put_hex4.Goals as goal

pub returns : goal.returns
returns c =
    let v = c.args.v in
    let e1 : v / 16 / 16 / 16 % 16 ≡ v / 256 / 16 % 16 = omega arith in
    let e2 : v / 16 / 16 % 16 ≡ v / 256 % 16 = omega arith in
    let e3 : v / 16 % 16 ≡ v % 256 / 16 % 16 = omega arith in
    let e4 : v % 16 ≡ v % 256 % 16 = omega arith in
    rw (e1, e2, e3, e4) (c.put_hex2-next.ensures then c.put_hex2.ensures)
