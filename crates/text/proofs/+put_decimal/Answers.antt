-- `text::put_decimal` meets its contract: one digit, or two, or those of the hundredth part and two more. Assumes nothing.
use mathlib.Core.Path.{ap}
use native.Mathlib.Omega.{arith}
use lib.ListN.{length, length-append}
use Rattle.text.proofs.Decimal.{decimal_small, decimal_pair, decimal_hundreds}
use Rattle.text.proofs.Writes.{◌then◌, put_length}
use Rattle.text.proofs.+put_decimal.Goals as goal

pub put_byte-requires : goal.put_byte-requires
put_byte-requires t c = omega (arith, ap length (decimal_small c.args.n (omega arith)))

pub returns-then-n-lt10 : goal.returns-then-n-lt10
returns-then-n-lt10 t c = rw (decimal_small c.args.n (omega arith), ← c.digit.ensures) c.put_byte.ensures

pub put_last_two-requires : goal.put_last_two-requires
put_last_two-requires t c = omega (arith, ap length (decimal_pair c.args.n (omega arith) (omega arith)))

pub returns-then-n-lt100 : goal.returns-then-n-lt100
returns-then-n-lt100 t c = rw (decimal_pair c.args.n (omega arith) (omega arith)) c.put_last_two.ensures

pub put_decimal-next-requires : goal.put_decimal-next-requires
put_decimal-next-requires t c =
    let e = simp length-append at (ap length (decimal_hundreds c.args.n (omega arith) (omega arith))) in
    (omega arith, omega arith)

pub put_last_two-requires-2 : goal.put_last_two-requires-2
put_last_two-requires-2 t c =
    let e = simp length-append at (ap length (decimal_hundreds c.args.n (omega arith) (omega arith))) in
    omega (arith, put_length c.put_decimal-next.ensures)

pub returns : goal.returns
returns t c = rw (decimal_hundreds c.args.n (omega arith) (omega arith)) (c.put_decimal-next.ensures then c.put_last_two-2.ensures)
