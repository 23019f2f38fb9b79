use Rattle.std.proofs.Common.{◌+◌, ◌-◌, ◌*◌, ◌<◌, get_or, arith}
use Rattle.mv_scan.proofs.Decimals.{too_large}
use Rattle.mv_scan.proofs.number.read_digits.Goals as goal

pub returns-then-next-max : goal.returns-then-next-max
returns-then-next-max c =
    let e = c.in-Some.ensures in
    let h : c.args.max < 10 * c.loop-byte.value + (get_or c.args.bytes.now c.loop-byte.byte-index 0 - 48) = omega arith in
    too_large c.loop-byte.value c.args.max c.args.bytes.now c.loop-byte.byte-index c.loop-byte-test.true c.loop-byte.invariant.rest h

pub returns-in-None : goal.returns-in-None
returns-in-None c =
    let e = c.in-None.ensures in
    let h : c.args.max < 10 * c.loop-byte.value + (get_or c.args.bytes.now c.loop-byte.byte-index 0 - 48) = grind arith in
    too_large c.loop-byte.value c.args.max c.args.bytes.now c.loop-byte.byte-index c.loop-byte-test.true c.loop-byte.invariant.rest h
