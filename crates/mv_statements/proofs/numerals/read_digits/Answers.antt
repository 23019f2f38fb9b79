use Rattle.std.proofs.Common.{◌+◌, ◌*◌, ◌<◌, get_or, arith}
use Rattle.mv_statements.specs.Numerals.{hex_digit}
use Rattle.mv_statements.proofs.Digits.{too_large}
use Rattle.mv_statements.proofs.numerals.read_digits.Goals as goal

pub returns-then-next-most : goal.returns-then-next-most
returns-then-next-most c =
    let e = c.in-Some.ensures in
    let h : c.args.most < 16 * c.loop-byte.value + hex_digit (get_or c.args.bytes.now c.loop-byte.byte-index 0) = omega arith in
    too_large c.loop-byte.value c.args.most c.args.bytes.now c.loop-byte.byte-index c.loop-byte-test.true c.loop-byte.invariant.rest h

pub returns-in-None : goal.returns-in-None
returns-in-None c =
    let e = c.in-None.ensures in
    let h : c.args.most < 16 * c.loop-byte.value + hex_digit (get_or c.args.bytes.now c.loop-byte.byte-index 0) = grind arith in
    too_large c.loop-byte.value c.args.most c.args.bytes.now c.loop-byte.byte-index c.loop-byte-test.true c.loop-byte.invariant.rest h
