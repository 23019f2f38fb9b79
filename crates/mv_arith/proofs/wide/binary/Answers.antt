use Rattle.std.proofs.Common.{◌%◌, Ok, ap, arith}
use Rattle.mv_arith.specs.Integers.{binary_result}
use Rattle.mv_arith.proofs.Bits.{shifted_left-is, signed_shift-is}
use Rattle.mv_arith.proofs.wide.binary.Goals as goal

pub returns-in-Shl-clause-value : goal.returns-in-Shl-clause-value
unfolding binary_result
returns-in-Shl-clause-value c = rw c.in-Shl.is (ap Ok (shifted_left-is 64 (c.args.b % 64) c.args.a (omega arith)))

pub returns-in-ShrS-clause-value : goal.returns-in-ShrS-clause-value
unfolding binary_result
returns-in-ShrS-clause-value c =
    rw c.in-ShrS.is (ap Ok (signed_shift-is 64 (c.args.b % 64) c.args.a c.signed_shift.result (omega arith) (omega arith) c.signed_shift.ensures.positive c.signed_shift.ensures.negative))
