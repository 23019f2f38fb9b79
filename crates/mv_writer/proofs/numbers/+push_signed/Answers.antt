use Rattle.std.proofs.Common.{◌<◌, sym, arith}
use Rattle.mv_syntax.proofs.Powers.{seven_less}
use Rattle.mv_writer.proofs.Groups.{wide, more_signed}
use Rattle.mv_writer.proofs.numbers.+push_signed.Goals as goal

pub push_signed-requires : goal.push_signed-requires
push_signed-requires t c =
    let h = c.half-half.ensures.half in
    let lt : 7 < c.args.width = wide c.args.width c.args.max c.args.value c.requires.some c.requires.max (omega arith) (omega arith) in
    (omega arith, (seven_less c.args.width c.args.max (omega arith) c.requires.max, (omega arith, omega arith)))

pub returns-then-value-max : goal.returns-then-value-max
returns-then-value-max t c =
    let h = c.half-half.ensures.half in
    rw (more_signed c.args.groups c.args.width c.args.max c.args.value c.args.out.now.items (omega arith) c.requires.some c.requires.max (omega arith) (omega arith), sym c.in_ok-push-2.ensures.items) c.push_signed.ensures
