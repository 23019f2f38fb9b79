use Rattle.std.proofs.Common.{sym, arith}
use Rattle.mv_writer.proofs.Groups.{more_groups}
use Rattle.mv_writer.proofs.numbers.+push_groups.Goals as goal

pub returns : goal.returns
returns t c = rw (more_groups c.args.groups c.args.value c.args.out.now.items (omega arith) c.if-value-lt128.false, sym c.in_ok-push-2.ensures.items) c.push_groups.ensures
