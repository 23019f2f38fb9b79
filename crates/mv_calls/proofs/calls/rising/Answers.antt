-- At the end at most one event is left.
use Rattle.std.proofs.Common.{arith, sym, ◌∙◌, ◌-◌}
use Rattle.mv_calls.proofs.RoomLaws.{last_rising}
use Rattle.mv_calls.proofs.calls.rising.Goals as goal

pub returns : goal.returns
returns c =
    sym (last_rising c.args.happenings.now (c.loop-next.next - 1) (omega arith)) ∙ c.loop-next.invariant.1
