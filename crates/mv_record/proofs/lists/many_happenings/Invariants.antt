use Rattle.std.proofs.Common.{◌≡◌, ◌-◌}
use Rattle.mv_record.specs.Reading.{many_at, happened_at}
use Rattle.mv_record.proofs.Loop.{with_more}
use Rattle.mv_record.proofs.lists.many_happenings.Given as goal

abbrev pub invariant-loop : goal.invariant-loop
invariant-loop l = with_more l.values.items (many_at happened_at (l.count - l.counter) l.rest) ≡ many_at happened_at l.count l.bytes
