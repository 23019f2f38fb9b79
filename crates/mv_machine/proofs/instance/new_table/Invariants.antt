use Rattle.std.proofs.Common.{◌≡◌, replicate, None}
use Rattle.mv_machine.proofs.instance.new_table.Given as goal

abbrev pub invariant-loop : goal.invariant-loop
invariant-loop l = l.table.items ≡ replicate l.counter None
