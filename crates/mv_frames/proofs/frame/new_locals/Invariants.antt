use Rattle.std.proofs.Common.{◌≡◌, ◌++◌, replicate}
use Rattle.mv_frames.proofs.frame.new_locals.Given as goal

abbrev pub invariant-loop : goal.invariant-loop
invariant-loop l = l.locals.items ≡ l.arguments ++ replicate l.counter 0
