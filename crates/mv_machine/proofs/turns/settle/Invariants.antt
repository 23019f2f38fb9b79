use Rattle.std.proofs.Common.{◌≡◌}
use Rattle.std.specs.Prelude.{reverse}
use Rattle.mv_execution.specs.Run.{settled}
use Rattle.mv_machine.specs.States.{config_of, IsFine, open_count}
use Rattle.mv_machine.proofs.turns.settle.Given as goal

abbrev pub invariant-loop-x : goal.invariant-loop-x
invariant-loop-x l = record {
  fine : IsFine l.module l.state;
  same : settled (config_of l.module l.fn.state) ≡ settled (config_of l.module l.state);
  gap : l.state.gap ≡ l.fn.state.gap;
}

abbrev pub decreases-loop-x : goal.decreases-loop-x
decreases-loop-x l = open_count (reverse l.state.frames.items)
