use Rattle.std.proofs.Common.{◌≡◌, ◌-◌, ◌+◌}
use Rattle.mv_execution.specs.Instance.{program_of}
use Rattle.mv_execution.specs.Run.{run}
use Rattle.mv_machine.specs.States.{config_of, IsFine}
use Rattle.mv_machine.proofs.run.run.Given as goal

abbrev pub invariant-loop : goal.invariant-loop
invariant-loop l = record {
  fine : IsFine l.module l.state;
  gap : l.state.gap ≡ l.fn.state.gap + l.counter;
  same : run (program_of l.module) l.fuel (config_of l.module l.fn.state) ≡ run (program_of l.module) (l.fuel - l.counter) (config_of l.module l.state);
}
