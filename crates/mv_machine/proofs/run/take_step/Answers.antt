use Rattle.std.proofs.Common.{◌+◌}
use Rattle.mv_execution.specs.Instance.{program_of}
use Rattle.mv_machine.specs.States.{config_of}
use Rattle.mv_machine.proofs.Executes.{came-gap-ok}
use Rattle.mv_machine.proofs.run.take_step.Goals as goal

pub returns-else-is_err-clause-counts : goal.returns-else-is_err-clause-counts
returns-else-is_err-clause-counts c =
    came-gap-ok c.execute-outcome.result (program_of c.args.module.now) (config_of c.args.module.now (record c.args.state.now { gap = c.args.state.now.gap + 1 })) (config_of c.args.module.now c.execute-outcome.new.state) c.execute-outcome.ensures.ok
