use Rattle.mv_execution.proofs.Slices.{run-goes-on, settled-twice}
use Rattle.mv_execution.proofs.laws.runs_go_on.Goals as goal

pub returns : goal.returns
returns c = record { slices = run-goes-on; settled = settled-twice }
