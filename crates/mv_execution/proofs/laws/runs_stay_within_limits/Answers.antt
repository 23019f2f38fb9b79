use Rattle.mv_execution.proofs.Limits.{new-within, run-keeps, entered-keeps, answered-keeps, element-keeps, memory-keeps, gap-keeps}
use Rattle.mv_execution.proofs.laws.runs_stay_within_limits.Goals as goal

pub returns : goal.returns
returns c = record { begins = new-within; run = run-keeps; entered = entered-keeps; answered = answered-keeps; element = element-keeps; memory = memory-keeps; gap = gap-keeps }
