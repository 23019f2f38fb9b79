use Rattle.mv_execution.proofs.Modules.{typed-program, new-fits}
use Rattle.mv_execution.proofs.Runs.{run-fits, entered-fits, answered-fits, arguments-fit, element-fits, memory-fits, gap-fits}
use Rattle.mv_execution.proofs.ValidModules.{valid-typed}
use Rattle.mv_execution.proofs.laws.typed_code_is_never_stuck.Goals as goal

pub returns : goal.returns
returns c = record { typed = valid-typed; program = typed-program; begins = new-fits; run = run-fits; entered = entered-fits; answered = answered-fits; arguments = arguments-fit; element = element-fits; memory = memory-fits; gap = gap-fits }
