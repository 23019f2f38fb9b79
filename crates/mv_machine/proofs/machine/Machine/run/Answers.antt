use Rattle.std.proofs.Common.{◌∙◌, List, subst}
use Rattle.mv_syntax.specs.declared.ops.ValType.{ValType}
use Rattle.mv_syntax.specs.Sections.{Parts}
use Rattle.mv_execution.specs.Instance.{program_of}
use Rattle.mv_machine.specs.States.{config_of}
use Rattle.mv_execution.specs.Fits.{FitsConfig, module_context}
use Rattle.mv_machine.specs.Turns.{StopIs}
use Rattle.mv_machine.specs.Stops.{StopStands, StopFits}
use Rattle.mv_machine.specs.Executions.{Execution}
use Rattle.mv_machine.proofs.FromOutside.{stop-stands, stop-fits}
use Rattle.mv_machine.proofs.machine.Machine.run.Goals as goal

pub returns-clause-stands : goal.returns-clause-stands
returns-clause-stands c =
    let p = c.module.result.now in
    subst (λ (q : Parts). StopStands c.run.result (config_of q c.run.new.state)) (c.module.ensures.same ∙ c.deref-module.ensures) (stop-stands c.run.result (program_of p) c.args.fuel (config_of p c.self.inside.state) (config_of p c.run.new.state) c.run.ensures.stop)

pub returns-clause-fits : goal.returns-clause-fits
returns-clause-fits c =
    let s = c.self.inside.state in
    let p = c.self.inside.«module».value in
    let new = c.run.new.state in
    let same = c.module.ensures.same ∙ c.deref-module.ensures in
    let stop = subst (λ (q : Parts). StopIs c.run.result (program_of q) c.args.fuel (config_of q s) (config_of q new)) same c.run.ensures.stop in
    let fine = c.self.invariant c.keeps_memory.ensures in
    subst (λ (e : Execution). (gs : List ValType) → FitsConfig (module_context e.parts) gs e.config → StopFits (module_context e.parts) gs c.run.result (config_of p new)) c.self.view_is (λ gs h. stop-fits c.run.result (module_context p) gs (program_of p) c.args.fuel (config_of p s) (config_of p new) fine.program h stop)
