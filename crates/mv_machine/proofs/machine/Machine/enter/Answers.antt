use Rattle.std.proofs.Common.{◌≡◌, ◌∙◌, [], Some, sym, subst, Ok, Err}
use Rattle.std.specs.Prelude.{Result, OnOk}
use Rattle.mv_syntax.specs.declared.types.FuncType.{FuncType}
use Rattle.mv_syntax.specs.Sections.{Parts}
use Rattle.mv_validator.specs.Types.{operands_of}
use Rattle.mv_validator.specs.Typing.{func_type}
use Rattle.mv_execution.specs.Instance.{program_of}
use Rattle.mv_execution.specs.Run.{entered}
use Rattle.mv_execution.specs.Fits.{FitsConfig, module_context}
use Rattle.mv_execution.proofs.Runs.{entered-fits}
use Rattle.mv_machine.specs.States.{config_of}
use Rattle.mv_machine.specs.Executions.{Execution}
use Rattle.mv_machine.proofs.machine.Machine.enter.Goals as goal

mapped : {A E P Q : Type 0} (r : Result A E) → (P → Q) → OnOk r P → OnOk r Q
mapped (Ok a) f h = f h
mapped (Err e) f h = h

pub returns-clause-gives : goal.returns-clause-gives
returns-clause-gives c = λ t. mapped c.enter_function.result (λ is e. gives t is e) c.enter_function.ensures.ok
  where
    p : Parts
    p = c.self.inside.«module».value

    gives : (t : FuncType) → config_of c.«module».result.now c.enter_function.new.state ≡ entered (program_of c.«module».result.now) c.args.func (config_of c.«module».result.now c.self.inside.state) → func_type (module_context c.args.self.now.parts) c.args.func ≡ Some t → FitsConfig (module_context c.args.self.now.parts) (operands_of t.result) (config_of p c.enter_function.new.state)
    gives t is e =
        let s = c.self.inside.state in
        let new = c.enter_function.new.state in
        let h = c.self.invariant c.keeps_memory.ensures in
        let same = c.«module».ensures.same ∙ c.deref-module.ensures in
        let there = subst (λ (q : Parts). config_of q new ≡ entered (program_of q) c.args.func (config_of q s)) same is in
        subst (λ (x : Execution). x.config.frames ≡ [] → ((u : FuncType) → func_type (module_context x.parts) c.args.func ≡ Some u → u.params ≡ []) → func_type (module_context x.parts) c.args.func ≡ Some t → FitsConfig (module_context x.parts) (operands_of t.result) (config_of p new)) c.self.view_is (λ idle none k. subst (FitsConfig (module_context p) (operands_of t.result)) (sym there) (entered-fits (module_context p) h.gives (program_of p) (config_of p s) c.args.func t h.program h.typed idle k (none t k))) c.requires.idle c.requires.no_parameter e
