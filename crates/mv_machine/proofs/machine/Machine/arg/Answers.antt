use Rattle.std.proofs.Common.{◌≡◌, ◌∙◌, ◌<◌, ℕ, Some, sym, subst}
use Rattle.std.specs.Prelude.{slice_get}
use Rattle.mv_syntax.specs.declared.ops.ValType.{ValType}
use Rattle.mv_syntax.specs.declared.types.FuncType.{FuncType}
use Rattle.mv_syntax.specs.Sections.{Parts}
use Rattle.mv_execution.specs.Instance.{program_of}
use Rattle.mv_validator.specs.Typing.{func_type}
use Rattle.mv_execution.specs.Run.{param_count, arguments}
use Rattle.mv_execution.specs.Fits.{IsOf, module_context}
use Rattle.mv_machine.specs.States.{config_of}
use Rattle.mv_machine.specs.Executions.{Execution}
use Rattle.mv_machine.proofs.FromOutside.{argument-within, argument-fits}
use Rattle.mv_machine.proofs.machine.Machine.arg.Goals as goal

pub argument-requires-clause-within : goal.argument-requires-clause-within
argument-requires-clause-within c =
    let m = c.self.inside in
    let same = c.module.ensures.same ∙ c.deref-module.ensures in
    subst (λ (p : Parts). c.args.n < param_count (program_of p) c.in-Some.x) (sym same) (argument-within m.«module».value m.state c.args.self.now c.in-Some.x c.args.n c.self.view_is (c.self.invariant c.keeps_memory.ensures) c.in-Some.is c.requires.within)

pub returns-clause-fits : goal.returns-clause-fits
returns-clause-fits c =
    let s = c.self.inside.state in
    let p = c.self.inside.«module».value in
    let v = c.argument.result in
    let same = c.module.ensures.same ∙ c.deref-module.ensures in
    let at = subst (λ (q : Parts). slice_get (arguments (program_of q) (config_of q s)) c.args.n ≡ Some v) same c.argument.ensures in
    subst (λ (e : Execution). (x : ℕ) (t : FuncType) (u : ValType) → e.config.waiting ≡ Some x → func_type (module_context e.parts) x ≡ Some t → slice_get t.params c.args.n ≡ Some u → IsOf u v) c.self.view_is (λ x t u w e is. argument-fits p s x c.args.n v t u (c.self.invariant c.keeps_memory.ensures) w e is at)
