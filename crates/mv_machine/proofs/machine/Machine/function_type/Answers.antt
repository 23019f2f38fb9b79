use Rattle.std.proofs.Common.{Bool, true, false, ◌≡◌, ◌∙◌, Some, None, sym, subst}
use Rattle.mv_validator.specs.Typing.{func_type}
use Rattle.mv_validator.specs.Valid.{IsValid}
use Rattle.mv_syntax.specs.Sections.{Parts}
use Rattle.mv_execution.specs.Config.{Function}
use Rattle.mv_execution.specs.Instance.{program_of}
use Rattle.mv_execution.specs.Fits.{module_context}
use Rattle.std.specs.Prelude.{slice_get}
use Rattle.mv_machine.specs.Calls.{HasFunction}
use Rattle.mv_machine.specs.Executions.{Execution}
use Rattle.mv_machine.proofs.Instances.{none-there, type-there}
use Rattle.mv_machine.proofs.machine.Machine.function_type.Goals as goal

pub returns-then-has_function-clause-there : goal.returns-then-has_function-clause-there
returns-then-has_function-clause-there c =
    let p = c.self.inside.«module».value in
    let x = c.args.x in
    let first = c.module.ensures.same ∙ c.deref-module.ensures in
    let second = c.module-then-has_function.ensures.same ∙ c.deref-module.ensures in
    let there = subst (λ (q : Parts). HasFunction q x) first (c.has_function.ensures.0 c.if-has_function.true) in
    let is = subst (λ (q : Parts). (function : Function) → slice_get (program_of q).functions x ≡ Some function → c.function_type.result.now ≡ function.ftype) second c.function_type.ensures in
    let typed = type-there p c.self.inside.state x c.function_type.result.now (subst IsValid first c.module.ensures.valid) (c.self.invariant c.keeps_memory.ensures) there is in
    subst (λ (e : Execution). func_type (module_context e.parts) x ≡ Some c.function_type.result.now) c.self.view_is typed

pub returns-else-has_function-clause-none : goal.returns-else-has_function-clause-none
returns-else-has_function-clause-none c =
    let p = c.self.inside.«module».value in
    let x = c.args.x in
    let first = c.module.ensures.same ∙ c.deref-module.ensures in
    let none = none-there p x (λ h. is-false c.has_function.result c.if-has_function.false (c.has_function.ensures.1 (subst (λ (q : Parts). HasFunction q x) (sym first) h))) in
    λ e. subst (λ (e : Execution). func_type (module_context e.parts) x ≡ None) c.self.view_is none
  where
    is-false : (b : Bool) → b ≡ false → b ≡ true → ⊥
    is-false b e t = cc
