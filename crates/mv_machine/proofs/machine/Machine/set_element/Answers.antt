use Rattle.std.proofs.Common.{◌∙◌, refl, sym, subst}
use Rattle.std.specs.Vec.{with_item}
use Rattle.std.proofs.Common.{Some}
use Rattle.mv_validator.specs.Valid.{IsValid}
use Rattle.mv_machine.specs.Calls.{HasFunction}
use Rattle.mv_machine.specs.Executions.{Execution}
use Rattle.mv_machine.proofs.FromOutside.{has-type}
use Rattle.mv_machine.proofs.Instances.{element-fine}
use Rattle.mv_machine.proofs.machine.Machine.set_element.Goals as goal

pub invariant_of-self : goal.invariant_of-self
invariant_of-self c =
    let p = c.self.inside.«module».value in
    let s = c.self.inside.state in
    let valid = subst IsValid (c.module-module.ensures.same ∙ c.deref-module.ensures) c.module-module.ensures.valid in
    let there = subst (λ (e : Execution). HasFunction e.parts c.args.func) (sym c.self.view_is) c.requires.there in
    let t = has-type p c.args.func valid there in
    λ memory. element-fine p s c.args.at c.args.func (with_item s.store.table c.args.at (Some c.args.func)) refl t.0 t.1 (c.self.invariant memory)
