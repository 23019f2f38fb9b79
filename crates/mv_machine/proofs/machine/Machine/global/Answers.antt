use Rattle.std.proofs.Common.{◌≡◌, ◌<◌, Some, length, refl, sym, subst, arith}
use Rattle.std.specs.Prelude.{slice_get}
use Rattle.mv_syntax.specs.declared.module.Global.{Global}
use Rattle.mv_execution.specs.Fits.{IsOf}
use Rattle.mv_machine.specs.Executions.{Execution}
use Rattle.std.proofs.lemmas.Option.{slice_get_read}
use Rattle.mv_machine.proofs.Instances.{global-there, global-fits}
use Rattle.mv_machine.proofs.machine.Machine.global.Goals as goal

pub index-requires : goal.index-requires
index-requires c =
    let at = subst (λ (e : Execution). c.args.n < length e.parts.globals) (sym c.self.view_is) c.requires in
    let within = global-there c.self.inside.«module».value c.self.inside.state c.args.n (c.self.invariant c.keeps_memory.ensures) at in
    omega (arith, within, c.self.inside.state.store.globals.ok.0)

pub returns-clause-is : goal.returns-clause-is
returns-clause-is c =
    let at = subst (λ (e : Execution). c.args.n < length e.parts.globals) (sym c.self.view_is) c.requires in
    let within = global-there c.self.inside.«module».value c.self.inside.state c.args.n (c.self.invariant c.keeps_memory.ensures) at in
    let values = c.self.inside.state.store.globals.items in
    let read = slice_get_read values (length values) c.args.n c.index.result.now refl within c.index.ensures in
    subst (λ (e : Execution). slice_get e.config.store.globals c.args.n ≡ Some c.index.result.now) c.self.view_is read

pub returns-clause-fits : goal.returns-clause-fits
returns-clause-fits c =
    let s = c.self.inside.state in
    let p = c.self.inside.«module».value in
    let fine = c.self.invariant c.keeps_memory.ensures in
    let at = subst (λ (e : Execution). c.args.n < length e.parts.globals) (sym c.self.view_is) c.requires in
    let values = s.store.globals.items in
    let read = slice_get_read values (length values) c.args.n c.index.result.now refl (global-there p s c.args.n fine at) c.index.ensures in
    subst (λ (e : Execution). (g : Global) → slice_get e.parts.globals c.args.n ≡ Some g → IsOf g.vtype c.index.result.now) c.self.view_is (λ g e. global-fits p s c.args.n c.index.result.now g fine e read)
