use Rattle.std.proofs.Common.{◌≡◌, ◌∙◌, ◌-◌, ◌<◌, ◌≤◌, ap, refl, sym, arith, subst, get_or, length, List, [], ◌∷◌, ◌++◌, Some}
use Rattle.std.specs.Prelude.{slice_get, vec_len}
use Rattle.std.proofs.lemmas.Option.{slice_get_read, get_or_from_slice_get}
use Rattle.mv_syntax.specs.Sections.{Parts}
use Rattle.mv_syntax.specs.declared.module.Import.{Import}
use Rattle.mv_execution.specs.Instance.{defined}
use Rattle.mv_frames.specs.declared.frame.Frame.{Frame as FlatFrame}
use Rattle.mv_machine.proofs.Signatures.{func-at}
use Rattle.mv_machine.proofs.FromOutside.{CanEnter, can-enter, IsFirst, imported-entered, imported-fine, own-entered, own-fine, body-closed}
use Rattle.mv_machine.proofs.outside.enter_function.Goals as goal
use Rattle.mv_machine.proofs.outside.enter_function.Goals.{After-function_type}

pub returns-then-index-imports-clause-ok : goal.returns-then-index-imports-clause-ok
returns-then-index-imports-clause-ok c =
    let imports = c.slice-imports.ensures ∙ ap (λ (p : Parts). p.imports) c.module.view_is in
    imported-entered c.args.module.now c.args.state.now c.args.func (subst (λ (l : List Import). c.args.func < length l) imports c.if-index-imports.true)

pub returns-then-index-imports-clause-fine : goal.returns-then-index-imports-clause-fine
returns-then-index-imports-clause-fine c =
    let imports = c.slice-imports.ensures ∙ ap (λ (p : Parts). p.imports) c.module.view_is in
    let s = c.args.state.now in
    imported-fine c.args.module.now s c.args.func (subst (λ (l : List Import). c.args.func < length l) imports c.if-index-imports.true) (can-enter c.args.module.now s c.args.func (vec_len s.frames) c.requires.valid c.requires.fine s.frames.ok.0 c.requires.idle c.requires.there c.requires.no_parameter)

imports-are : (c : After-function_type) → c.slice-imports.result.now ≡ c.args.module.now.imports
imports-are c = c.slice-imports.ensures ∙ ap (λ (p : Parts). p.imports) c.module.view_is

own : (c : After-function_type) → length c.args.module.now.imports ≤ c.args.func
own c = subst (λ (l : List Import). length l ≤ c.args.func) (imports-are c) c.if-index-imports.false

can : (c : After-function_type) → CanEnter c.args.module.now c.args.state.now c.args.func
can c =
    let s = c.args.state.now in
    can-enter c.args.module.now s c.args.func (vec_len s.frames) c.requires.valid c.requires.fine s.frames.ok.0 c.requires.idle c.requires.there c.requires.no_parameter

callee : (c : After-function_type) → slice_get c.args.module.now.funcs (c.args.func - length c.args.module.now.imports) ≡ Some c.index-slice-own.result
callee c =
    let p = c.args.module.now in
    let f = c.index-slice-own.result in
    let n = ap (λ (l : List Import). length l) (imports-are c) in
    let funcs = c.slice.ensures ∙ ap (λ (q : Parts). q.funcs) c.module.view_is in
    let is = c.index-slice-own.is ∙ ap (λ k. get_or c.slice.result.now (c.args.func - k) f) n ∙ ap (λ l. get_or l (c.args.func - length p.imports) f) funcs in
    slice_get_read p.funcs (length p.funcs) (c.args.func - length p.imports) f refl (omega (arith, own c, c.requires.there)) is

-- the type that was found is that of the function
type-is : (c : After-function_type) → c.function_type.result.now ≡ (defined c.args.module.now.types c.index-slice-own.result).ftype
type-is c =
    let p = c.args.module.now in
    let f = c.index-slice-own.result in
    c.function_type.ensures (defined p.types f) (func-at p c.args.func f (own c) c.requires.there (sym (get_or_from_slice_get p.funcs (c.args.func - length p.imports) f f (callee c))))

pub new_call-requires : goal.new_call-requires
new_call-requires c =
    let s = (goal.at.new_call-requires c).After-function_type in
    body-closed c.args.module.now (c.args.func - length c.args.module.now.imports) c.index-slice-own.result c.requires.valid (callee s)

pub returns-clause-ok : goal.returns-clause-ok
returns-clause-ok c =
    let s = (goal.at.returns-clause-ok c).After-function_type in
    let new = record c.args.state.now { frames = c.push.new.self } in
    let number = ap (λ (l : List Import). c.args.func - length l) (imports-are s) in
    let idle = (can s).idle in
    let first : IsFirst c.args.module.now new (c.args.func - length c.args.module.now.imports) c.index-slice-own.result c.function_type.result.now c.in_ok-call.call = record { function = callee s; ftype = type-is s; call = c.in_ok-call.ensures.call; placed = c.in_ok-call.ensures.placed; func = c.in_ok-call.ensures.func ∙ number; frames = c.in_ok-push.ensures.items ∙ ap (λ (l : List FlatFrame). l ++ c.in_ok-call.call ∷ []) idle } in
    own-entered c.args.module.now c.args.state.now new c.args.func c.index-slice-own.result c.function_type.result.now c.in_ok-call.call (own s) (can s) first

pub returns-clause-fine : goal.returns-clause-fine
returns-clause-fine c =
    let s = (goal.at.returns-clause-fine c).After-function_type in
    let new = record c.args.state.now { frames = c.push.new.self } in
    let number = ap (λ (l : List Import). c.args.func - length l) (imports-are s) in
    let idle = (can s).idle in
    let first : IsFirst c.args.module.now new (c.args.func - length c.args.module.now.imports) c.index-slice-own.result c.function_type.result.now c.in_ok-call.call = record { function = callee s; ftype = type-is s; call = c.in_ok-call.ensures.call; placed = c.in_ok-call.ensures.placed; func = c.in_ok-call.ensures.func ∙ number; frames = c.in_ok-push.ensures.items ∙ ap (λ (l : List FlatFrame). l ++ c.in_ok-call.call ∷ []) idle } in
    own-fine c.args.module.now c.args.state.now new c.args.func c.index-slice-own.result c.function_type.result.now c.in_ok-call.call (own s) (can s) first
