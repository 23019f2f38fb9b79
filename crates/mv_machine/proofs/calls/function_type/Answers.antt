use Rattle.std.proofs.Common.{◌≡◌, ◌∙◌, ◌<◌, ◌-◌, ap, sym, arith, subst, get_or, length, List}
use Rattle.mv_syntax.specs.Sections.{Parts}
use Rattle.mv_syntax.specs.declared.types.FuncType.{FuncType}
use Rattle.mv_syntax.specs.declared.module.Import.{Import}
use Rattle.mv_syntax.specs.declared.module.Func.{Func}
use Rattle.mv_machine.proofs.Signatures.{IsTypeOf, import-type, func-type, type-read}
use Rattle.mv_machine.proofs.calls.function_type.Goals as goal
use Rattle.mv_machine.proofs.calls.function_type.Goals.{After-slice-2, then-index-imports, else-index-imports}

imports-are : (c : After-slice-2) → c.slice-imports.result.now ≡ c.args.module.now.imports
imports-are c = c.slice-imports.ensures ∙ ap (λ (p : Parts). p.imports) c.module.view_is

types-are : (c : After-slice-2) → c.slice-2.result.now ≡ c.args.module.now.types
types-are c = c.slice-2.ensures ∙ ap (λ (p : Parts). p.types) c.module.view_is

-- the type's index is that of the function
has-type : (c : After-slice-2) → IsTypeOf c.args.module.now c.args.x c.if-index-imports.ftype
has-type c =
    let p = c.args.module.now in
    let x = c.args.x in
    elim c.if-index-imports.branch [
      | then-index-imports w ↦
          let m = w.index-imports-index.result in
          let is : m ≡ get_or p.imports x m = w.index-imports-index.is ∙ ap (λ l. get_or l x m) (imports-are c) in
          let lt : x < length p.imports = subst (λ (l : List Import). x < length l) (imports-are c) w.if-index-imports.true in
          subst (IsTypeOf p x) (sym (w.ftype-is ∙ ap (λ (k : Import). k.ftype) (sym w.index-imports-index.is))) (import-type p x m c.requires.valid lt is)
      | else-index-imports w ↦
          let f = w.index-slice-index.result in
          let n = ap (λ (l : List Import). length l) (imports-are c) in
          let funcs = w.slice.ensures ∙ ap (λ (q : Parts). q.funcs) c.module.view_is in
          let is : f ≡ get_or p.funcs (x - length p.imports) f = w.index-slice-index.is ∙ ap (λ k. get_or w.slice.result.now (x - k) f) n ∙ ap (λ l. get_or l (x - length p.imports) f) funcs in
          subst (IsTypeOf p x) (sym (w.ftype-is ∙ ap (λ (k : Func). k.ftype) (sym w.index-slice-index.is))) (func-type p x f c.requires.valid (omega (arith, n, w.if-index-imports.false)) c.requires.there is)
    ]

pub bounds-slice-ftype : goal.bounds-slice-ftype
bounds-slice-ftype c =
    let s = (goal.at.bounds-slice-ftype c).After-slice-2 in
    subst (λ (l : List FuncType). c.if-index-imports.ftype < length l) (sym (types-are s)) (has-type s).within

pub returns : goal.returns
returns c =
    let s = (goal.at.returns c).After-slice-2 in
    let is = c.index-slice-ftype.is ∙ ap (λ l. get_or l c.if-index-imports.ftype c.index-slice-ftype.result) (types-are s) in
    type-read c.args.module.now c.args.x c.if-index-imports.ftype c.index-slice-ftype.result (has-type s) is
