use Rattle.std.proofs.Common.{◌≡◌, ◌∙◌, ℕ, ◌<◌, ◌∷◌, List, length, refl, ap, sym, arith, get_or, subst, map, Bool, true, Some}
use Rattle.mv_execution.specs.Rows.{IsGoing}
use Rattle.std.specs.Prelude.{slice_get}
use Rattle.std.proofs.lemmas.List.{length-reverse}
use Rattle.std.proofs.lemmas.Option.{slice_get_within, slice_get_read, slice_get_past}
use Rattle.mv_syntax.specs.declared.types.FuncType.{FuncType}
use Rattle.mv_syntax.specs.declared.instr.Instr.{Instr}
use Rattle.mv_syntax.specs.declared.instr.Instr.TheVariants.{CallIndirect}
use Rattle.mv_syntax.specs.Sections.{Parts}
use Rattle.mv_execution.specs.Config.{Function}
use Rattle.mv_syntax.specs.Types.{same_function_type}
use Rattle.mv_execution.specs.Step.{called_entry}
use Rattle.mv_execution.specs.Instance.{program_of}
use Rattle.mv_execution.specs.Fits.{module_context}
use Rattle.mv_frames.specs.declared.frame.Frame.{Frame as FlatFrame}
use Rattle.mv_machine.specs.States.{call_of, config_of}
use Rattle.mv_machine.specs.Turns.{counted_step}
use Rattle.mv_machine.specs.Calls.{call_above, IsAtIn}
use Rattle.mv_machine.proofs.Newest.{Newest, newest}
use Rattle.mv_machine.proofs.Entries.{StandsAt, caller_of, at-some, at-newest, stands-at, fine-step, fits-going}
use Rattle.mv_machine.proofs.Tables.{Through, caller_behind, step-through, step-entry, step-differs, step-same, entry-function, function-there, came-same}
use Rattle.mv_machine.proofs.calls.call_indirect.Goals as goal
use Rattle.mv_machine.proofs.calls.call_indirect.Goals.{After-index, After-index-2, After-slice, After-index-slice-y}

abbrev At : ℕ → Instr → FlatFrame → Type 0
At y i f = i ≡ CallIndirect y

-- the newest call
some : (c : After-index) → 0 < c.len.result
some c = omega (arith, c.len.ensures, c.args.state.now.frames.ok.0, at-some (At c.args.y) c.args.module.now c.args.state.now c.requires.at)

caller : (c : After-index) → Newest c.args.state.now.frames.items c.len.result c.index.result.now
caller c = newest c.args.state.now.frames.items c.len.result c.index.result.now (c.len.ensures ∙ c.args.state.now.frames.ok.0) (some c) c.index.ensures

at : (c : After-index) → IsAtIn (At c.args.y) c.args.module.now.funcs (c.index.result.now ∷ (caller c).older)
at c = at-newest c.args.module.now c.args.state.now c.len.result c.index.result.now (caller c) (At c.args.y) c.requires.at

stood : (c : After-index) → StandsAt c.args.module.now c.index.result.now (CallIndirect c.args.y)
stood c = stands-at c.args.module.now c.args.state.now c.len.result c.index.result.now (caller c) (CallIndirect c.args.y) c.requires.fine c.requires.ready ((at c).1 ∙ ap Some (at c).2) refl

abbrev passed : (c : After-index) → Through (program_of c.args.module.now) c.args.y (caller_behind c.args.module.now c.index.result.now)
passed c = step-through c.args.module.now c.args.state.now c.len.result c.index.result.now (caller c) c.args.y (stood c) c.requires.fine c.requires.ready

pub top-place-requires : goal.top-place-requires
top-place-requires c =
    let s = (goal.at.top-place-requires c).After-index in
    let len = ap (λ (l : List ℕ). length l) (passed s).operands in
    omega (arith, len, length-reverse c.index.result.now.operands.items, c.index.result.now.operands.ok.0)

pub returns-then-place-len-clause-ok : goal.returns-then-place-len-clause-ok
returns-then-place-len-clause-ok c =
    let s = (goal.at.returns-then-place-len-clause-ok c).After-index in
    let p = c.args.module.now in
    let f = c.index.result.now in
    let table = c.args.state.now.store.table in
    let past = slice_get_past table.items c.top-place.result (omega (arith, c.if-place-len.true, c.len-2.ensures, table.ok.0)) in
    (step-entry p c.args.state.now c.len.result f (caller s) c.args.y (stood s) c.requires.fine c.requires.ready c.top-place.result c.top-place.ensures ∙ ap (λ o. called_entry (program_of p) (passed s).ftype o (config_of p c.args.state.now) (map (call_of p.funcs) (caller s).older) (caller_of p.funcs 1 f)) past, refl)

-- the entry of the table
entry-is : (c : After-index-2) → slice_get c.args.state.now.store.table.items c.top-place.result ≡ Some c.index-2.result.now
entry-is c =
    let table = c.args.state.now.store.table in
    slice_get_read table.items (length table.items) c.top-place.result c.index-2.result.now refl (omega (arith, c.if-place-len.false, c.len-2.ensures, table.ok.0)) c.index-2.ensures

pub returns-in-None-clause-ok : goal.returns-in-None-clause-ok
returns-in-None-clause-ok c =
    let s = (goal.at.returns-in-None-clause-ok c).After-index in
    let e = (goal.at.returns-in-None-clause-ok c).After-index-2 in
    let p = c.args.module.now in
    let f = c.index.result.now in
    (step-entry p c.args.state.now c.len.result f (caller s) c.args.y (stood s) c.requires.fine c.requires.ready c.top-place.result c.top-place.ensures ∙ ap (λ o. called_entry (program_of p) (passed s).ftype o (config_of p c.args.state.now) (map (call_of p.funcs) (caller s).older) (caller_of p.funcs 1 f)) (entry-is e ∙ ap Some c.in-None.is), refl)

abbrev old : After-slice → After-index
old c = (goal.at.bounds-slice-y c).After-index

types-are : (c : After-slice) → c.slice.result.now ≡ c.args.module.now.types
types-are c = c.slice.ensures ∙ ap (λ (p : Parts). p.types) c.module.view_is

pub bounds-slice-y : goal.bounds-slice-y
bounds-slice-y c =
    let s = (goal.at.bounds-slice-y c).After-slice in
    subst (λ (l : List FuncType). c.args.y < length l) (sym (types-are s)) (slice_get_within c.args.module.now.types c.args.y (passed (old s)).ftype (passed (old s)).there)

-- the function that the entry holds
held : (c : After-slice) → slice_get c.args.state.now.store.table.items c.top-place.result ≡ Some (Some c.in-Some.x)
held c = entry-is (goal.at.bounds-slice-y c).After-index-2 ∙ ap Some c.in-Some.is

found : (c : After-slice) → (function : Function) × (slice_get (program_of c.args.module.now).functions c.in-Some.x ≡ Some function)
found c = entry-function c.args.module.now c.args.state.now c.len.result c.index.result.now (caller (old c)) c.args.y (stood (old c)) c.requires.fine c.requires.ready c.top-place.result c.in-Some.x (held c)

pub function_type-requires-clause-there : goal.function_type-requires-clause-there
function_type-requires-clause-there c =
    let k = found (goal.at.function_type-requires-clause-there c).After-slice in
    function-there c.args.module.now c.in-Some.x k.0 k.1

pub call_function-requires-clause-there : goal.call_function-requires-clause-there
call_function-requires-clause-there c =
    let k = found (goal.at.call_function-requires-clause-there c).After-slice in
    function-there c.args.module.now c.in-Some.x k.0 k.1

-- the type that is wanted
expected-is : (c : After-index-slice-y) → c.index-slice-y.result ≡ (passed (old (goal.at.function_type-requires-clause-there c).After-slice)).ftype
expected-is c =
    let s = (goal.at.function_type-requires-clause-there c).After-slice in
    let k = passed (old s) in
    let types = c.args.module.now.types in
    let is = c.index-slice-y.is ∙ ap (λ l. get_or l c.args.y c.index-slice-y.result) (types-are s) in
    some-same c.index-slice-y.result k.ftype (sym (slice_get_read types (length types) c.args.y c.index-slice-y.result refl (slice_get_within types c.args.y k.ftype k.there) is) ∙ k.there)
  where
    some-same : (a b : FuncType) → Some a ≡ Some b → a ≡ b
    some-same a b q = cc

abbrev late : After-index-slice-y → After-slice
late c = (goal.at.function_type-requires-clause-there c).After-slice

-- whether the function has it
test-is : (c : After-index-slice-y) (t : FuncType) (b : Bool) → ((function : Function) → slice_get (program_of c.args.module.now).functions c.in-Some.x ≡ Some function → t ≡ function.ftype) → b ≡ same_function_type t c.index-slice-y.result → b ≡ same_function_type (found (late c)).0.ftype (passed (old (late c))).ftype
test-is c t b is e =
    let k = found (late c) in
    e ∙ ap (λ u. same_function_type u c.index-slice-y.result) (is k.0 k.1) ∙ ap (same_function_type k.0.ftype) (expected-is c)

pub returns-then-not-is_same_function_type-clause-ok : goal.returns-then-not-is_same_function_type-clause-ok
returns-then-not-is_same_function_type-clause-ok c =
    let y = (goal.at.returns-then-not-is_same_function_type-clause-ok c).After-index-slice-y in
    let s = old (late y) in
    let k = found (late y) in
    let test = test-is y c.function_type.result.now c.is_same_function_type.result c.function_type.ensures c.is_same_function_type.ensures in
    (step-differs c.args.module.now c.args.state.now c.len.result c.index.result.now (caller s) c.args.y (stood s) c.requires.fine c.requires.ready c.top-place.result c.in-Some.x k.0 c.top-place.ensures (held (late y)) k.1 (sym test ∙ c.if-not-is_same_function_type.true), refl)

-- the step is the call of that function
step-is : (c : After-index-slice-y) (t : FuncType) (b : Bool) → ((function : Function) → slice_get (program_of c.args.module.now).functions c.in-Some.x ≡ Some function → t ≡ function.ftype) → b ≡ same_function_type t c.index-slice-y.result → b ≡ true → counted_step (program_of c.args.module.now) (config_of c.args.module.now c.args.state.now) ≡ call_above (program_of c.args.module.now) c.in-Some.x 1 (config_of c.args.module.now c.args.state.now)
step-is c t b is e same =
    let s = old (late c) in
    let k = found (late c) in
    step-same c.args.module.now c.args.state.now c.len.result c.index.result.now (caller s) c.args.y (stood s) c.requires.fine c.requires.ready c.top-place.result c.in-Some.x k.0 c.top-place.ensures (held (late c)) k.1 (sym (test-is c t b is e) ∙ same)

pub call_function-requires-clause-step : goal.call_function-requires-clause-step
call_function-requires-clause-step c =
    step-is (goal.at.call_function-requires-clause-step c).After-index-slice-y c.function_type.result.now c.is_same_function_type.result c.function_type.ensures c.is_same_function_type.ensures c.if-not-is_same_function_type.false

pub call_function-requires-clause-going : goal.call_function-requires-clause-going
call_function-requires-clause-going c =
    let p = c.args.module.now in
    let old-state = c.args.state.now in
    let is = step-is (goal.at.call_function-requires-clause-going c).After-index-slice-y c.function_type.result.now c.is_same_function_type.result c.function_type.ensures c.is_same_function_type.ensures c.if-not-is_same_function_type.false in
    subst IsGoing is (fits-going (module_context p) c.requires.fine.gives (counted_step (program_of p) (config_of p old-state)) (fine-step p old-state c.requires.fine c.requires.ready))

pub returns-clause-ok : goal.returns-clause-ok
returns-clause-ok c =
    let p = c.args.module.now in
    let is = step-is (goal.at.returns-clause-ok c).After-index-slice-y c.function_type.result.now c.is_same_function_type.result c.function_type.ensures c.is_same_function_type.ensures c.if-not-is_same_function_type.false in
    came-same c.call_function.result (counted_step (program_of p) (config_of p c.args.state.now)) (call_above (program_of p) c.in-Some.x 1 (config_of p c.args.state.now)) (config_of p c.args.state.now) (config_of p c.call_function.new.state) is c.call_function.ensures.ok
