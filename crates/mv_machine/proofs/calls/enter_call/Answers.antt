use Rattle.std.proofs.Common.{◌≡◌, ◌∙◌, ℕ, ◌<◌, ◌≤◌, ◌+◌, ◌-◌, ◌∷◌, [], List, length, refl, ap, sym, arith, get_or, subst, reverse, take, drop, set, true, Some}
use Rattle.std.proofs.Math.ListN.{get_or-append}
use Rattle.std.proofs.lemmas.Option.{slice_get_read}
use Rattle.std.proofs.lemmas.List.{length-reverse}
use Rattle.std.specs.Prelude.{slice_get}
use Rattle.mv_syntax.specs.Sections.{Parts}
use Rattle.mv_syntax.specs.declared.instr.Instr.{Instr}
use Rattle.mv_syntax.specs.declared.module.Func.{Func}
use Rattle.mv_syntax.specs.declared.module.Import.{Import}
use Rattle.mv_syntax.specs.declared.types.FuncType.{FuncType}
use Rattle.mv_execution.specs.Config.{Body, Function}
use Rattle.mv_execution.specs.Rows.{Goes}
use Rattle.mv_execution.specs.Step.{entry_frame}
use Rattle.mv_execution.specs.Fits.{module_context}
use Rattle.mv_execution.proofs.Steps.{StepFits}
use Rattle.mv_execution.specs.Instance.{defined, program_of, tree_of}
use Rattle.mv_syntax.specs.Expressions.{is_plain}
use Rattle.mv_frames.specs.declared.frame.Frame.{Frame as FlatFrame}
use Rattle.mv_frames.specs.Frames.{IsPlaced}
use Rattle.mv_frames.proofs.Advances.{at-within}
use Rattle.mv_machine.specs.Calls.{call_above, IsAtIn}
use Rattle.mv_machine.specs.States.{code_at, code_or, calls_of, config_of, ArePlacedIn, IsAnswerable, IsGivenLast}
use Rattle.mv_machine.proofs.Newest.{Newest, newest, newest-placed, operands-are, get_or-same}
use Rattle.mv_machine.proofs.Signatures.{func-at}
use Rattle.mv_machine.proofs.Entries.{StandsAt, IsEntry, Caller, at-some, at-newest, stands-at, arguments-there, closed-code, written-under, enter-goes, entered-operands, entered-placed, fine-step, fits-next, given-none}
use Rattle.mv_machine.proofs.calls.enter_call.Goals as goal
use Rattle.mv_machine.proofs.calls.enter_call.Goals.{After-index-caller, After-len, After-index_mut}

abbrev Above : ℕ → Instr → FlatFrame → Type 0
Above above i f = (is_plain i ≡ true) × (above ≤ length f.operands.items)

-- the function that is called, as it stands in the module
imports-are : (c : After-index-caller) → length c.slice.result.now ≡ length c.args.module.now.imports
imports-are c = ap (λ (l : List Import). length l) (c.slice.ensures ∙ ap (λ (p : Parts). p.imports) c.module.view_is)

callee-read : (c : After-index-caller) → c.index-slice-func.result ≡ get_or c.args.module.now.funcs (c.args.x - length c.args.module.now.imports) c.index-slice-func.result
callee-read c =
    c.index-slice-func.is ∙ ap (λ k. get_or c.slice-2.result.now (c.args.x - k) c.index-slice-func.result) (imports-are c) ∙ ap (λ (l : List Func). get_or l (c.args.x - length c.args.module.now.imports) c.index-slice-func.result) (c.slice-2.ensures ∙ ap (λ (p : Parts). p.funcs) c.module.view_is)

abbrev function : After-index-caller → Function
function c = defined c.args.module.now.types c.index-slice-func.result

callee-is : (c : After-index-caller) → slice_get (program_of c.args.module.now).functions c.args.x ≡ Some (function c)
callee-is c = func-at c.args.module.now c.args.x c.index-slice-func.result c.requires.own c.requires.there (callee-read c)

within : (c : After-index-caller) → c.args.x - length c.args.module.now.imports < length c.args.module.now.funcs
within c = let own = c.requires.own in let there = c.requires.there in omega arith

callee-get : (c : After-index-caller) → slice_get c.args.module.now.funcs (c.args.x - length c.args.module.now.imports) ≡ Some c.index-slice-func.result
callee-get c = slice_get_read c.args.module.now.funcs (length c.args.module.now.funcs) (c.args.x - length c.args.module.now.imports) c.index-slice-func.result refl (within c) (callee-read c)

ftype-is : (c : After-index-caller) → c.function_type-ftype.result.now ≡ (function c).ftype
ftype-is c = c.function_type-ftype.ensures (function c) (callee-is c)

-- the caller, and what it can do
some : (c : After-index-caller) → 0 < c.len-newest.result
some c = omega (arith, c.len-newest.ensures, c.args.state.now.frames.ok.0, at-some (Above c.args.above) c.args.module.now c.args.state.now c.requires.at)

caller : (c : After-index-caller) → Newest c.args.state.now.frames.items c.len-newest.result c.index-caller.result.now
caller c = newest c.args.state.now.frames.items c.len-newest.result c.index-caller.result.now (c.len-newest.ensures ∙ c.args.state.now.frames.ok.0) (some c) c.index-caller.ensures

at : (c : After-index-caller) → IsAtIn (Above c.args.above) c.args.module.now.funcs (c.index-caller.result.now ∷ (caller c).older)
at c = at-newest c.args.module.now c.args.state.now c.len-newest.result c.index-caller.result.now (caller c) (Above c.args.above) c.requires.at

stood : (c : After-index-caller) → StandsAt c.args.module.now c.index-caller.result.now (at c).0
stood c = stands-at c.args.module.now c.args.state.now c.len-newest.result c.index-caller.result.now (caller c) (at c).0 c.requires.fine c.requires.ready (at c).1 (at c).2.0

placed : (c : After-index-caller) → (c.index-caller.result.now.func < length c.args.module.now.funcs) × IsPlaced (code_at c.args.module.now.funcs c.index-caller.result.now.func) c.index-caller.result.now × ArePlacedIn c.args.module.now.funcs (caller c).older
placed c = newest-placed c.args.module.now.funcs c.args.state.now.frames.items c.len-newest.result c.index-caller.result.now (caller c) c.requires.fine.placed

enough : (c : After-index-caller) → length (function c).ftype.params ≤ length c.index-caller.result.now.operands.items - c.args.above
enough c = arguments-there c.args.module.now c.args.state.now c.len-newest.result c.index-caller.result.now (caller c) (at c).0 (stood c) c.args.x c.args.above (function c) (callee-is c) c.requires.going

count-is : (c : After-len) → length c.slice-count.result.now ≡ length (function (goal.at.overflow_sub-first c).After-index-caller).ftype.params
count-is c = ap (λ (l : List _). length l) c.slice-count.ensures ∙ ap (λ (t : FuncType). length t.params) (ftype-is (goal.at.overflow_sub-first c).After-index-caller)

pub overflow_sub-first : goal.overflow_sub-first
overflow_sub-first c =
    let s = (goal.at.overflow_sub-first c).After-index-caller in
    omega (arith, enough s, count-is c, c.len.ensures, c.index-caller.result.now.operands.ok.0)

pub new_call-requires : goal.new_call-requires
new_call-requires c =
    let s = (goal.at.new_call-requires c).After-index-caller in
    closed-code c.args.module.now (c.args.x - length c.args.module.now.imports) c.index-slice-func.result c.requires.valid (callee-get s)

-- the caller is the same behind the push
same : (c : After-index_mut) → c.index_mut.result.now ≡ c.index-caller.result.now
same c =
    let s = (goal.at.go_behind-requires-clause-within c).After-index-caller in
    let fs = c.args.state.now.frames.items in
    let k = c.len-newest.result - 1 in
    let lt : k < length fs = omega (arith, c.len-newest.ensures, c.args.state.now.frames.ok.0, some s) in
    c.index_mut.ensures.value ∙ ap (λ l. get_or l k c.index_mut.result.now) c.in_ok-push.ensures.items ∙ get_or-append fs (c.in_ok-call.call ∷ []) c.index_mut.result.now k lt ∙ get_or-same fs k c.index_mut.result.now c.index-caller.result.now lt ∙ sym c.index-caller.ensures

pub go_behind-requires-clause-within : goal.go_behind-requires-clause-within
go_behind-requires-clause-within c =
    let s = (goal.at.go_behind-requires-clause-within c).After-index-caller in
    let b = (goal.at.go_behind-requires-clause-within c).After-index_mut in
    let f = c.index-caller.result.now in
    subst (λ (g : FlatFrame). g.at < length (code_at c.args.module.now.funcs g.func)) (sym (same b)) (at-within (code_at c.args.module.now.funcs f.func) f (stood s).top)

-- the operands of all calls
counted : (c : After-index-caller) → c.args.above + length (function c).ftype.params ≤ c.args.state.now.operands
counted c =
    let n = operands-are c.args.module.now.funcs c.args.state.now.frames.items c.len-newest.result c.index-caller.result.now (caller c) in
    omega (arith, n, c.requires.fine.counted, enough c, (at c).2.1)

pub overflow_sub-state : goal.overflow_sub-state
overflow_sub-state c = omega (arith, counted (goal.at.overflow_sub-state c).After-index-caller)

pub overflow_sub-state-2 : goal.overflow_sub-state-2
overflow_sub-state-2 c =
    omega (arith, counted (goal.at.overflow_sub-state-2 c).After-index-caller, count-is (goal.at.overflow_sub-state-2 c).After-len)

-- how many operands the caller keeps
abbrev first : After-index_mut → ℕ
first c = c.len.result - c.args.above - length c.slice-count.result.now

abbrev old : After-index_mut → After-index-caller
old c = (goal.at.go_behind-requires-clause-within c).After-index-caller

sum : (c : After-index_mut) → first c + length (function (old c)).ftype.params + c.args.above ≡ length c.index-caller.result.now.operands.items
sum c =
    let s = (goal.at.go_behind-requires-clause-within c).After-index-caller in
    omega (arith, enough s, (at s).2.1, count-is (goal.at.go_behind-requires-clause-within c).After-len, c.len.ensures, c.index-caller.result.now.operands.ok.0)

moved : (c : After-index_mut) (h : FlatFrame) → h ≡ record c.index_mut.result.now { at = c.index_mut.result.now.at + 1; operands = h.operands } → h.operands.items ≡ take (first c) c.index_mut.result.now.operands.items → Caller c.index-caller.result.now h (first c)
moved c h e os =
    record { same = e ∙ ap (λ (f : FlatFrame). let x : FlatFrame = record f { at = f.at + 1; operands = h.operands } in x) (same c); operands = os ∙ ap (λ (f : FlatFrame). take (first c) f.operands.items) (same c) }

abbrev calls : After-index_mut → FlatFrame → List FlatFrame
calls c h = set c.push.new.self.items (c.len-newest.result - 1) h

listed : (c : After-index_mut) (h : FlatFrame) → reverse (calls c h) ≡ c.in_ok-call.call ∷ h ∷ (caller (old c)).older
listed c h =
    ap (λ l. reverse (set l (c.len-newest.result - 1) h)) c.in_ok-push.ensures.items ∙ written-under c.args.state.now.frames.items c.len-newest.result c.index-caller.result.now c.in_ok-call.call h (caller (old c)) (c.len-newest.ensures ∙ c.args.state.now.frames.ok.0) (some (old c))

-- the new call
code-is : (c : After-index-caller) → code_at c.args.module.now.funcs (c.args.x - length c.slice.result.now) ≡ c.index-slice-func.result.code
code-is c = ap (λ n. code_at c.args.module.now.funcs (c.args.x - n)) (imports-are c) ∙ ap code_or (callee-get c)

code-new : (c : After-index_mut) → code_at c.args.module.now.funcs c.in_ok-call.call.func ≡ c.index-slice-func.result.code
code-new c = ap (code_at c.args.module.now.funcs) c.in_ok-call.ensures.func ∙ code-is (old c)

entry : (c : After-index_mut) → IsEntry (function (old c)).ftype c.index-slice-func.result (take (length (function (old c)).ftype.params) (drop (first c) c.index-caller.result.now.operands.items)) c.in_ok-call.call
entry c =
    let body : Body = record { locals = length c.index-slice-func.result.locals; tree = tree_of c.index-slice-func.result.code } in
    let t = (function (old c)).ftype in
    let end = c.len.result - c.args.above in
    let k : end - first c ≡ length t.params = omega (arith, enough (old c), count-is (goal.at.go_behind-requires-clause-within c).After-len, c.len.ensures, c.index-caller.result.now.operands.ok.0) in
    c.in_ok-call.ensures.call ∙ ap (λ u. entry_frame u body (take (end - first c) (drop (first c) c.deref.result.now))) (ftype-is (old c)) ∙ ap (λ m. entry_frame t body (take m (drop (first c) c.deref.result.now))) k ∙ ap (λ l. entry_frame t body (take (length t.params) (drop (first c) l))) c.deref.ensures.value

-- as many calls as may be open
few : (c : After-index-caller) → length (caller c).older + 1 < 1024
few c =
    let len = ap (λ (l : List FlatFrame). length l) (caller c).listed in
    omega (arith, len, length-reverse c.args.state.now.frames.items, c.args.state.now.frames.ok.0, c.requires.few)

goes : (c : After-index_mut) (h : FlatFrame) → Caller c.index-caller.result.now h (first c) → call_above (program_of c.args.module.now) c.args.x c.args.above (config_of c.args.module.now c.args.state.now) ≡ Goes (record (config_of c.args.module.now c.args.state.now) { frames = calls_of c.args.module.now.funcs (calls c h) })
goes c h m =
    let s = old c in
    enter-goes c.args.module.now c.args.state.now c.len-newest.result c.index-caller.result.now (caller s) (at s).0 (stood s) c.args.x c.args.above c.index-slice-func.result (callee-is s) c.requires.going (few s) c.in_ok-call.call h (first c) (sum c) (entry c) (code-new c) m (calls c h) (listed c h)

pub returns-clause-ok : goal.returns-clause-ok
returns-clause-ok c =
    let b = (goal.at.returns-clause-ok c).After-index_mut in
    goes b c.go_behind.new.call (moved b c.go_behind.new.call c.go_behind.ensures.same c.go_behind.ensures.operands)

pub returns-clause-fine : goal.returns-clause-fine
returns-clause-fine c =
    let b = (goal.at.returns-clause-fine c).After-index_mut in
    let s = (goal.at.returns-clause-fine c).After-index-caller in
    let p = c.args.module.now in
    let f = c.index-caller.result.now in
    let h = c.go_behind.new.call in
    let m = moved b h c.go_behind.ensures.same c.go_behind.ensures.operands in
    let fine = c.requires.fine in
    let step = subst (StepFits (module_context p) fine.gives) c.requires.step (fine-step p c.args.state.now fine c.requires.ready) in
    let ops = entered-operands p c.args.state.now c.len-newest.result f (caller s) (at s).0 (stood s) c.args.x c.args.above c.index-slice-func.result (callee-is s) c.in_ok-call.call h (first b) (omega (arith, sum b)) (entry b) (code-new b) m (calls b h) (listed b h) in
    let was = operands-are p.funcs c.args.state.now.frames.items c.len-newest.result f (caller s) in
    let all = ap (λ (l : List FlatFrame). length l) (listed b h) in
    record {
      program = fine.program;
      gives = fine.gives;
      typed = fits-next (module_context p) fine.gives (call_above (program_of p) c.args.x c.args.above (config_of p c.args.state.now)) (record (config_of p c.args.state.now) { frames = calls_of p.funcs (calls b h) }) (goes b h m) step;
      placed = subst (ArePlacedIn p.funcs) (sym (listed b h)) (entered-placed p f c.in_ok-call.call h (caller s).older (first b) (c.args.x - length c.slice.result.now) (at s).0 c.index-slice-func.result (stood s) (placed s) m c.in_ok-call.ensures.func (omega (arith, within s, imports-are s)) (code-is s) c.in_ok-call.ensures.placed);
      counted = omega (arith, ops, was, fine.counted, sum b, count-is (goal.at.returns-clause-fine c).After-len);
      operands = omega (arith, fine.operands);
      frames = omega (arith, all, length-reverse (calls b h), few s);
      gap = fine.gap;
      answerable = subst (λ w. IsAnswerable p w (reverse (calls b h))) (sym c.requires.ready.waiting) tt;
      given = subst (IsGivenLast c.args.state.now.given) (sym (listed b h)) (given-none c.args.state.now.given c.requires.ready.given);
    }
