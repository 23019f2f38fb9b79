use Rattle.std.proofs.Common.{◌≡◌, ◌∙◌, ℕ, ◌<◌, ◌≤◌, ◌+◌, ◌-◌, ◌∷◌, [], List, length, refl, ap, sym, arith, subst, reverse, take, set, true, Option, Some, None}
use Rattle.std.specs.Prelude.{is_some, slice_get, vec_len, vec_capacity}
use Rattle.std.proofs.lemmas.Bool.{eqb-false}
use Rattle.std.proofs.lemmas.List.{length-reverse, length-set, length-take}
use Rattle.mv_syntax.specs.declared.ops.ValType.{ValType}
use Rattle.mv_syntax.specs.declared.types.FuncType.{FuncType}
use Rattle.mv_syntax.specs.declared.module.Import.{Import}
use Rattle.mv_syntax.specs.declared.instr.Instr.{Instr}
use Rattle.mv_execution.specs.Config.{Function, Frame, Config, operand_limit, operand_count}
use Rattle.mv_execution.specs.Values.{arity_of}
use Rattle.mv_execution.specs.Rows.{Goes}
use Rattle.mv_execution.specs.Instance.{imported, program_of}
use Rattle.mv_execution.specs.Fits.{FitsConfig, module_context}
use Rattle.mv_execution.proofs.Steps.{StepFits}
use Rattle.mv_syntax.specs.Expressions.{is_plain}
use Rattle.mv_frames.specs.Frames.{frame_of, IsPlaced}
use Rattle.mv_frames.specs.declared.frame.Frame.{Frame as FlatFrame}
use Rattle.mv_frames.proofs.Advances.{at-within}
use Rattle.mv_machine.specs.States.{code_at, call_of, calls_of, config_of, ArePlacedIn, operands_in, IsAnswerable, IsGivenLast}
use Rattle.mv_machine.specs.Calls.{call_above, IsAtIn}
use Rattle.mv_machine.proofs.Newest.{Newest, newest, newest-placed, same-written, placed-written, operands-are, operands-written, operands-in-are, on_err-always}
use Rattle.mv_machine.proofs.Entries.{StandsAt, Caller, at-some, at-newest, stands-at, caller-placed, fine-step, fits-next, given-none}
use Rattle.mv_machine.proofs.Waits.{import-there, some-newest, wait-goes, wait-traps, waiting-answerable}
use Rattle.mv_machine.proofs.calls.wait_for.Goals as goal
use Rattle.mv_machine.proofs.calls.wait_for.Goals.{After-slice, After-index_mut-caller, After-len, then-is_empty+in_ok-reserve, else-is_empty}
use mir.Val.{bool_byte}

arity-byte : (o : Option ValType) → arity_of o ≡ bool_byte (is_some o)
arity-byte None = refl
arity-byte (Some t) = refl

abbrev Above : ℕ → Instr → FlatFrame → Type 0
Above above i f = (is_plain i ≡ true) × (above ≤ length f.operands.items)

-- the imported function
item : (c : After-slice) → (m : Import) × (slice_get (program_of c.args.module.now).functions c.args.x ≡ Some (imported c.args.module.now.types m))
item c = import-there c.args.module.now c.args.x c.requires.imported

abbrev function : After-slice → Function
function c = imported c.args.module.now.types (item c).0

ftype-is : (c : After-slice) → c.function_type-ftype.result.now ≡ (function c).ftype
ftype-is c = c.function_type-ftype.ensures (function c) (item c).1

count-is : (c : After-slice) → length c.slice.result.now ≡ length (function c).ftype.params
count-is c = ap (λ (l : List ValType). length l) c.slice.ensures ∙ ap (λ (t : FuncType). length t.params) (ftype-is c)

results-is : (c : After-slice) → c.from-results.result ≡ arity_of (function c).ftype.result
results-is c = c.from-results.ensures ∙ ap bool_byte c.is_some.ensures ∙ sym (arity-byte c.function_type-ftype.result.now.result) ∙ ap (λ (t : FuncType). arity_of t.result) (ftype-is c)

-- as many calls as may be open
few-calls : (fs : List FlatFrame) (n : ℕ) (f : FlatFrame) (t : Newest fs n f) → length fs < 1024 → length t.older + 1 < 1024
few-calls fs n f t lt =
    let len = ap (λ (l : List FlatFrame). length l) t.listed in
    omega (arith, len, length-reverse fs)

pub returns-then-left-slice-gt-OPERAND_LIMIT-clause-ok : goal.returns-then-left-slice-gt-OPERAND_LIMIT-clause-ok
returns-then-left-slice-gt-OPERAND_LIMIT-clause-ok c =
    let s = (goal.at.returns-then-left-slice-gt-OPERAND_LIMIT-clause-ok c).After-slice in
    let p = c.args.module.now in
    let old = c.args.state.now in
    let n = some-newest old.frames.items (at-some (Above c.args.above) p old c.requires.at) in
    let at = at-newest p old (length old.frames.items) n.0 n.1 (Above c.args.above) c.requires.at in
    let stood = stands-at p old (length old.frames.items) n.0 n.1 at.0 c.requires.fine c.requires.ready at.1 at.2.0 in
    let few = few-calls old.frames.items (length old.frames.items) n.0 n.1 (omega (arith, c.requires.few, old.frames.ok.0)) in
    (wait-traps p old (length old.frames.items) n.0 n.1 at.0 stood c.args.x c.args.above (function s) (item s).1 refl c.requires.going few c.requires.fine.counted at.2.1 (omega (arith, count-is s, results-is s, c.if-left-slice-gt-OPERAND_LIMIT.true)), refl)

-- the caller, and what it can do
some : (c : After-index_mut-caller) → 0 < c.len-newest.result
some c = omega (arith, c.len-newest.ensures, c.args.state.now.frames.ok.0, at-some (Above c.args.above) c.args.module.now c.args.state.now c.requires.at)

caller : (c : After-index_mut-caller) → Newest c.args.state.now.frames.items c.len-newest.result c.index_mut-caller.result.now
caller c = newest c.args.state.now.frames.items c.len-newest.result c.index_mut-caller.result.now (c.len-newest.ensures ∙ c.args.state.now.frames.ok.0) (some c) c.index_mut-caller.ensures.value

at : (c : After-index_mut-caller) → IsAtIn (Above c.args.above) c.args.module.now.funcs (c.index_mut-caller.result.now ∷ (caller c).older)
at c = at-newest c.args.module.now c.args.state.now c.len-newest.result c.index_mut-caller.result.now (caller c) (Above c.args.above) c.requires.at

stood : (c : After-index_mut-caller) → StandsAt c.args.module.now c.index_mut-caller.result.now (at c).0
stood c = stands-at c.args.module.now c.args.state.now c.len-newest.result c.index_mut-caller.result.now (caller c) (at c).0 c.requires.fine c.requires.ready (at c).1 (at c).2.0

placed : (c : After-index_mut-caller) → (c.index_mut-caller.result.now.func < length c.args.module.now.funcs) × IsPlaced (code_at c.args.module.now.funcs c.index_mut-caller.result.now.func) c.index_mut-caller.result.now × ArePlacedIn c.args.module.now.funcs (caller c).older
placed c = newest-placed c.args.module.now.funcs c.args.state.now.frames.items c.len-newest.result c.index_mut-caller.result.now (caller c) c.requires.fine.placed

-- the calls, where the caller has the same operands in other memory
same-calls : (c : After-index_mut-caller) (g : FlatFrame) → g ≡ record c.index_mut-caller.result.now { operands = g.operands } → g.operands.items ≡ c.index_mut-caller.result.now.operands.items → calls_of c.args.module.now.funcs (set c.args.state.now.frames.items (c.len-newest.result - 1) g) ≡ calls_of c.args.module.now.funcs c.args.state.now.frames.items
same-calls c g e items =
    let p = c.args.module.now in
    let f = c.index_mut-caller.result.now in
    let func : g.func ≡ f.func = ap (λ (y : FlatFrame). y.func) e in
    let frame : frame_of (code_at p.funcs f.func) g ≡ call_of p.funcs f = ap (frame_of (code_at p.funcs f.func)) e ∙ ap (λ os. let y : Frame = record (call_of p.funcs f) { operands = reverse os } in y) items in
    same-written p.funcs c.args.state.now.frames.items c.len-newest.result f (caller c) g func frame

pub returns-in_err-reserve-clause-err : goal.returns-in_err-reserve-clause-err
returns-in_err-reserve-clause-err c =
    let s = (goal.at.returns-in_err-reserve-clause-err c).After-index_mut-caller in
    let g : FlatFrame = record c.index_mut-caller.result.now { operands = c.reserve.new.self } in
    on_err-always c.from_residual.result _ (ap (λ fs. let z : Config = record (config_of c.args.module.now c.args.state.now) { frames = fs } in z) (same-calls s g refl c.reserve.ensures.items))

pub returns-in_err-reserve-clause-fine : goal.returns-in_err-reserve-clause-fine
returns-in_err-reserve-clause-fine c =
    let s = (goal.at.returns-in_err-reserve-clause-fine c).After-index_mut-caller in
    let p = c.args.module.now in
    let f = c.index_mut-caller.result.now in
    let fs = c.args.state.now.frames.items in
    let fine = c.requires.fine in
    let g : FlatFrame = record f { operands = c.reserve.new.self } in
    let same = same-calls s g refl c.reserve.ensures.items in
    record {
      program = fine.program;
      gives = fine.gives;
      typed = subst (λ l. FitsConfig (module_context p) fine.gives (record (config_of p c.args.state.now) { frames = l })) (sym same) fine.typed;
      placed = placed-written p.funcs fs c.len-newest.result f (caller s) g fine.placed refl (placed s).1;
      counted = fine.counted ∙ ap operand_count (sym same);
      operands = fine.operands;
      frames = omega (arith, length-set fs (c.len-newest.result - 1) g, fine.frames);
      gap = fine.gap;
      answerable = subst (λ w. IsAnswerable p w (reverse (set fs (c.len-newest.result - 1) g))) (sym c.requires.ready.waiting) tt;
      given = subst (IsGivenLast c.args.state.now.given) (sym ((caller s).written g)) (given-none c.args.state.now.given c.requires.ready.given);
    }

-- ---- the caller behind the reservation

abbrev old : After-len → After-index_mut-caller
old c = (goal.at.go_behind-requires-clause-within c).After-index_mut-caller

abbrev early : After-len → After-slice
early c = (goal.at.go_behind-requires-clause-within c).After-slice

joined : (c : After-len) → (c.if-is_empty.caller ≡ record c.index_mut-caller.result.now { operands = c.if-is_empty.caller.operands }) × (c.if-is_empty.caller.operands.items ≡ c.index_mut-caller.result.now.operands.items)
joined c =
    let f = c.index_mut-caller.result.now in
    elim c.if-is_empty.branch [
      | then-is_empty+in_ok-reserve w ↦ (w.caller-is ∙ ap (λ (y : FlatFrame). let z : FlatFrame = record f { operands = y.operands } in z) (sym w.caller-is), ap (λ (y : FlatFrame). y.operands.items) w.caller-is ∙ w.reserve.ensures.items)
      | else-is_empty w ↦ (w.caller-is ∙ ap (λ (y : FlatFrame). let z : FlatFrame = record f { operands = y.operands } in z) (sym w.caller-is), ap (λ (y : FlatFrame). y.operands.items) w.caller-is)
    ]

room : (c : After-len) → c.function_type-ftype.result.now.params ≡ [] → vec_len c.if-is_empty.caller.operands < vec_capacity c.if-is_empty.caller.operands
room c none =
    elim c.if-is_empty.branch [
      | then-is_empty+in_ok-reserve w ↦ subst (λ (y : FlatFrame). vec_len y.operands < vec_capacity y.operands) (sym w.caller-is) (omega (arith, w.in_ok-reserve.ensures.ok))
      | else-is_empty w ↦ absurd (eqb-false (length c.slice-2.result.now) 0 (sym c.is_empty.ensures ∙ w.if-is_empty.false) (ap (λ (l : List ValType). length l) (c.slice-2.ensures ∙ none)))
    ]

pub go_behind-requires-clause-within : goal.go_behind-requires-clause-within
go_behind-requires-clause-within c =
    let s = (goal.at.go_behind-requires-clause-within c).After-index_mut-caller in
    let l = (goal.at.go_behind-requires-clause-within c).After-len in
    let f = c.index_mut-caller.result.now in
    subst (λ (g : FlatFrame). g.at < length (code_at c.args.module.now.funcs g.func)) (sym (joined l).0) (at-within (code_at c.args.module.now.funcs f.func) f (stood s).top)

moved : (c : After-len) (h : FlatFrame) → h ≡ record c.if-is_empty.caller { at = c.if-is_empty.caller.at + 1; operands = h.operands } → h.operands.items ≡ take (c.len.result - c.args.above) c.if-is_empty.caller.operands.items → Caller c.index_mut-caller.result.now h (length c.index_mut-caller.result.now.operands.items - c.args.above)
moved c h e os =
    let j = joined c in
    let len = ap (λ (l : List ℕ). length l) j.1 in
    let k : c.len.result - c.args.above ≡ length c.index_mut-caller.result.now.operands.items - c.args.above = omega (arith, len, c.len.ensures, c.if-is_empty.caller.operands.ok.0) in
    record { same = e ∙ ap (λ (y : FlatFrame). let z : FlatFrame = record y { at = y.at + 1; operands = h.operands } in z) j.0; operands = os ∙ ap (λ l. take (c.len.result - c.args.above) l) j.1 ∙ ap (λ m. take m c.index_mut-caller.result.now.operands.items) k }

goes : (c : After-len) (h : FlatFrame) → Caller c.index_mut-caller.result.now h (length c.index_mut-caller.result.now.operands.items - c.args.above) → call_above (program_of c.args.module.now) c.args.x c.args.above (config_of c.args.module.now c.args.state.now) ≡ Goes (record (config_of c.args.module.now c.args.state.now) { frames = calls_of c.args.module.now.funcs (set c.args.state.now.frames.items (c.len-newest.result - 1) h); waiting = Some c.args.x })
goes c h m =
    let s = old c in
    let e = early c in
    let fs = c.args.state.now.frames.items in
    let few = few-calls fs c.len-newest.result c.index_mut-caller.result.now (caller s) (omega (arith, c.requires.few, c.args.state.now.frames.ok.0)) in
    wait-goes c.args.module.now c.args.state.now c.len-newest.result c.index_mut-caller.result.now (caller s) (at s).0 (stood s) c.args.x c.args.above (function e) (item e).1 refl c.requires.going few c.requires.fine.counted (at s).2.1 (omega (arith, count-is e, results-is e, c.if-left-slice-gt-OPERAND_LIMIT.false)) h m (set fs (c.len-newest.result - 1) h) ((caller s).written h)

pub returns-clause-ok : goal.returns-clause-ok
returns-clause-ok c =
    let l = (goal.at.returns-clause-ok c).After-len in
    goes l c.go_behind.new.call (moved l c.go_behind.new.call c.go_behind.ensures.same c.go_behind.ensures.operands)

pub returns-clause-fine : goal.returns-clause-fine
returns-clause-fine c =
    let l = (goal.at.returns-clause-fine c).After-len in
    let s = (goal.at.returns-clause-fine c).After-index_mut-caller in
    let p = c.args.module.now in
    let f = c.index_mut-caller.result.now in
    let h = c.go_behind.new.call in
    let fs = c.args.state.now.frames.items in
    let fine = c.requires.fine in
    let m = moved l h c.go_behind.ensures.same c.go_behind.ensures.operands in
    let calls = set fs (c.len-newest.result - 1) h in
    let step = subst (StepFits (module_context p) fine.gives) c.requires.step (fine-step p c.args.state.now fine c.requires.ready) in
    let here = caller-placed p f h (length f.operands.items - c.args.above) (at s).0 (stood s) (placed s).0 m in
    let kept = ap (λ (x : List ℕ). length x) m.operands in
    let was = operands-are p.funcs fs c.len-newest.result f (caller s) in
    let is = operands-written p.funcs fs c.len-newest.result f (caller s) h in
    let len = ap (λ (x : List ℕ). length x) (joined l).1 in
    let space : c.function_type-ftype.result.now.params ≡ [] → vec_len h.operands < vec_capacity h.operands = λ none. (let r = room l none in omega (arith, r, c.go_behind.ensures.room, h.operands.ok.0, c.if-is_empty.caller.operands.ok.0, kept, len, length-take (length f.operands.items - c.args.above) f.operands.items)) in
    let e = early l in
    let fits : length h.operands.items + operands_in (caller s).older + arity_of c.function_type-ftype.result.now.result ≤ operand_limit + length c.function_type-ftype.result.now.params = omega (arith, count-is e, results-is e, ap (λ (t : FuncType). length t.params) (ftype-is e), ap (λ (t : FuncType). arity_of t.result) (ftype-is e), c.if-left-slice-gt-OPERAND_LIMIT.false, was, fine.counted, kept, (at s).2.1, length-take (length f.operands.items - c.args.above) f.operands.items, operands-in-are p.funcs (caller s).older) in
    record {
      program = fine.program;
      gives = fine.gives;
      typed = fits-next (module_context p) fine.gives (call_above (program_of p) c.args.x c.args.above (config_of p c.args.state.now)) (record (config_of p c.args.state.now) { frames = calls_of p.funcs calls; waiting = Some c.args.x }) (goes l h m) step;
      placed = subst (ArePlacedIn p.funcs) (sym ((caller s).written h)) (here.0, here.1, (placed s).2);
      counted = omega (arith, was, is, kept, fine.counted, (at s).2.1, length-take (length f.operands.items - c.args.above) f.operands.items);
      operands = omega (arith, fine.operands);
      frames = omega (arith, length-set fs (c.len-newest.result - 1) h, fine.frames);
      gap = fine.gap;
      answerable = subst (IsAnswerable p (Some c.args.x)) (sym ((caller s).written h)) (waiting-answerable p c.args.x c.function_type-ftype.result.now h (caller s).older fine.program c.function_type-ftype.ensures space fits);
      given = subst (IsGivenLast c.args.state.now.given) (sym ((caller s).written h)) (given-none c.args.state.now.given c.requires.ready.given);
    }
