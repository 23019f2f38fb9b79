-- Calls of imported functions, which wait for their answers.
use Rattle.std.proofs.Common.{cond, ◌≡◌, ℕ, zero, suc, ◌+◌, ◌-◌, ◌<◌, ◌≤◌, List, [], ◌∷◌, length, drop, get_or, Some, None, refl, sym, ap, ◌∙◌, subst, arith, length-drop}
use Rattle.std.specs.Prelude.{reverse, map, slice_get, vec_len, vec_capacity}
use Rattle.std.proofs.lemmas.Bool.{lt-ltb, le-ltb}
use Rattle.std.proofs.lemmas.List.{length-reverse}
use Rattle.std.proofs.lemmas.Option.{get_or_from_slice_get}
use Rattle.mv_calls.specs.declared.trap.Trap.TheVariants as trap
use Rattle.mv_syntax.specs.declared.types.FuncType.{FuncType}
use Rattle.mv_syntax.specs.declared.module.Import.{Import}
use Rattle.mv_syntax.specs.declared.instr.Instr.{Instr}
use Rattle.mv_syntax.specs.Sections.{Parts}
use Rattle.mv_execution.specs.Config.{Function, frame_limit, operand_limit, operand_count}
use Rattle.mv_execution.specs.Values.{arity_of}
use Rattle.mv_execution.specs.Rows.{Goes, Traps, IsGoing}
use Rattle.mv_execution.specs.Step.{within_limit, without_operands, begun}
use Rattle.mv_execution.specs.Instance.{program_of, imported}
use Rattle.mv_execution.specs.Fits.{FitsProgram, module_context}
use Rattle.mv_frames.specs.declared.frame.Frame.{Frame as FlatFrame}
use Rattle.mv_frames.specs.Frames.{frame_of}
use Rattle.mv_frames.proofs.Advances.{moved}
use Rattle.mv_machine.specs.declared.state.State.{State}
use Rattle.mv_machine.specs.States.{code_at, call_of, calls_of, config_of, operands_in, IsAnswerable}
use Rattle.mv_machine.specs.Calls.{call_above}
use Rattle.mv_machine.proofs.Newest.{Newest, newest, operands-are, get_or-same}
use Rattle.mv_machine.proofs.Signatures.{import-at}
use Rattle.mv_machine.proofs.Entries.{StandsAt, Caller, caller_of, caller-frame, call-begins, arguments-there, under-above}

item-there : (xs : List Import) (x : ℕ) → x < length xs → (m : Import) × (slice_get xs x ≡ Some m)
item-there [] x lt = absurd (omega arith)
item-there (m ∷ xs) zero lt = (m, refl)
item-there (m ∷ xs) (suc x) lt = item-there xs x (omega arith)

-- the imported function with this index
pub import-there : (p : Parts) (x : ℕ) → x < length p.imports → (m : Import) × (slice_get (program_of p).functions x ≡ Some (imported p.types m))
import-there p x lt =
    let m = item-there p.imports x lt in
    (m.0, import-at p x m.0 lt (sym (get_or_from_slice_get p.imports x m.0 m.0 m.1)))

-- the newest call of some
pub some-newest : (fs : List FlatFrame) → 0 < length fs → (f : FlatFrame) × Newest fs (length fs) f
some-newest [] lt = absurd (omega arith)
some-newest (d ∷ fs) lt =
    let f = get_or (d ∷ fs) (length (d ∷ fs) - 1) d in
    (f, newest (d ∷ fs) (length (d ∷ fs)) f refl lt (get_or-same (d ∷ fs) (length (d ∷ fs) - 1) d f (omega arith)))

module _ (p : Parts) (s : State) (n : ℕ) (f : FlatFrame) (t : Newest s.frames.items n f) (i : Instr) (st : StandsAt p f i) (x above : ℕ) (function : Function) (is : slice_get (program_of p).functions x ≡ Some function) (none : function.body ≡ None) where
  waits : IsGoing (call_above (program_of p) x above (config_of p s)) → length t.older + 1 < frame_limit → call_above (program_of p) x above (config_of p s) ≡ within_limit (operand_count (without_operands (length function.ftype.params) (caller_of p.funcs above f) ∷ map (call_of p.funcs) t.older) + arity_of function.ftype.result) (record (config_of p s) { frames = caller_of p.funcs above f ∷ map (call_of p.funcs) t.older; waiting = Some x })
  waits going few =
      call-begins p s n f t i st x above function is going few ∙ ap (λ o. begun x function.ftype (config_of p s) (map (call_of p.funcs) t.older) (caller_of p.funcs above f) o) none

  -- the operands that are left without the arguments
  left-is : s.operands ≡ operand_count (calls_of p.funcs s.frames.items) → above ≤ length f.operands.items → length function.ftype.params ≤ length f.operands.items - above → operand_count (without_operands (length function.ftype.params) (caller_of p.funcs above f) ∷ map (call_of p.funcs) t.older) ≡ s.operands - above - length function.ftype.params
  left-is counted le enough =
      omega (arith, counted, operands-are p.funcs s.frames.items n f t, length-drop (length function.ftype.params) (drop above (reverse f.operands.items)), length-drop above (reverse f.operands.items), length-reverse f.operands.items, le, enough)

  pub wait-traps : IsGoing (call_above (program_of p) x above (config_of p s)) → length t.older + 1 < frame_limit → s.operands ≡ operand_count (calls_of p.funcs s.frames.items) → above ≤ length f.operands.items → operand_limit < s.operands - above - length function.ftype.params + arity_of function.ftype.result → call_above (program_of p) x above (config_of p s) ≡ Traps trap.Operands
  wait-traps going few counted le many =
      let enough = arguments-there p s n f t i st x above function is going in
      let over = lt-ltb operand_limit (operand_count (without_operands (length function.ftype.params) (caller_of p.funcs above f) ∷ map (call_of p.funcs) t.older) + arity_of function.ftype.result) (subst (λ k. operand_limit < k + arity_of function.ftype.result) (sym (left-is counted le enough)) many) in
      waits going few ∙ ap (λ b. cond b (Traps trap.Operands) (Goes (record (config_of p s) { frames = caller_of p.funcs above f ∷ map (call_of p.funcs) t.older; waiting = Some x }))) over

  pub wait-goes : IsGoing (call_above (program_of p) x above (config_of p s)) → length t.older + 1 < frame_limit → s.operands ≡ operand_count (calls_of p.funcs s.frames.items) → above ≤ length f.operands.items → s.operands - above - length function.ftype.params + arity_of function.ftype.result ≤ operand_limit → (h : FlatFrame) → Caller f h (length f.operands.items - above) → (fs : List FlatFrame) → reverse fs ≡ h ∷ t.older → call_above (program_of p) x above (config_of p s) ≡ Goes (record (config_of p s) { frames = calls_of p.funcs fs; waiting = Some x })
  wait-goes going few counted le small h caller fs e =
      let enough = arguments-there p s n f t i st x above function is going in
      let frame = frame_of (code_at p.funcs f.func) (moved f (f.at + 1)) in
      let under = le-ltb operand_limit (operand_count (without_operands (length function.ftype.params) (caller_of p.funcs above f) ∷ map (call_of p.funcs) t.older) + arity_of function.ftype.result) (subst (λ k. k + arity_of function.ftype.result ≤ operand_limit) (sym (left-is counted le enough)) small) in
      let calls : calls_of p.funcs fs ≡ caller_of p.funcs above f ∷ map (call_of p.funcs) t.older = ap (map (call_of p.funcs)) e ∙ ap (λ y. y ∷ map (call_of p.funcs) t.older) (caller-frame p.funcs f h (length f.operands.items - above) caller) ∙ ap (λ os. record frame { operands = os } ∷ map (call_of p.funcs) t.older) (sym (under-above f.operands.items (length f.operands.items - above) above (omega arith))) in
      waits going few ∙ ap (λ b. cond b (Traps trap.Operands) (Goes (record (config_of p s) { frames = caller_of p.funcs above f ∷ map (call_of p.funcs) t.older; waiting = Some x }))) under ∙ ap (λ l. Goes (record (config_of p s) { frames = l; waiting = Some x })) (sym calls)

-- the place of the result is there, where no argument leaves its own
pub waiting-answerable : (p : Parts) (x : ℕ) (u : FuncType) (h : FlatFrame) (older : List FlatFrame) → FitsProgram (module_context p) (program_of p) → ((function : Function) → slice_get (program_of p).functions x ≡ Some function → u ≡ function.ftype) → (u.params ≡ [] → vec_len h.operands < vec_capacity h.operands) → length h.operands.items + operands_in older + arity_of u.result ≤ operand_limit + length u.params → IsAnswerable p (Some x) (h ∷ older)
waiting-answerable p x u h older program is room fits t e =
    let k = program.each x t e in
    let same : u ≡ t = is k.0 k.1 ∙ k.2 in
    (λ none. room (ap (λ (y : FuncType). y.params) same ∙ none), subst (λ (y : FuncType). length h.operands.items + operands_in older + arity_of y.result ≤ operand_limit + length y.params) same fits)
