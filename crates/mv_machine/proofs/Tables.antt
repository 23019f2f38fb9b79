-- Calls through the table.
use Rattle.std.proofs.Common.{true, false, cond, Bool, ◌≡◌, ℕ, ◌+◌, List, [], ◌∷◌, drop, Option, Some, None, refl, sym, ap, ◌∙◌, subst, arith, length-append}
use Rattle.mv_syntax.specs.Types.{same_function_type}
use Rattle.std.specs.Prelude.{reverse, map, slice_get, IfOk, Result, Ok, Err}
use Rattle.std.proofs.lemmas.List.{length-map}
use Rattle.std.proofs.lemmas.Option.{slice_get_within}
use Rattle.mv_calls.specs.declared.trap.Trap.{Trap}
use Rattle.mv_calls.specs.declared.trap.Trap.TheVariants as trap
use Rattle.mv_syntax.specs.declared.ops.ValType.TheVariants.{I32}
use Rattle.mv_syntax.specs.declared.types.FuncType.{FuncType}
use Rattle.mv_syntax.specs.declared.instr.Instr.TheVariants.{CallIndirect}
use Rattle.mv_syntax.specs.Sections.{Parts}
use Rattle.mv_execution.specs.Config.{Function, Program, Frame, Config}
use Rattle.mv_execution.specs.Values.{is_of}
use Rattle.mv_execution.specs.Rows.{Out, Traps, Stuck, popping, IsGoing, CameTo}
use Rattle.mv_execution.specs.Step.{invoked, called_entry, called_indirect}
use Rattle.mv_execution.specs.Instance.{imported, defined, program_of}
use Rattle.mv_execution.specs.Fits.{module_context}
use Rattle.mv_frames.specs.declared.frame.Frame.{Frame as FlatFrame}
use Rattle.mv_frames.specs.Frames.{frame_of}
use Rattle.mv_frames.proofs.Advances.{moved}
use Rattle.mv_machine.specs.declared.state.State.{State}
use Rattle.mv_machine.specs.States.{code_at, call_of, config_of, IsFine}
use Rattle.mv_machine.specs.Turns.{IsReady, counted_step}
use Rattle.mv_machine.specs.Calls.{call_above, HasFunction}
use Rattle.mv_machine.proofs.Newest.{Newest}
use Rattle.mv_machine.proofs.Entries.{StandsAt, caller_of, call-is, called-is, step-indirect, fine-step, fits-going}

-- ---- over trees

-- What a call through the table needs: a type with this index, and an operand that is a place of the table.
pub record Through (program : Program) (y : ℕ) (f : Frame) : Type 0 where
  pub ftype : FuncType
  pub there : slice_get program.types y ≡ Some ftype
  pub entry : ℕ
  pub below : List ℕ
  pub operands : f.operands ≡ entry ∷ below
  pub small : is_of I32 entry ≡ true

-- a call through the table that isn't stuck has it
through : (program : Program) (y : ℕ) (c : Config) (fs : List Frame) (f : Frame) → IsGoing (called_indirect program y c fs f) → Through program y f
through program y c fs f h = by-type (slice_get program.types y) refl h
  where
    by-small : (t : FuncType) (v : ℕ) (below : List ℕ) (b : Bool) → slice_get program.types y ≡ Some t → f.operands ≡ v ∷ below → is_of I32 v ≡ b → IsGoing (cond b (called_entry program t (slice_get c.store.table v) c fs (record f { operands = below })) Stuck) → Through program y f
    by-small t v below true e q s k = record { ftype = t; there = e; entry = v; below = below; operands = q; small = s }
    by-small t v below false e q s k = absurd k

    by-operands : (t : FuncType) (os : List ℕ) → slice_get program.types y ≡ Some t → f.operands ≡ os → IsGoing (elim os as (λ z. Out Config) [ [] ↦ Stuck | v ∷ below ↦ cond (is_of I32 v) (called_entry program t (slice_get c.store.table v) c fs (record f { operands = below })) Stuck ]) → Through program y f
    by-operands t [] e q k = absurd k
    by-operands t (v ∷ below) e q k = by-small t v below (is_of I32 v) e q refl k

    by-type : (o : Option FuncType) → slice_get program.types y ≡ o → IsGoing (elim o as (λ z. Out Config) [ None ↦ Stuck | Some t ↦ popping I32 f (λ i g. called_entry program t (slice_get c.store.table i) c fs g) ]) → Through program y f
    by-type None e k = absurd k
    by-type (Some t) e k = by-operands t f.operands e refl k

through-is : (program : Program) (y : ℕ) (c : Config) (fs : List Frame) (f : Frame) (k : Through program y f) → called_indirect program y c fs f ≡ called_entry program k.ftype (slice_get c.store.table k.entry) c fs (record f { operands = k.below })
through-is program y c fs f k =
    ap (λ o. elim o as (λ z. Out Config) [ None ↦ Stuck | Some t ↦ popping I32 f (λ i g. called_entry program t (slice_get c.store.table i) c fs g) ]) k.there ∙ ap (λ os. elim os as (λ z. Out Config) [ [] ↦ Stuck | v ∷ below ↦ cond (is_of I32 v) (called_entry program k.ftype (slice_get c.store.table v) c fs (record f { operands = below })) Stuck ]) k.operands ∙ ap (λ b. cond b (called_entry program k.ftype (slice_get c.store.table k.entry) c fs (record f { operands = k.below })) Stuck) k.small

head-same : (a b : ℕ) (xs ys : List ℕ) → a ∷ xs ≡ b ∷ ys → a ≡ b
head-same a b xs ys e = cc

tail-same : (a b : ℕ) (xs ys : List ℕ) → a ∷ xs ≡ b ∷ ys → xs ≡ ys
tail-same a b xs ys e = cc

-- ---- the newest call of a state

-- the caller behind its instruction
abbrev pub caller_behind : Parts → FlatFrame → Frame
caller_behind p f = frame_of (code_at p.funcs f.func) (moved f (f.at + 1))

module _ (p : Parts) (s : State) (n : ℕ) (f : FlatFrame) (t : Newest s.frames.items n f) (y : ℕ) (st : StandsAt p f (CallIndirect y)) (fine : IsFine p s) (ready : IsReady (config_of p s)) where
  pub step-through : Through (program_of p) y (caller_behind p f)
  step-through =
      through (program_of p) y (config_of p s) (map (call_of p.funcs) t.older) (caller_behind p f) (subst IsGoing (step-indirect p s n f t y st) (fits-going (module_context p) fine.gives (counted_step (program_of p) (config_of p s)) (fine-step p s fine ready)))

  pub step-entry : (place : ℕ) → reverse f.operands.items ≡ place ∷ drop 1 (reverse f.operands.items) → counted_step (program_of p) (config_of p s) ≡ called_entry (program_of p) step-through.ftype (slice_get s.store.table.items place) (config_of p s) (map (call_of p.funcs) t.older) (caller_of p.funcs 1 f)
  step-entry place e =
      let k = step-through in
      let q = sym k.operands ∙ e in
      step-indirect p s n f t y st ∙ through-is (program_of p) y (config_of p s) (map (call_of p.funcs) t.older) (caller_behind p f) k ∙ ap (λ v. called_entry (program_of p) k.ftype (slice_get s.store.table.items v) (config_of p s) (map (call_of p.funcs) t.older) (record (caller_behind p f) { operands = k.below })) (head-same k.entry place k.below (drop 1 (reverse f.operands.items)) q) ∙ ap (λ os. called_entry (program_of p) k.ftype (slice_get s.store.table.items place) (config_of p s) (map (call_of p.funcs) t.older) (record (caller_behind p f) { operands = os })) (tail-same k.entry place k.below (drop 1 (reverse f.operands.items)) q)

  -- an entry holds a function of the module
  pub entry-function : (place x : ℕ) → slice_get s.store.table.items place ≡ Some (Some x) → (function : Function) × (slice_get (program_of p).functions x ≡ Some function)
  entry-function place x e =
      let u = fine.typed.store.table place x e in
      let k = fine.program.each x u.0 u.1 in
      (k.0, k.1)

  as-is : (place x : ℕ) (function : Function) → reverse f.operands.items ≡ place ∷ drop 1 (reverse f.operands.items) → slice_get s.store.table.items place ≡ Some (Some x) → slice_get (program_of p).functions x ≡ Some function → counted_step (program_of p) (config_of p s) ≡ cond (same_function_type function.ftype step-through.ftype) (invoked x function (config_of p s) (map (call_of p.funcs) t.older) (caller_of p.funcs 1 f)) (Traps trap.IndirectType)
  as-is place x function e there is =
      step-entry place e ∙ ap (λ o. called_entry (program_of p) step-through.ftype o (config_of p s) (map (call_of p.funcs) t.older) (caller_of p.funcs 1 f)) there ∙ ap (λ o. elim o as (λ z. Out Config) [ None ↦ Stuck | Some g ↦ cond (same_function_type g.ftype step-through.ftype) (invoked x g (config_of p s) (map (call_of p.funcs) t.older) (caller_of p.funcs 1 f)) (Traps trap.IndirectType) ]) is

  -- a function of another type
  pub step-differs : (place x : ℕ) (function : Function) → reverse f.operands.items ≡ place ∷ drop 1 (reverse f.operands.items) → slice_get s.store.table.items place ≡ Some (Some x) → slice_get (program_of p).functions x ≡ Some function → same_function_type function.ftype step-through.ftype ≡ false → counted_step (program_of p) (config_of p s) ≡ Traps trap.IndirectType
  step-differs place x function e there is no-match =
      as-is place x function e there is ∙ ap (λ b. cond b (invoked x function (config_of p s) (map (call_of p.funcs) t.older) (caller_of p.funcs 1 f)) (Traps trap.IndirectType)) no-match

  -- a function of the type is called
  pub step-same : (place x : ℕ) (function : Function) → reverse f.operands.items ≡ place ∷ drop 1 (reverse f.operands.items) → slice_get s.store.table.items place ≡ Some (Some x) → slice_get (program_of p).functions x ≡ Some function → same_function_type function.ftype step-through.ftype ≡ true → counted_step (program_of p) (config_of p s) ≡ call_above (program_of p) x 1 (config_of p s)
  step-same place x function e there is match =
      as-is place x function e there is ∙ ap (λ b. cond b (invoked x function (config_of p s) (map (call_of p.funcs) t.older) (caller_of p.funcs 1 f)) (Traps trap.IndirectType)) match ∙ sym (called-is (program_of p) x (config_of p s) (map (call_of p.funcs) t.older) (caller_of p.funcs 1 f) function is) ∙ sym (call-is p s n f t x 1 (CallIndirect y) st)

-- the function is one of the module
pub function-there : (p : Parts) (x : ℕ) (function : Function) → slice_get (program_of p).functions x ≡ Some function → HasFunction p x
function-there p x function e =
    omega (arith, slice_get_within (program_of p).functions x function e, length-append (map (imported p.types) p.imports) (map (defined p.types) p.funcs), length-map p.imports (imported p.types), length-map p.funcs (defined p.types))

-- what came of the one came of the other
pub came-same : {E : Type 0} (r : Result (Option Trap) E) (a b : Out Config) (old new : Config) → a ≡ b → IfOk r (λ t. CameTo t b old new) → IfOk r (λ t. CameTo t a old new)
came-same (Ok t) a b old new e h = subst (λ o. CameTo t o old new) (sym e) h
came-same (Err x) a b old new e h = h
