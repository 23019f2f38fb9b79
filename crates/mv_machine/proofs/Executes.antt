-- One instruction of the newest call of the code is one over trees.
use Rattle.std.proofs.Common.{true, false, cond, Bool, ◌≡◌, ℕ, zero, suc, ◌+◌, ◌<◌, List, [], ◌∷◌, length, get_or, Option, Some, None, refl, sym, ap, ◌∙◌, subst, arith, length-append}
use Rattle.mv_syntax.specs.Types.{same_function_type}
use Rattle.std.proofs.lemmas.List.{length-map, length-reverse}
use Rattle.std.proofs.lemmas.Option.{slice_get-get_or}
use Rattle.std.specs.Prelude.{reverse, map, nat_lt, nat_le, slice_get, Result, Ok, Err, IfOk}
use Rattle.mv_calls.specs.declared.trap.Trap.{Trap}
use Rattle.mv_calls.specs.declared.trap.Trap.TheVariants as trap
use Rattle.mv_calls.specs.declared.fault.OutOfMemory.{OutOfMemory}
use Rattle.mv_syntax.specs.declared.ops.ValType.TheVariants.{I32}
use Rattle.mv_syntax.specs.declared.types.FuncType.{FuncType}
use Rattle.mv_syntax.specs.declared.instr.Instr.{Instr}
use Rattle.mv_syntax.specs.declared.instr.Instr.TheVariants.{Call, CallIndirect}
use Rattle.mv_syntax.specs.declared.module.Func.{Func}
use Rattle.mv_syntax.specs.Sections.{Parts}
use Rattle.mv_syntax.specs.Tree.{Tree, plain}
use Rattle.mv_execution.specs.Values.{is_of, arity_of}
use Rattle.mv_execution.specs.Config.{Body, Function, Program, OpenBlock, Frame, Config, frame_limit, operand_limit, operand_count}
use Rattle.mv_execution.specs.Rows.{Out, Goes, Traps, Stuck, Next, advanced, IsGoing, CameTo}
use Rattle.mv_execution.specs.Step.{went, without_operands, begun, invoked, called, called_as, called_entry, called_indirect, row, step_of}
use Rattle.mv_execution.specs.Instance.{program_of, imported, defined}
use Rattle.mv_execution.specs.Fits.{module_context}
use Rattle.mv_frames.specs.declared.frame.Frame.{Frame as FlatFrame}
use Rattle.mv_frames.proofs.Advances.{Top, at-within}
use Rattle.mv_machine.specs.declared.state.State.{State}
use Rattle.mv_machine.specs.States.{code_at, call_of, config_of, IsFine}
use Rattle.mv_machine.specs.Turns.{AreReady, IsReady, counted_step}
use Rattle.mv_machine.specs.Calls.{frame_behind, call_above_in, call_above, calls_nothing, IsAtIn, IsAt, HasFunction}
use Rattle.mv_machine.proofs.Newest.{Newest, calls-are}
use Rattle.mv_machine.proofs.Entries.{fine-step, fits-going, stands-at, step-call}
use Rattle.mv_machine.proofs.Settles.{no-blocks, top-newest}

-- ---- an instruction leaves the count of the gap

abbrev GapIs : ℕ → Out Config → Type 0
GapIs gap (Goes next) = next.gap ≡ gap
GapIs gap (Traps t) = Unit {0}
GapIs gap Stuck = Unit {0}

if-gap : (gap : ℕ) (b : Bool) (x y : Out Config) → GapIs gap x → GapIs gap y → GapIs gap (cond b x y)
if-gap gap true x y p q = p
if-gap gap false x y p q = q

went-gap : (c : Config) (fs : List Frame) (o : Next) → GapIs c.gap (went c fs o)
went-gap c fs (Goes next) = if-gap c.gap (nat_lt operand_limit (operand_count (next.1 ∷ fs))) (Traps trap.Operands) (Goes (record c { store = next.0; frames = next.1 ∷ fs })) tt refl
went-gap c fs (Traps t) = tt
went-gap c fs Stuck = tt

begun-gap : (x : ℕ) (t : FuncType) (c : Config) (fs : List Frame) (f : Frame) (o : Option Body) → GapIs c.gap (begun x t c fs f o)
begun-gap x t c fs f None = if-gap c.gap (nat_lt operand_limit (operand_count (without_operands (length t.params) f ∷ fs) + arity_of t.result)) (Traps trap.Operands) (Goes (record c { frames = f ∷ fs; waiting = Some x })) tt refl
begun-gap x t c fs f (Some body) = refl

invoked-gap : (x : ℕ) (function : Function) (c : Config) (fs : List Frame) (f : Frame) → GapIs c.gap (invoked x function c fs f)
invoked-gap x function c fs f =
    let b = begun x function.ftype c fs f function.body in
    if-gap c.gap (nat_lt (length f.operands) (length function.ftype.params)) Stuck (cond (nat_le frame_limit (length (f ∷ fs))) (Traps trap.Frames) b) tt (if-gap c.gap (nat_le frame_limit (length (f ∷ fs))) (Traps trap.Frames) b tt (begun-gap x function.ftype c fs f function.body))

called-gap : (program : Program) (x : ℕ) (c : Config) (fs : List Frame) (f : Frame) → GapIs c.gap (called program x c fs f)
called-gap program x c fs f = by (slice_get program.functions x)
  where
    by : (o : Option Function) → GapIs c.gap (elim o as (λ z. Out Config) [ None ↦ Stuck | Some function ↦ invoked x function c fs f ])
    by None = tt
    by (Some function) = invoked-gap x function c fs f

as-gap : (program : Program) (t : FuncType) (x : ℕ) (c : Config) (fs : List Frame) (f : Frame) → GapIs c.gap (called_as program t x c fs f)
as-gap program t x c fs f = by (slice_get program.functions x)
  where
    by : (o : Option Function) → GapIs c.gap (elim o as (λ z. Out Config) [ None ↦ Stuck | Some function ↦ cond (same_function_type function.ftype t) (invoked x function c fs f) (Traps trap.IndirectType) ])
    by None = tt
    by (Some function) = if-gap c.gap (same_function_type function.ftype t) (invoked x function c fs f) (Traps trap.IndirectType) (invoked-gap x function c fs f) tt

entry-gap : (program : Program) (t : FuncType) (o : Option (Option ℕ)) (c : Config) (fs : List Frame) (f : Frame) → GapIs c.gap (called_entry program t o c fs f)
entry-gap program t None c fs f = tt
entry-gap program t (Some None) c fs f = tt
entry-gap program t (Some (Some x)) c fs f = as-gap program t x c fs f

indirect-gap : (program : Program) (y : ℕ) (c : Config) (fs : List Frame) (f : Frame) → GapIs c.gap (called_indirect program y c fs f)
indirect-gap program y c fs f = by (slice_get program.types y)
  where
    on : (t : FuncType) (operands : List ℕ) → GapIs c.gap (elim operands as (λ z. Out Config) [ [] ↦ Stuck | v ∷ below ↦ cond (is_of I32 v) (called_entry program t (slice_get c.store.table v) c fs (record f { operands = below })) Stuck ])
    on t [] = tt
    on t (v ∷ below) = if-gap c.gap (is_of I32 v) (called_entry program t (slice_get c.store.table v) c fs (record f { operands = below })) Stuck (entry-gap program t (slice_get c.store.table v) c fs (record f { operands = below })) tt

    by : (o : Option FuncType) → GapIs c.gap (elim o as (λ z. Out Config) [ None ↦ Stuck | Some t ↦ elim f.operands as (λ z. Out Config) [ [] ↦ Stuck | v ∷ below ↦ cond (is_of I32 v) (called_entry program t (slice_get c.store.table v) c fs (record f { operands = below })) Stuck ] ])
    by None = tt
    by (Some t) = on t f.operands

row-gap : (program : Program) (t : Tree) (b : OpenBlock) (outer : List OpenBlock) (c : Config) (fs : List Frame) (f : Frame) → GapIs c.gap (row program t b outer c fs f)
row-gap program (plain (Call x) rest) b outer c fs f = called-gap program x c fs (record f { blocks = record b { rest = rest } ∷ outer })
row-gap program (plain (CallIndirect y) rest) b outer c fs f = indirect-gap program y c fs (record f { blocks = record b { rest = rest } ∷ outer })
row-gap program t b outer c fs f = went-gap c fs (advanced t b outer c.store f)

step-gap : (program : Program) (c : Config) (frames : List Frame) → GapIs c.gap (step_of program c frames)
step-gap program c [] = tt
step-gap program c (f ∷ fs) = by f.blocks
  where
    by : (bs : List OpenBlock) → GapIs c.gap (elim bs as (λ z. Out Config) [ [] ↦ Stuck | b ∷ outer ↦ row program b.rest b outer c fs f ])
    by [] = tt
    by (b ∷ outer) = row-gap program b.rest b outer c fs f

pub came-gap : (program : Program) (c d : Config) (o : Option Trap) → CameTo o (counted_step program c) c d → d.gap ≡ c.gap
came-gap program c d None h = let k : GapIs c.gap (Goes d) = subst (GapIs c.gap) h (step-gap program c c.frames) in k
came-gap program c d (Some t) h = ap (λ (x : Config). x.gap) h.1

pub came-gap-ok : (r : Result (Option Trap) OutOfMemory) (program : Program) (c d : Config) → IfOk r (λ o. CameTo o (counted_step program c) c d) → IfOk r (λ o. d.gap ≡ c.gap)
came-gap-ok (Ok o) program c d h = came-gap program c d o h
came-gap-ok (Err e) program c d h = h

-- ---- a call

called-there : (program : Program) (x : ℕ) (c : Config) (frames : List Frame) → IsGoing (call_above_in program x 0 c frames) → x < length program.functions
called-there program x c [] h = absurd h
called-there program x c (f ∷ fs) h = by (slice_get program.functions x) refl h
  where
    inside : (functions : List Function) (n : ℕ) (function : Function) → slice_get functions n ≡ Some function → n < length functions
    inside [] n function e = absurd (cc)
    inside (g ∷ gs) zero function e = omega arith
    inside (g ∷ gs) (suc n) function e = omega (arith, inside gs n function e)

    by : (o : Option Function) → slice_get program.functions x ≡ o → IsGoing (elim o as (λ z. Out Config) [ None ↦ Stuck | Some function ↦ invoked x function c fs (without_operands 0 (frame_behind f)) ]) → x < length program.functions
    by None e k = absurd k
    by (Some function) e k = inside program.functions x function e

function-count : (p : Parts) → length (program_of p).functions ≡ length p.imports + length p.funcs
function-count p = length-append (map (imported p.types) p.imports) (map (defined p.types) p.funcs) ∙ ap (λ n. n + length (map (defined p.types) p.funcs)) (length-map p.imports (imported p.types)) ∙ ap (λ n. length p.imports + n) (length-map p.funcs (defined p.types))

-- ---- in the code

pub ready-some : (p : Parts) (s : State) → IsReady (config_of p s) → 0 < length s.frames.items
ready-some p s r = rw length-reverse at (by (reverse s.frames.items) r.calls)
  where
    by : (l : List FlatFrame) → AreReady (map (call_of p.funcs) l) → 0 < length l
    by [] k = absurd k
    by (f ∷ l) k = omega arith

open-labels : (funcs : List Func) (f : FlatFrame) (fs : List Frame) → AreReady (call_of funcs f ∷ fs) → 0 < length f.labels.items
open-labels funcs f fs h = by (length f.labels.items) refl
  where
    by : (n : ℕ) → length f.labels.items ≡ n → 0 < length f.labels.items
    by zero e = let bad : [] ≡ h.0 ∷ h.1 = sym (no-blocks funcs f e) ∙ h.2 in absurd (cc)
    by (suc n) e = omega (arith, e)

module _ (p : Parts) (s : State) (n : ℕ) (f : FlatFrame) (t : Newest s.frames.items n f) (h : IsFine p s) (r : IsReady (config_of p s)) where
  -- what is in front of the newest call
  pub front : Top (code_at p.funcs f.func) f
  front = top-newest p s n f t h (open-labels p.funcs f (map (call_of p.funcs) t.older) (subst AreReady (calls-are p.funcs s.frames.items n f t) r.calls))

  pub in-code : f.at < length (code_at p.funcs f.func)
  in-code = at-within (code_at p.funcs f.func) f front

  read-here : (i : Instr) → i ≡ get_or (code_at p.funcs f.func) f.at i → slice_get (code_at p.funcs f.func) f.at ≡ Some i
  read-here i is = slice_get-get_or (code_at p.funcs f.func) f.at i in-code ∙ ap Some (sym is)

  pub is-at : (P : Instr → FlatFrame → Type 0) (i : Instr) → i ≡ get_or (code_at p.funcs f.func) f.at i → P i f → IsAt P p s
  is-at P i is holds = subst (IsAtIn P p.funcs) (sym t.listed) (i, read-here i is, holds)

  pub call-step : (i : Instr) → i ≡ get_or (code_at p.funcs f.func) f.at i → (x : ℕ) → i ≡ Call x → counted_step (program_of p) (config_of p s) ≡ call_above (program_of p) x 0 (config_of p s)
  call-step i is x e = step-call p s n f t x (stands-at p s n f t (Call x) h r (read-here i is ∙ ap Some e) refl)

  pub call-going : (i : Instr) → i ≡ get_or (code_at p.funcs f.func) f.at i → (x : ℕ) → i ≡ Call x → IsGoing (call_above (program_of p) x 0 (config_of p s))
  call-going i is x e = subst IsGoing (call-step i is x e) (fits-going (module_context p) h.gives (counted_step (program_of p) (config_of p s)) (fine-step p s h r))

  pub call-there : (i : Instr) → i ≡ get_or (code_at p.funcs f.func) f.at i → (x : ℕ) → i ≡ Call x → HasFunction p x
  call-there i is x e = omega (arith, called-there (program_of p) x (config_of p s) (config_of p s).frames (call-going i is x e), function-count p)

  pub call-comes : (i : Instr) → i ≡ get_or (code_at p.funcs f.func) f.at i → (x : ℕ) → i ≡ Call x → (d : Config) (o : Result (Option Trap) OutOfMemory) → IfOk o (λ trap. CameTo trap (call_above (program_of p) x 0 (config_of p s)) (config_of p s) d) → IfOk o (λ trap. CameTo trap (counted_step (program_of p) (config_of p s)) (config_of p s) d)
  call-comes i is x e d o k = subst (λ z. IfOk o (λ trap. CameTo trap z (config_of p s) d)) (sym (call-step i is x e)) k

pub nothing-called : (i : Instr) → ((x : ℕ) → i ≡ Call x → ⊥) → ((y : ℕ) → i ≡ CallIndirect y → ⊥) → calls_nothing i ≡ true
nothing-called (Call x) a b = absurd (a x refl)
nothing-called (CallIndirect y) a b = absurd (b y refl)
nothing-called i a b = refl
