-- A call that waits for its answer is an import's.
use Rattle.std.proofs.Common.{true, false, cond, Bool, ◌≡◌, ℕ, zero, suc, ◌+◌, ◌<◌, List, [], ◌∷◌, ◌++◌, length, Option, Some, None, refl, sym, ap, ◌∙◌, subst, arith, length-append}
use Rattle.mv_syntax.specs.Types.{same_function_type}
use Rattle.std.proofs.lemmas.List.{length-map}
use Rattle.std.specs.Prelude.{nat_le, nat_lt, slice_get, map}
use Rattle.mv_calls.specs.declared.trap.Trap.TheVariants as trap
use Rattle.mv_syntax.specs.declared.ops.ValType.TheVariants.{I32}
use Rattle.mv_syntax.specs.declared.types.FuncType.{FuncType}
use Rattle.mv_syntax.specs.declared.instr.Instr.TheVariants as instr
use Rattle.mv_syntax.specs.declared.module.Import.{Import}
use Rattle.mv_syntax.specs.declared.module.Func.{Func}
use Rattle.mv_syntax.specs.Sections.{Parts}
use Rattle.mv_syntax.specs.Tree.{Tree, plain}
use Rattle.mv_execution.specs.Values.{is_of}
use Rattle.mv_execution.specs.Config.{Body, Function, Program, OpenBlock, Frame, Config, frame_limit, operand_limit, gap_limit}
use Rattle.mv_execution.specs.Rows.{Out, Goes, Traps, Stuck, Next, advanced}
use Rattle.mv_execution.specs.Step.{within_limit, went, begun, invoked, called, called_as, called_entry, called_indirect, row, counted, step_of, step}
use Rattle.mv_execution.specs.Run.{settled_frames, settled, Stop, Trapped, Fuel, IsStuck, stop_at, run_settled, run, entered, entered_as}
use Rattle.mv_execution.specs.Instance.{program_of, imported, defined}
use Rattle.mv_imports.specs.declared.function.HostFunction.{HostFunction}
use Rattle.mv_imports.specs.Functions.{function_named}
use Rattle.mv_machine.specs.Calls.{HasFunction}
use Rattle.mv_machine.specs.Executions.{Execution}
use Rattle.mv_wasi.specs.Machines.{function_at}
use Rattle.mv_wasi.specs.Known.{AreKnown}
use Rattle.mv_transform.specs.Shown.{WaitsForImport}

-- the function has no body
abbrev IsImported : Program → ℕ → Type 0
IsImported program x = (function : Function) × (slice_get program.functions x ≡ Some function) × (function.body ≡ None)

abbrev WaitsAt : Program → Option ℕ → Type 0
WaitsAt program None = Unit {0}
WaitsAt program (Some x) = IsImported program x

-- ---- an instruction

abbrev Calls : Program → Out Config → Type 0
Calls program (Goes d) = WaitsAt program d.waiting
Calls program (Traps t) = Unit {0}
Calls program Stuck = Unit {0}

module _ (program : Program) where
  within-calls : (count : ℕ) (d : Config) → WaitsAt program d.waiting → Calls program (within_limit count d)
  within-calls count d h = by (nat_lt operand_limit count)
    where
      by : (b : Bool) → Calls program (cond b (Traps trap.Operands) (Goes d))
      by true = tt
      by false = h

  went-calls : (c : Config) (fs : List Frame) (next : Next) → WaitsAt program c.waiting → Calls program (went c fs next)
  went-calls c fs (Goes next) h = within-calls _ (record c { store = next.0; frames = next.1 ∷ fs }) h
  went-calls c fs (Traps t) h = tt
  went-calls c fs Stuck h = tt

  begun-calls : (x : ℕ) (function : Function) (c : Config) (fs : List Frame) (f : Frame) (body : Option Body) → slice_get program.functions x ≡ Some function → function.body ≡ body → WaitsAt program c.waiting → Calls program (begun x function.ftype c fs f body)
  begun-calls x function c fs f None at is h = within-calls _ (record c { frames = f ∷ fs; waiting = Some x }) (function, at, is)
  begun-calls x function c fs f (Some body) at is h = h

  invoked-calls : (x : ℕ) (function : Function) (c : Config) (fs : List Frame) (f : Frame) → slice_get program.functions x ≡ Some function → WaitsAt program c.waiting → Calls program (invoked x function c fs f)
  invoked-calls x function c fs f at h = by (nat_lt (length f.operands) (length function.ftype.params)) (nat_le frame_limit (length (f ∷ fs)))
    where
      by : (missing full : Bool) → Calls program (cond missing Stuck (cond full (Traps trap.Frames) (begun x function.ftype c fs f function.body)))
      by true full = tt
      by false true = tt
      by false false = begun-calls x function c fs f function.body at refl h

  called-calls : (x : ℕ) (c : Config) (fs : List Frame) (f : Frame) → WaitsAt program c.waiting → Calls program (called program x c fs f)
  called-calls x c fs f h = by (slice_get program.functions x) refl
    where
      by : (o : Option Function) → slice_get program.functions x ≡ o → Calls program (elim o as (λ z. Out Config) [ None ↦ Stuck | Some function ↦ invoked x function c fs f ])
      by None e = tt
      by (Some function) e = invoked-calls x function c fs f e h

  as-calls : (t : FuncType) (x : ℕ) (c : Config) (fs : List Frame) (f : Frame) → WaitsAt program c.waiting → Calls program (called_as program t x c fs f)
  as-calls t x c fs f h = by (slice_get program.functions x) refl
    where
      test : (function : Function) (b : Bool) → slice_get program.functions x ≡ Some function → Calls program (cond b (invoked x function c fs f) (Traps trap.IndirectType))
      test function true e = invoked-calls x function c fs f e h
      test function false e = tt

      by : (o : Option Function) → slice_get program.functions x ≡ o → Calls program (elim o as (λ z. Out Config) [ None ↦ Stuck | Some function ↦ cond (same_function_type function.ftype t) (invoked x function c fs f) (Traps trap.IndirectType) ])
      by None e = tt
      by (Some function) e = test function (same_function_type function.ftype t) e

  entry-calls : (t : FuncType) (o : Option (Option ℕ)) (c : Config) (fs : List Frame) (f : Frame) → WaitsAt program c.waiting → Calls program (called_entry program t o c fs f)
  entry-calls t None c fs f h = tt
  entry-calls t (Some None) c fs f h = tt
  entry-calls t (Some (Some x)) c fs f h = as-calls t x c fs f h

  indirect-calls : (y : ℕ) (c : Config) (fs : List Frame) (f : Frame) → WaitsAt program c.waiting → Calls program (called_indirect program y c fs f)
  indirect-calls y c fs f h = by (slice_get program.types y)
    where
      test : (t : FuncType) (i : ℕ) (g : Frame) (b : Bool) → Calls program (cond b (called_entry program t (slice_get c.store.table i) c fs g) Stuck)
      test t i g true = entry-calls t (slice_get c.store.table i) c fs g h
      test t i g false = tt

      taken : (t : FuncType) (operands : List ℕ) → Calls program (elim operands as (λ z. Out Config) [ [] ↦ Stuck | i ∷ below ↦ cond (is_of I32 i) (called_entry program t (slice_get c.store.table i) c fs (record f { operands = below })) Stuck ])
      taken t [] = tt
      taken t (i ∷ below) = test t i (record f { operands = below }) (is_of I32 i)

      by : (o : Option FuncType) → Calls program (elim o as (λ z. Out Config) [ None ↦ Stuck | Some t ↦ elim f.operands as (λ z. Out Config) [ [] ↦ Stuck | i ∷ below ↦ cond (is_of I32 i) (called_entry program t (slice_get c.store.table i) c fs (record f { operands = below })) Stuck ] ])
      by None = tt
      by (Some t) = taken t f.operands

  row-calls : (t : Tree) (b : OpenBlock) (outer : List OpenBlock) (c : Config) (fs : List Frame) (f : Frame) → WaitsAt program c.waiting → Calls program (row program t b outer c fs f)
  row-calls (plain (instr.Call x) rest) b outer c fs f h = called-calls x c fs (record f { blocks = record b { rest = rest } ∷ outer }) h
  row-calls (plain (instr.CallIndirect y) rest) b outer c fs f h = indirect-calls y c fs (record f { blocks = record b { rest = rest } ∷ outer }) h
  row-calls t b outer c fs f h = went-calls c fs (advanced t b outer c.store f) h

  step-calls : (c : Config) (frames : List Frame) → WaitsAt program c.waiting → Calls program (step_of program c frames)
  step-calls c [] h = tt
  step-calls c (f ∷ fs) h = by f.blocks
    where
      by : (bs : List OpenBlock) → Calls program (elim bs as (λ z. Out Config) [ [] ↦ Stuck | b ∷ outer ↦ row program b.rest b outer c fs f ])
      by [] = tt
      by (b ∷ outer) = row-calls b.rest b outer c fs f h

  -- ---- a run

  settled-waits : (c : Config) → WaitsAt program c.waiting → WaitsAt program (settled c).waiting
  settled-waits c h = by c.waiting refl
    where
      by : (w : Option ℕ) → c.waiting ≡ w → WaitsAt program (elim w as (λ z. Config) [ Some x ↦ c | None ↦ record c { given = (settled_frames c.given c.frames).0; frames = (settled_frames c.given c.frames).1 } ]).waiting
      by (Some x) e = h
      by None e = h

  settled-calls : (fuel : ℕ) (c : Config) → WaitsAt program c.waiting → WaitsAt program (run_settled program fuel c).0.waiting
  settled-calls zero c h = by c.waiting c.frames
    where
      by : (w : Option ℕ) (fs : List Frame) → WaitsAt program (elim (stop_at w fs c.given) as (λ z. Config × Stop) [ Some stop ↦ (c, stop) | None ↦ (c, Fuel) ]).0.waiting
      by (Some x) fs = h
      by None [] = h
      by None (f ∷ fs) = h
  settled-calls (suc n) c h = by (λ next k. settled-calls n next k) c.waiting c.frames
    where
      stepped : ((next : Config) → WaitsAt program next.waiting → WaitsAt program (run_settled program n next).0.waiting) → (out : Out Config) → Calls program out → WaitsAt program (elim out as (λ z. Config × Stop) [ Goes next ↦ run_settled program n (settled next) | Traps t ↦ (counted c, Trapped t) | Stuck ↦ (c, IsStuck) ]).0.waiting
      stepped more (Goes next) k = more (settled next) (settled-waits next k)
      stepped more (Traps t) k = h
      stepped more Stuck k = h

      spent : (b : Bool) → ((next : Config) → WaitsAt program next.waiting → WaitsAt program (run_settled program n next).0.waiting) → WaitsAt program (cond b (c, Trapped trap.Spent) (elim (step program c) as (λ z. Config × Stop) [ Goes next ↦ run_settled program n (settled next) | Traps t ↦ (counted c, Trapped t) | Stuck ↦ (c, IsStuck) ])).0.waiting
      spent true more = h
      spent false more = stepped more (step program c) (step-calls (counted c) c.frames h)

      by : ((next : Config) → WaitsAt program next.waiting → WaitsAt program (run_settled program n next).0.waiting) → (w : Option ℕ) (fs : List Frame) → WaitsAt program (elim (stop_at w fs c.given) as (λ z. Config × Stop) [ Some stop ↦ (c, stop) | None ↦ cond (nat_le gap_limit c.gap) (c, Trapped trap.Spent) (elim (step program c) as (λ z. Config × Stop) [ Goes next ↦ run_settled program n (settled next) | Traps t ↦ (counted c, Trapped t) | Stuck ↦ (c, IsStuck) ]) ]).0.waiting
      by more (Some x) fs = h
      by more None [] = h
      by more None (f ∷ fs) = spent (nat_le gap_limit c.gap) more

  run-calls : (fuel : ℕ) (c : Config) → WaitsAt program c.waiting → WaitsAt program (run program fuel c).0.waiting
  run-calls fuel c h = settled-calls fuel (settled c) (settled-waits c h)

-- ---- imports

in-front : {A : Type 0} (xs ys : List A) (n : ℕ) (a : A) → slice_get xs n ≡ Some a → slice_get (xs ++ ys) n ≡ Some a
in-front [] ys n a e = absurd (cc)
in-front (x ∷ xs) ys zero a e = e
in-front (x ∷ xs) ys (suc n) a e = in-front xs ys n a e

imported-at : (types : List FuncType) (is : List Import) (x : ℕ) (i : Import) → slice_get is x ≡ Some i → slice_get (map (imported types) is) x ≡ Some (imported types i)
imported-at types [] x i e = absurd (cc)
imported-at types (j ∷ is) zero i e = let k : j ≡ i = cc in ap (λ z. Some (imported types z)) k
imported-at types (j ∷ is) (suc x) i e = imported-at types is x i e

has-body : (types : List FuncType) (g : Func) (f : Function) → Some (defined types g) ≡ Some f → f.body ≡ None → ⊥
has-body types g f e none =
    let k : defined types g ≡ f = cc in
    let bad : (defined types g).body ≡ None = ap (λ (z : Function). z.body) k ∙ none in
    absurd (cc)

defined-body : (types : List FuncType) (gs : List Func) (x : ℕ) (f : Function) → slice_get (map (defined types) gs) x ≡ Some f → f.body ≡ None → ⊥
defined-body types [] x f e none = absurd (cc)
defined-body types (g ∷ gs) zero f e none = has-body types g f e none
defined-body types (g ∷ gs) (suc x) f e none = defined-body types gs x f e none

import-at : (types : List FuncType) (is : List Import) (gs : List Func) (x : ℕ) (f : Function) → slice_get (map (imported types) is ++ map (defined types) gs) x ≡ Some f → f.body ≡ None → (i : Import) × (slice_get is x ≡ Some i)
import-at types [] gs x f e none = absurd (defined-body types gs x f e none)
import-at types (i ∷ is) gs zero f e none = (i, refl)
import-at types (i ∷ is) gs (suc x) f e none = import-at types is gs x f e none

to-function : (p : Parts) (w : Option ℕ) → WaitsForImport p w → WaitsAt (program_of p) w
to-function p None h = tt
to-function p (Some x) (i, e) = (imported p.types i, in-front (map (imported p.types) p.imports) (map (defined p.types) p.funcs) x (imported p.types i) (imported-at p.types p.imports x i e), refl)

to-import : (p : Parts) (w : Option ℕ) → WaitsAt (program_of p) w → WaitsForImport p w
to-import p None h = tt
to-import p (Some x) h = import-at p.types p.imports p.funcs x h.0 h.1 h.2

-- a run leaves it so
pub run-waits : (p : Parts) (fuel : ℕ) (c new : Config) (stop : Stop) → WaitsForImport p c.waiting → ◌≡◌ {A = Config × Stop} (run (program_of p) fuel c) (new, stop) → WaitsForImport p new.waiting
run-waits p fuel c new stop h e =
    subst (λ (r : Config × Stop). WaitsForImport p r.0.waiting) e (to-import p (run (program_of p) fuel c).0.waiting (run-calls (program_of p) fuel c (to-function p c.waiting h)))

-- and so does a function that is entered
get-none : {A : Type 0} (xs : List A) (x : ℕ) → x < length xs → slice_get xs x ≡ None → ⊥
get-none [] x lt e = absurd (omega arith)
get-none (y ∷ ys) zero lt e = absurd (cc)
get-none (y ∷ ys) (suc x) lt e = get-none ys x (omega arith) e

entered-at : (program : Program) (x : ℕ) (c : Config) → x < length program.functions → WaitsAt program (entered program x c).waiting
entered-at program x c lt = by (slice_get program.functions x) refl
  where
    with-body : (function : Function) (body : Option Body) → slice_get program.functions x ≡ Some function → function.body ≡ body → WaitsAt program (entered_as c x (record function { body = body })).waiting
    with-body function None e k = (function, e, k)
    with-body function (Some body) e k = tt

    by : (o : Option Function) → slice_get program.functions x ≡ o → WaitsAt program (elim o as (λ z. Config) [ None ↦ c | Some function ↦ entered_as c x function ]).waiting
    by None e = absurd (get-none program.functions x lt e)
    by (Some function) e = with-body function function.body e refl

entered-in : (p : Parts) (x : ℕ) (c new : Config) → HasFunction p x → new ≡ entered (program_of p) x c → WaitsForImport p new.waiting
entered-in p x c new lt e =
    let count : length (program_of p).functions ≡ length p.imports + length p.funcs = length-append (map (imported p.types) p.imports) (map (defined p.types) p.funcs) ∙ ap (λ n. n + length (map (defined p.types) p.funcs)) (length-map p.imports (imported p.types)) ∙ ap (λ n. length p.imports + n) (length-map p.funcs (defined p.types)) in
    subst (λ (z : Config). WaitsForImport p z.waiting) (sym e) (to-import p (entered (program_of p) x c).waiting (entered-at (program_of p) x c (omega (arith, count, lt))))

pub entered-waits : (x : ℕ) (old new : Execution) → HasFunction old.parts x → new ≡ record old { config = entered (program_of old.parts) x old.config } → WaitsForImport new.parts new.config.waiting
entered-waits x old new lt e =
    subst (λ (z : Execution). WaitsForImport z.parts z.config.waiting) (sym e) (entered-in old.parts x old.config (entered (program_of old.parts) x old.config) lt refl)

pub none-waits : (p : Parts) (w : Option ℕ) → w ≡ None → WaitsForImport p w
none-waits p w e = subst (WaitsForImport p) (sym e) tt

-- so the function of the host is known
pub function-there : (p : Parts) (x : ℕ) (w : Option ℕ) (o : Option HostFunction) → AreKnown p → WaitsForImport p w → w ≡ Some x → o ≡ function_at p x → o ≡ None → ⊥
function-there p x w o known h e k none =
    let at : WaitsForImport p (Some x) = subst (WaitsForImport p) e h in
    let each = known.each x at.0 at.1 in
    let there : function_at p x ≡ Some each.0 = ap (λ o. elim o as (λ z. Option HostFunction) [ None ↦ None | Some i ↦ function_named i.«module» i.name ]) at.1 ∙ each.1 in
    let bad : Some each.0 ≡ None = sym there ∙ sym k ∙ none in
    absurd (cc)
