-- A typed configuration runs without ever being stuck, and stays typed; so do the calls and answers from outside.
use Rattle.std.proofs.Common.{true, false, cond, Bool, ◌≡◌, ℕ, zero, suc, ◌≤◌, List, [], ◌∷◌, ◌++◌, length, take, drop, Option, Some, None, refl, sym, ap, ◌∙◌, subst, arith}
use Rattle.std.proofs.lemmas.List.{take_at, drop_at, length-reverse, reverse-reverse}
use Rattle.std.specs.Prelude.{nat_le, slice_get, slice_set, reverse, All}
use Rattle.mv_calls.specs.declared.trap.Trap.TheVariants as trap
use Rattle.mv_syntax.specs.declared.ops.ValType.{ValType}
use Rattle.mv_syntax.specs.declared.types.FuncType.{FuncType}
use Rattle.mv_validator.specs.Types.{operands_of}
use Rattle.mv_validator.specs.Typing.{Context, func_type}
use Rattle.mv_execution.specs.Config.{Body, Function, Program, Frame, Config, gap_limit}
use Rattle.mv_execution.specs.Rows.{Out, Goes, Traps, Stuck}
use Rattle.mv_execution.specs.Step.{entry_frame, counted, step_of}
use Rattle.mv_execution.specs.Run.{settled_frames, settled, Stop, Trapped, Fuel, IsStuck, stop_at, run_settled, run, entered, entered_as, param_count, newest_operands, arguments, answered, answered_in, with_new_gap}
use Rattle.mv_memory.specs.Bytes.{IsByte, page_limit}
use Rattle.mv_memory.specs.Memory.{Contents, page_count}
use Rattle.mv_execution.specs.Instance.{with_element, with_memory}
use Rattle.mv_execution.specs.Fits.{AreOf, in_function, FitsUnder, FitFrames, FitsBody, FitsProgram, FitsStore, FitsWaiting, FitsCalls, FitsConfig, RunFits}
use Rattle.mv_execution.proofs.Operands.{are-length}
use Rattle.mv_execution.proofs.Branches.{absorb}
use Rattle.mv_execution.proofs.Steps.{FitsReady, settled-fits, StepFits, step-fits, entry-fits, are-reverse}

-- a configuration that is settled
pub record Ready (m : Context) (gs : List ValType) (c : Config) : Type 0 where
  pub store : FitsStore m c.store
  pub calls : FitsReady m gs c.waiting c.frames c.given

calls-of : (m : Context) (gs : List ValType) (w : Option ℕ) (frames : List Frame) (given : List ℕ) → FitsReady m gs w frames given → FitsCalls m gs w frames given
calls-of m gs (Some x) frames given h = h
calls-of m gs None [] given are = (gs, are, refl)
calls-of m gs None (f ∷ fs) given (g, fit, at) = subst (λ z. FitsCalls m gs None (f ∷ fs) z) (sym g) ([], tt, fit)

ready-fits : (m : Context) (gs : List ValType) (c : Config) → Ready m gs c → FitsConfig m gs c
ready-fits m gs c h = record { store = h.store; calls = calls-of m gs c.waiting c.frames c.given h.calls }

pub settled-ready : (m : Context) (gs : List ValType) (c : Config) → FitsConfig m gs c → Ready m gs (settled c)
settled-ready m gs c h = by c.waiting h.calls
  where
    by : (w : Option ℕ) → FitsCalls m gs w c.frames c.given → Ready m gs (elim w as (λ z. Config) [ Some x ↦ record c { waiting = w } | None ↦ record c { waiting = w; given = (settled_frames c.given c.frames).0; frames = (settled_frames c.given c.frames).1 } ])
    by (Some x) k = record { store = h.store; calls = k }
    by None (pushed, are, fit) = record { store = h.store; calls = settled-fits m gs pushed c.given c.frames fit are }

run-ready : (m : Context) (gs : List ValType) (program : Program) → FitsProgram m program → (fuel : ℕ) (c : Config) → Ready m gs c → RunFits m gs (run_settled program fuel c)
run-ready m gs program p zero c h = by c.waiting c.frames h.calls
  where
    by : (w : Option ℕ) (fs : List Frame) → FitsReady m gs w fs c.given → RunFits m gs (elim (stop_at w fs c.given) as (λ z. Config × Stop) [ Some stop ↦ (c, stop) | None ↦ (c, Fuel) ])
    by (Some x) fs k = (ready-fits m gs c h, tt, tt)
    by None [] k = (ready-fits m gs c h, tt, k)
    by None (f ∷ fs) k = (ready-fits m gs c h, tt, tt)
run-ready m gs program p (suc n) c h = by (λ next k. run-ready m gs program p n (settled next) (settled-ready m gs next k)) c.waiting c.frames refl h.calls
  where
    step-run : ((next : Config) → FitsConfig m gs next → RunFits m gs (run_settled program n (settled next))) → (o : Out Config) → StepFits m gs o → RunFits m gs (elim o as (λ z. Config × Stop) [ Goes next ↦ run_settled program n (settled next) | Traps t ↦ (counted c, Trapped t) | Stuck ↦ (c, IsStuck) ])
    step-run more (Goes next) k = more next k
    step-run more (Traps t) k = (record { store = h.store; calls = calls-of m gs c.waiting c.frames c.given h.calls }, tt, tt)
    step-run more Stuck k = absurd k

    spent : (b : Bool) (r : Config × Stop) → RunFits m gs r → RunFits m gs (cond b (c, Trapped trap.Spent) r)
    spent true r k = (ready-fits m gs c h, tt, tt)
    spent false r k = k

    by : ((next : Config) → FitsConfig m gs next → RunFits m gs (run_settled program n (settled next))) → (w : Option ℕ) (fs : List Frame) → c.waiting ≡ w → FitsReady m gs w fs c.given → RunFits m gs (elim (stop_at w fs c.given) as (λ z. Config × Stop) [ Some stop ↦ (c, stop) | None ↦ cond (nat_le gap_limit c.gap) (c, Trapped trap.Spent) (elim (step_of program (counted c) fs) as (λ z. Config × Stop) [ Goes next ↦ run_settled program n (settled next) | Traps t ↦ (counted c, Trapped t) | Stuck ↦ (c, IsStuck) ]) ])
    by more (Some x) fs w k = (ready-fits m gs c h, tt, tt)
    by more None [] w k = (ready-fits m gs c h, tt, k)
    by more None (f ∷ fs) w k = spent (nat_le gap_limit c.gap) _ (step-run more (step_of program (counted c) (f ∷ fs)) (step-fits m gs program p (counted c) f fs h.store w k))

-- A run of a typed configuration doesn't end in want of an operand, or anything else, and leaves it typed; what it ends with is of
-- the result's type.
pub run-fits : (m : Context) (gs : List ValType) (program : Program) (fuel : ℕ) (c : Config) → FitsProgram m program → FitsConfig m gs c → RunFits m gs (run program fuel c)
run-fits m gs program fuel c p h = run-ready m gs program p fuel (settled c) (settled-ready m gs c h)

-- ---- from outside

none-or-some : {A : Type 0} (x y : A) (o : Option A) → o ≡ Some x → o ≡ Some y → x ≡ y
none-or-some x y o h k = let e : Some x ≡ Some y = sym h ∙ k in cc

params-of : (m : Context) (program : Program) → FitsProgram m program → (x : ℕ) (t : FuncType) → func_type m x ≡ Some t → param_count program x ≡ length t.params
params-of m program p x t e =
    let k = p.each x t e in
    ap (λ o. elim o as (λ z. ℕ) [ None ↦ 0 | Some function ↦ length function.ftype.params ]) k.1 ∙ ap (λ (z : FuncType). length z.params) k.2

-- The arguments of a call that waits are of the types of the function's parameters.
pub arguments-fit : (m : Context) (gs : List ValType) (program : Program) (c : Config) (x : ℕ) (t : FuncType) → FitsProgram m program → FitsConfig m gs c → c.waiting ≡ Some x → func_type m x ≡ Some t → AreOf t.params (arguments program c)
arguments-fit m gs program c x t p h w e = subst (AreOf t.params) (sym whole) (by c.frames held)
  where
    calls : FitsCalls m gs (Some x) c.frames c.given
    calls = subst (λ o. FitsCalls m gs o c.frames c.given) w h.calls

    held : FitsWaiting m gs t c.frames
    held = subst (λ u. FitsWaiting m gs u c.frames) (none-or-some calls.0 t (func_type m x) calls.1 e) calls.3

    whole : arguments program c ≡ reverse (take (length t.params) (newest_operands c.frames))
    whole =
        ap (λ o. elim o as (λ z. List ℕ) [ None ↦ [] | Some y ↦ reverse (take (param_count program y) (newest_operands c.frames)) ]) w
        ∙ ap (λ n. reverse (take n (newest_operands c.frames))) (params-of m program p x t e)

    by : (fs : List Frame) → FitsWaiting m gs t fs → AreOf t.params (reverse (take (length t.params) (newest_operands fs)))
    by [] none = subst (λ ts. AreOf ts (reverse (take (length ts) []))) (sym none.0) tt
    by (f ∷ fs) (args, below, ops, are, more) =
        let count : length args ≡ length t.params = omega (arith, are-length (reverse t.params) args are, length-reverse t.params) in
        let taken : take (length t.params) f.operands ≡ args = ap (take (length t.params)) ops ∙ take_at args below (length t.params) count in
        let all : AreOf t.params (reverse args) = subst (λ ts. AreOf ts (reverse args)) (reverse-reverse t.params) (are-reverse (reverse t.params) args are) in
        subst (λ l. AreOf t.params (reverse l)) (sym taken) all

answered-in : (m : Context) (gs : List ValType) (n : ℕ) (t : FuncType) (results : List ℕ) (c : Config) (frames : List Frame) → FitsStore m c.store → c.given ≡ [] → n ≡ length t.params → AreOf (operands_of t.result) results → FitsWaiting m gs t frames → FitsConfig m gs (answered_in n results c frames)
answered-in m gs n t results c [] store g e are wait = record { store = store; calls = (operands_of t.result, are, wait.1) }
answered-in m gs n t results c (f ∷ fs) store g e are (args, below, ops, args-are, (ls, r, fit, more)) =
    let len : length args ≡ n = omega (arith, e, are-length (reverse t.params) args args-are, length-reverse t.params) in
    let back : drop n f.operands ≡ below = ap (drop n) ops ∙ drop_at args below n len in
    let fit' : FitsUnder (in_function m ls r) [] (record f { operands = results ++ below }) = record { labels = fit.labels; results = fit.results; blocks = absorb (in_function m ls r) fit.labels fit.results f.blocks (operands_of t.result) results below fit.blocks are; locals = fit.locals; gives = fit.gives } in
    let there : FitFrames m gs [] (record f { operands = results ++ drop n f.operands } ∷ fs) = (ls, r, subst (λ z. FitsUnder (in_function m ls r) [] (record f { operands = results ++ z })) (sym back) fit', more) in
    record { store = store; calls = subst (λ z. FitsCalls m gs None (record f { operands = results ++ drop n f.operands } ∷ fs) z) (sym g) ([], tt, there) }

-- A call that waits, answered with results of its type.
pub answered-fits : (m : Context) (gs : List ValType) (program : Program) (c : Config) (x : ℕ) (t : FuncType) (results : List ℕ) → FitsProgram m program → FitsConfig m gs c → c.waiting ≡ Some x → func_type m x ≡ Some t → AreOf (operands_of t.result) results → FitsConfig m gs (answered program results c)
answered-fits m gs program c x t results p h w e are =
    subst (λ o. FitsConfig m gs (elim o as (λ z. Config) [ None ↦ c | Some y ↦ answered_in (param_count program y) results c c.frames ])) (sym w) (by (subst (λ o. FitsCalls m gs o c.frames c.given) w h.calls))
  where
    by : FitsCalls m gs (Some x) c.frames c.given → FitsConfig m gs (answered_in (param_count program x) results c c.frames)
    by (u, k, g, wait) =
        let same : u ≡ t = none-or-some u t (func_type m x) k e in
        answered-in m gs (param_count program x) t results c c.frames h.store g (params-of m program p x t e) are (subst (λ z. FitsWaiting m gs z c.frames) same wait)

-- A function without parameters, entered where no call is left.
pub entered-fits : (m : Context) (gs : List ValType) (program : Program) (c : Config) (x : ℕ) (t : FuncType) → FitsProgram m program → FitsConfig m gs c → c.frames ≡ [] → func_type m x ≡ Some t → t.params ≡ [] → FitsConfig m (operands_of t.result) (entered program x c)
entered-fits m gs program c x t p h none e params =
    let k = p.each x t e in
    subst (λ o. FitsConfig m (operands_of t.result) (elim o as (λ z. Config) [ None ↦ c | Some function ↦ entered_as c x function ])) (sym k.1) (by k.0 k.2 k.0.body (subst (λ z. FitsBody m z k.0.body) (sym k.2) k.3))
  where
    by : (function : Function) → function.ftype ≡ t → (o : Option Body) → FitsBody m function.ftype o → FitsConfig m (operands_of t.result) (elim o as (λ z. Config) [ None ↦ record c { waiting = Some x; given = [] } | Some body ↦ record c { frames = entry_frame function.ftype body [] ∷ []; waiting = None; given = [] } ])
    by function s None fits = record { store = h.store; calls = (t, e, refl, subst (λ z. FitsWaiting m (operands_of t.result) t z) (sym none) (params, refl)) }
    by function s (Some body) fits =
        let no-params : function.ftype.params ≡ [] = ap (λ (z : FuncType). z.params) s ∙ params in
        let frame = entry-fits m function.ftype body [] fits (subst (λ z. AreOf (reverse z) []) (sym no-params) tt) in
        record { store = h.store; calls = ([], tt, (function.ftype.params ++ fits.0, function.ftype.result, frame, ap (λ (z : FuncType). operands_of z.result) s)) }

-- A configuration stays typed with another memory, with a function in the table, and with a new gap.
set-entries : (P : ℕ → Type 0) (xs : List (Option ℕ)) (at x : ℕ) → P x → ((i y : ℕ) → slice_get xs i ≡ Some (Some y) → P y) → (i y : ℕ) → slice_get (slice_set xs at (Some x)) i ≡ Some (Some y) → P y
set-entries P [] at x p h i y e = h i y e
set-entries P (z ∷ xs) zero x p h zero y e = let same : x ≡ y = cc in subst P same p
set-entries P (z ∷ xs) zero x p h (suc i) y e = h (suc i) y e
set-entries P (z ∷ xs) (suc n) x p h zero y e = h zero y e
set-entries P (z ∷ xs) (suc n) x p h (suc i) y e = set-entries P xs n x p (λ j w k. h (suc j) w k) i y e

pub element-fits : (m : Context) (gs : List ValType) (c : Config) (at x : ℕ) (t : FuncType) → func_type m x ≡ Some t → FitsConfig m gs c → FitsConfig m gs (with_element at x c)
element-fits m gs c at x t e h =
    record { store = record { bytes = h.store.bytes; pages = h.store.pages; globals = h.store.globals; table = set-entries (λ y. (u : FuncType) × (func_type m y ≡ Some u)) c.store.table at x (t, e) h.store.table }; calls = h.calls }

pub memory-fits : (m : Context) (gs : List ValType) (c : Config) (memory : Contents) → All IsByte memory.bytes → page_count memory ≤ page_limit → FitsConfig m gs c → FitsConfig m gs (with_memory memory c)
memory-fits m gs c memory bytes pages h =
    record { store = record { bytes = bytes; pages = pages; globals = h.store.globals; table = h.store.table }; calls = h.calls }

pub gap-fits : (m : Context) (gs : List ValType) (c : Config) → FitsConfig m gs c → FitsConfig m gs (with_new_gap c)
gap-fits m gs c h = record { store = h.store; calls = h.calls }
