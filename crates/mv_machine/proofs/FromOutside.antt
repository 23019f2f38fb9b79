-- What is done with a state from outside is what is done with its configuration over trees.
use Rattle.std.proofs.Common.{true, false, ◌≡◌, ℕ, zero, suc, ◌+◌, ◌-◌, ◌<◌, ◌≤◌, List, [], ◌∷◌, ◌++◌, length, take, drop, get_or, set, Option, Some, None, refl, sym, ap, ◌∙◌, subst, arith, ◌⊎◌, inl, inr, length-append, length-drop}
use Rattle.std.specs.Prelude.{reverse, map, slice_get, nat_le, option_and_then, vec_len, vec_capacity, is_some}
use mir.Val.{bool_byte}
use Rattle.std.proofs.lemmas.Bool.Decides.{leb_tells}
use Rattle.std.proofs.lemmas.List.{length-map, length-set, length-reverse, reverse-reverse, nil_from_length, get_or-drop}
use Rattle.std.proofs.lemmas.Option.{slice_get-map, slice_get_within, get_or_from_slice_get, slice_get_read}
use Rattle.std.specs.Option.{option_map}
use Rattle.mv_syntax.specs.declared.ops.ValType.{ValType}
use Rattle.mv_syntax.specs.declared.types.FuncType.{FuncType}
use Rattle.mv_syntax.specs.declared.module.Import.{Import}
use Rattle.mv_syntax.specs.declared.module.Func.{Func}
use Rattle.mv_syntax.specs.Tree.{IsClosedCode}
use Rattle.mv_syntax.specs.Sections.{Parts}
use Rattle.mv_validator.specs.Types.{operands_of}
use Rattle.mv_validator.specs.Typing.{Context, func_type}
use Rattle.mv_validator.specs.Valid.{IsValid}
use Rattle.mv_execution.specs.Values.{arity_of}
use Rattle.mv_execution.specs.Config.{Function, Program, Frame, Config, operand_limit, operand_count}
use Rattle.mv_execution.specs.Step.{entry_frame}
use Rattle.mv_execution.specs.Instance.{program_of, imported, defined, tree_of}
use Rattle.mv_execution.specs.Run.{entered, entered_as, param_count, newest_operands, arguments, answered, answered_in, StandsAt, Stop as TreeStop}
use Rattle.mv_execution.specs.Fits.{IsOf, AreOf, Gives, FitsProgram, FitsWaiting, FitsCalls, FitsConfig, module_context}
use Rattle.mv_execution.proofs.Stops.{run-stands}
use Rattle.mv_execution.proofs.Operands.{are-length, are-get}
use Rattle.mv_execution.proofs.Runs.{run-fits, entered-fits, answered-fits, arguments-fit}
use Rattle.mv_frames.specs.declared.frame.Frame.{Frame as FlatFrame}
use Rattle.mv_frames.specs.Frames.{frame_of, IsPlaced}
use Rattle.mv_frames.proofs.Lists.{reverse-drop}
use Rattle.mv_machine.specs.declared.run.Stop.{Stop}
use Rattle.mv_machine.specs.declared.run.Stop.TheVariants as stops
use Rattle.mv_machine.specs.declared.state.State.{State}
use Rattle.mv_machine.specs.States.{code_at, code_or, call_of, calls_of, values_of, ArePlacedIn, config_of, IsAnswerable, IsGivenLast, IsFine}
use Rattle.mv_machine.specs.Calls.{HasFunction}
use Rattle.mv_machine.specs.Executions.{Execution}
use Rattle.mv_machine.specs.Turns.{StopIs}
use Rattle.mv_machine.specs.Stops.{StopStands, StopFits}
use Rattle.mv_machine.proofs.Newest.{Newest, calls-are, calls-become, newest-placed, placed-written, operands-are, operands-in-are}
use Rattle.mv_machine.proofs.Signatures.{get-left, get-right, import-at, func-at}

-- ---- the function with an index

item-at : {A : Type 0} (xs : List A) (n : ℕ) → n < length xs → (x : A) × (slice_get xs n ≡ Some x)
item-at [] n lt = absurd (omega arith)
item-at (x ∷ xs) zero lt = (x, refl)
item-at (x ∷ xs) (suc n) lt = item-at xs n (omega arith)

type-at : (p : Parts) (x i : ℕ) → slice_get (module_context p).funcs x ≡ Some i → i < length p.types → (t : FuncType) × (func_type (module_context p) x ≡ Some t)
type-at p x i e lt = let k = item-at p.types i lt in (k.0, ap (option_and_then (slice_get p.types)) e ∙ k.1)

-- each function of a valid module has a type
pub has-type : (p : Parts) (x : ℕ) → IsValid p → HasFunction p x → (t : FuncType) × (func_type (module_context p) x ≡ Some t)
has-type p x v h = by (leb_tells (length p.imports) x)
  where
    n : length (map (λ (m : Import). m.ftype) p.imports) ≡ length p.imports
    n = length-map p.imports (λ (m : Import). m.ftype)

    by : ((nat_le (length p.imports) x ≡ true) × (length p.imports ≤ x)) ⊎ ((nat_le (length p.imports) x ≡ false) × (x < length p.imports)) → (t : FuncType) × (func_type (module_context p) x ≡ Some t)
    by (inl own) =
        let k = item-at p.funcs (x - length p.imports) (omega (arith, own.1)) in
        let typed = v.funcs (x - length p.imports) k.0 k.1 in
        type-at p x k.0.ftype (get-right (map (λ (m : Import). m.ftype) p.imports) (map (λ (f : Func). f.ftype) p.funcs) x (omega (arith, n, own.1)) ∙ ap (λ m. slice_get (map (λ (f : Func). f.ftype) p.funcs) (x - m)) n ∙ slice_get-map (λ (f : Func). f.ftype) p.funcs (x - length p.imports) ∙ ap (option_map (λ (f : Func). f.ftype)) k.1) (slice_get_within p.types k.0.ftype typed.ftype typed.declared_as)
    by (inr other) =
        let k = item-at p.imports x other.1 in
        type-at p x k.0.ftype (get-left (map (λ (m : Import). m.ftype) p.imports) (map (λ (f : Func). f.ftype) p.funcs) x (omega (arith, n, other.1)) ∙ slice_get-map (λ (m : Import). m.ftype) p.imports x ∙ ap (option_map (λ (m : Import). m.ftype)) k.1) (v.imports x k.0 k.1)

-- a typed body is closed
pub body-closed : (p : Parts) (n : ℕ) (f : Func) → IsValid p → slice_get p.funcs n ≡ Some f → IsClosedCode f.code
body-closed p n f v e = let k = (v.funcs n f e).typed in (k.0, k.1)

-- ---- a function is entered

entered-is : (p : Parts) (c : Config) (x : ℕ) (function : Function) → slice_get (program_of p).functions x ≡ Some function → entered (program_of p) x c ≡ entered_as c x function
entered-is p c x function e = ap (λ o. elim o as (λ z. Config) [ None ↦ c | Some f ↦ entered_as c x f ]) e

-- where no call is left, a function without parameters can be entered
pub record CanEnter (p : Parts) (s : State) (x : ℕ) : Type 0 where
  pub valid : IsValid p
  pub fine : IsFine p s
  pub idle : s.frames.items ≡ []
  pub function : HasFunction p x
  pub no_parameter : (t : FuncType) → func_type (module_context p) x ≡ Some t → t.params ≡ []

pub can-enter : (p : Parts) (s : State) (x n : ℕ) → IsValid p → IsFine p s → n ≡ length s.frames.items → n ≡ 0 → HasFunction p x → ((t : FuncType) → func_type (module_context p) x ≡ Some t → t.params ≡ []) → CanEnter p s x
can-enter p s x n v h len idle function params = record { valid = v; fine = h; idle = nil_from_length s.frames.items (sym len ∙ idle); function = function; no_parameter = params }

entered-typed : (p : Parts) (s : State) (x : ℕ) → CanEnter p s x → (gs : List ValType) × FitsConfig (module_context p) gs (entered (program_of p) x (config_of p s))
entered-typed p s x h =
    let k = has-type p x h.valid h.function in
    (operands_of k.0.result, entered-fits (module_context p) h.fine.gives (program_of p) (config_of p s) x k.0 h.fine.program h.fine.typed (ap (calls_of p.funcs) h.idle) k.1 (h.no_parameter k.0 k.1))

arity-small : (t : Option ValType) → arity_of t ≤ 1
arity-small None = omega arith
arity-small (Some t) = omega arith

-- an imported one waits at once
pub imported-entered : (p : Parts) (s : State) (x : ℕ) → x < length p.imports → config_of p (record s { waiting = Some x; given = None }) ≡ entered (program_of p) x (config_of p s)
imported-entered p s x lt =
    let k = item-at p.imports x lt in
    sym (entered-is p (config_of p s) x (imported p.types k.0) (import-at p x k.0 lt (sym (get_or_from_slice_get p.imports x k.0 k.0 k.1))))

pub imported-fine : (p : Parts) (s : State) (x : ℕ) → x < length p.imports → CanEnter p s x → IsFine p (record s { waiting = Some x; given = None })
imported-fine p s x lt h = record {
  program = h.fine.program;
  gives = (entered-typed p s x h).0;
  typed = subst (FitsConfig (module_context p) (entered-typed p s x h).0) (sym (imported-entered p s x lt)) (entered-typed p s x h).1;
  placed = h.fine.placed;
  counted = h.fine.counted;
  operands = h.fine.operands;
  frames = h.fine.frames;
  gap = h.fine.gap;
  answerable = subst (λ l. IsAnswerable p (Some x) (reverse l)) (sym h.idle) (λ t e. (tt, omega (arith, arity-small t.result)));
  given = subst (λ l. IsGivenLast None (reverse l)) (sym h.idle) tt;
}

-- the call of the module's own function with this number is the only one then
pub record IsFirst (p : Parts) (new : State) (n : ℕ) (callee : Func) (t : FuncType) (g : FlatFrame) : Type 0 where
  pub function : slice_get p.funcs n ≡ Some callee
  pub ftype : t ≡ (defined p.types callee).ftype
  pub call : frame_of callee.code g ≡ entry_frame t (record { locals = length callee.locals; tree = tree_of callee.code }) []
  pub placed : IsPlaced callee.code g
  pub func : g.func ≡ n
  pub frames : new.frames.items ≡ g ∷ []

module _ (p : Parts) (s new : State) (x : ℕ) (callee : Func) (t : FuncType) (g : FlatFrame) (own : length p.imports ≤ x) (h : CanEnter p s x) (k : IsFirst p new (x - length p.imports) callee t g) where
  code : code_at p.funcs g.func ≡ callee.code
  code = ap (code_at p.funcs) k.func ∙ ap code_or k.function

  calls : calls_of p.funcs new.frames.items ≡ entry_frame (defined p.types callee).ftype (record { locals = length callee.locals; tree = tree_of callee.code }) [] ∷ []
  calls =
      ap (calls_of p.funcs) k.frames ∙ ap (λ l. frame_of l g ∷ []) code ∙ ap (λ f. f ∷ []) k.call ∙ ap (λ z. entry_frame z (record { locals = length callee.locals; tree = tree_of callee.code }) [] ∷ []) k.ftype

  pub own-entered : config_of p (record s { frames = new.frames; waiting = None; given = None }) ≡ entered (program_of p) x (config_of p s)
  own-entered =
      let is = func-at p x callee own h.function (sym (get_or_from_slice_get p.funcs (x - length p.imports) callee callee k.function)) in
      ap (λ l. let c : Config = record (config_of p s) { frames = l; waiting = None; given = [] } in c) calls ∙ sym (entered-is p (config_of p s) x (defined p.types callee) is)

  placed-here : ArePlacedIn p.funcs (g ∷ [])
  placed-here =
      let lt = slice_get_within p.funcs (x - length p.imports) callee k.function in
      (subst (λ m. m < length p.funcs) (sym k.func) lt, subst (λ l. IsPlaced l g) (sym code) k.placed, tt)

  pub own-fine : IsFine p (record s { frames = new.frames; waiting = None; given = None })
  own-fine = record {
    program = h.fine.program;
    gives = (entered-typed p s x h).0;
    typed = subst (FitsConfig (module_context p) (entered-typed p s x h).0) (sym own-entered) (entered-typed p s x h).1;
    placed = subst (λ l. ArePlacedIn p.funcs (reverse l)) (sym k.frames) placed-here;
    counted = h.fine.counted ∙ ap (λ l. operand_count (calls_of p.funcs l)) h.idle ∙ sym (ap operand_count calls);
    operands = h.fine.operands;
    frames = omega (arith, ap (λ (l : List FlatFrame). length l) k.frames);
    gap = h.fine.gap;
    answerable = tt;
    given = subst (λ l. IsGivenLast None (reverse l)) (sym k.frames) refl;
  }

-- ---- a call waits

-- a function's parameters are those of its type
pub params-are : (p : Parts) (x : ℕ) (t : FuncType) → FitsProgram (module_context p) (program_of p) → func_type (module_context p) x ≡ Some t → param_count (program_of p) x ≡ length t.params
params-are p x t h e =
    let k = h.each x t e in
    ap (λ o. elim o as (λ z. ℕ) [ None ↦ 0 | Some function ↦ length function.ftype.params ]) k.1 ∙ ap (λ (z : FuncType). length z.params) k.2

-- the type of the call that waits, over the newest call's operands
pub waiting-type : (p : Parts) (s : State) (x : ℕ) (h : IsFine p s) → s.waiting ≡ Some x → (t : FuncType) × (func_type (module_context p) x ≡ Some t) × FitsWaiting (module_context p) h.gives t (calls_of p.funcs s.frames.items)
waiting-type p s x h w =
    let k : FitsCalls (module_context p) h.gives (Some x) (calls_of p.funcs s.frames.items) (values_of s.given) = subst (λ o. FitsCalls (module_context p) h.gives o (calls_of p.funcs s.frames.items) (values_of s.given)) w h.typed.calls in
    (k.0, k.1, k.3)

-- an argument lies on a call's operands
pub argument-held : (p : Parts) (s : State) (x n : ℕ) → IsFine p s → s.waiting ≡ Some x → n < param_count (program_of p) x → 0 < length s.frames.items
argument-held p s x n h w lt = by (calls_of p.funcs s.frames.items) refl k.2
  where
    k : (t : FuncType) × (func_type (module_context p) x ≡ Some t) × FitsWaiting (module_context p) h.gives t (calls_of p.funcs s.frames.items)
    k = waiting-type p s x h w

    by : (fs : List Frame) → calls_of p.funcs s.frames.items ≡ fs → FitsWaiting (module_context p) h.gives k.0 fs → 0 < length s.frames.items
    by [] e none = absurd (omega (arith, lt, params-are p x k.0 h.program k.1, ap (λ (l : List ValType). length l) none.0))
    by (f ∷ fs) e held = omega (arith, ap (λ (l : List Frame). length l) e, length-map (reverse s.frames.items) (call_of p.funcs), length-reverse s.frames.items)

module _ (p : Parts) (s : State) (x n : ℕ) (f : FlatFrame) (h : IsFine p s) (w : s.waiting ≡ Some x) (t : Newest s.frames.items n f) where
  -- all arguments are there
  pub arguments-held : param_count (program_of p) x ≤ length f.operands.items
  arguments-held =
      let k = waiting-type p s x h w in
      let held : FitsWaiting (module_context p) h.gives k.0 (call_of p.funcs f ∷ map (call_of p.funcs) t.older) = subst (FitsWaiting (module_context p) h.gives k.0) (calls-are p.funcs s.frames.items n f t) k.2 in
      omega (arith, params-are p x k.0 h.program k.1, length-reverse f.operands.items, ap (λ (l : List ℕ). length l) held.2, length-append held.0 held.1, are-length (reverse k.0.params) held.0 held.3, length-reverse k.0.params)

  -- the operands of all calls are no fewer
  pub argument-count : param_count (program_of p) x ≤ s.operands
  argument-count = omega (arith, arguments-held, h.counted, operands-are p.funcs s.frames.items n f t)

  arguments-are : (first : ℕ) → first ≡ length f.operands.items - param_count (program_of p) x → arguments (program_of p) (config_of p s) ≡ drop first f.operands.items
  arguments-are first e =
      let ops = f.operands.items in
      let count = param_count (program_of p) x in
      let enough = arguments-held in
      let k : count ≡ length ops - first = omega (arith, e, enough) in
      ap (λ o. elim o as (λ z. List ℕ) [ None ↦ [] | Some y ↦ reverse (take (param_count (program_of p) y) (newest_operands (calls_of p.funcs s.frames.items))) ]) w ∙ ap (λ fs. reverse (take count (newest_operands fs))) (calls-are p.funcs s.frames.items n f t) ∙ ap (λ m. reverse (take m (reverse ops))) k ∙ ap reverse (sym (reverse-drop first ops)) ∙ reverse-reverse (drop first ops)

  pub argument-is : (i first v : ℕ) → first ≡ length f.operands.items - param_count (program_of p) x → i < param_count (program_of p) x → v ≡ get_or f.operands.items (first + i) v → slice_get (arguments (program_of p) (config_of p s)) i ≡ Some v
  argument-is i first v e lt is =
      let ops = f.operands.items in
      let enough = arguments-held in
      ap (λ l. slice_get l i) (arguments-are first e) ∙ slice_get_read (drop first ops) (length ops - first) i v (sym (length-drop first ops)) (omega (arith, e, lt, enough)) (is ∙ sym (get_or-drop first ops i v))

-- an argument is of its parameter's type
pub argument-fits : (p : Parts) (s : State) (x n v : ℕ) (t : FuncType) (u : ValType) → IsFine p s → s.waiting ≡ Some x → func_type (module_context p) x ≡ Some t → slice_get t.params n ≡ Some u → slice_get (arguments (program_of p) (config_of p s)) n ≡ Some v → IsOf u v
argument-fits p s x n v t u h w e is at =
    let k = are-get t.params (arguments (program_of p) (config_of p s)) n u (arguments-fit (module_context p) h.gives (program_of p) (config_of p s) x t h.program h.typed w e) is in
    let same : k.0 ≡ v = (let z : Some k.0 ≡ Some v = sym k.1 ∙ at in cc) in
    subst (IsOf u) same k.2

-- the type that was found for the call that waits
pub waiting-found : (p : Parts) (s : State) (x : ℕ) (t : FuncType) → IsFine p s → s.waiting ≡ Some x → ((function : Function) → slice_get (program_of p).functions x ≡ Some function → t ≡ function.ftype) → func_type (module_context p) x ≡ Some t
waiting-found p s x t h w found =
    let k = waiting-type p s x h w in
    let each = h.program.each x k.0 k.1 in
    k.1 ∙ ap Some (sym (found each.0 each.1 ∙ each.2))

-- ---- a call that waits is answered

-- a result is one operand
pub result-count : (value : Option ℕ) (n : ℕ) → n ≡ bool_byte (is_some value) → n ≡ length (values_of value)
result-count None n e = e
result-count (Some v) n e = e

module _ (p : Parts) (s : State) (x : ℕ) (value : Option ℕ) (w : s.waiting ≡ Some x) where
  answered-as : answered (program_of p) (values_of value) (config_of p s) ≡ answered_in (param_count (program_of p) x) (values_of value) (config_of p s) (calls_of p.funcs s.frames.items)
  answered-as = ap (λ o. elim o as (λ z. Config) [ None ↦ config_of p s | Some y ↦ answered_in (param_count (program_of p) y) (values_of value) (config_of p s) (calls_of p.funcs s.frames.items) ]) w

  answered-typed : (h : IsFine p s) → ((t : FuncType) → func_type (module_context p) x ≡ Some t → AreOf (operands_of t.result) (values_of value)) → FitsConfig (module_context p) h.gives (answered (program_of p) (values_of value) (config_of p s))
  answered-typed h are =
      let k = waiting-type p s x h w in
      answered-fits (module_context p) h.gives (program_of p) (config_of p s) x k.0 (values_of value) h.program h.typed w k.1 (are k.0 k.1)

  -- where no call is left the result is what was given
  answered-none : s.frames.items ≡ [] → config_of p (record s { waiting = None; given = value }) ≡ answered (program_of p) (values_of value) (config_of p s)
  answered-none none =
      let fs : calls_of p.funcs s.frames.items ≡ [] = ap (calls_of p.funcs) none in
      ap (λ l. let c : Config = record (config_of p s) { frames = l; waiting = None; given = values_of value } in c) fs ∙ sym (answered-as ∙ ap (answered_in (param_count (program_of p) x) (values_of value) (config_of p s)) fs)

  pub none-fine : IsFine p s → ((t : FuncType) → func_type (module_context p) x ≡ Some t → AreOf (operands_of t.result) (values_of value)) → s.frames.items ≡ [] → IsFine p (record s { waiting = None; given = value })
  none-fine h are none = record {
    program = h.program;
    gives = h.gives;
    typed = subst (FitsConfig (module_context p) h.gives) (sym (answered-none none)) (answered-typed h are);
    placed = h.placed;
    counted = h.counted;
    operands = h.operands;
    frames = h.frames;
    gap = h.gap;
    answerable = tt;
    given = subst (λ l. IsGivenLast value (reverse l)) (sym none) tt;
  }

-- the place that was kept for a result
pub place-kept : (p : Parts) (s : State) (x n : ℕ) (f : FlatFrame) → IsFine p s → s.waiting ≡ Some x → Newest s.frames.items n f → param_count (program_of p) x ≡ 0 → vec_len f.operands < vec_capacity f.operands
place-kept p s x n f h w t none =
    let k = waiting-type p s x h w in
    let answerable : IsAnswerable p (Some x) (f ∷ t.older) = subst (IsAnswerable p (Some x)) t.listed (subst (λ o. IsAnswerable p o (reverse s.frames.items)) w h.answerable) in
    (answerable k.0 k.1).0 (nil_from_length k.0.params (sym (params-are p x k.0 h.program k.1) ∙ none))

arity-length : (t : Option ValType) (vs : List ℕ) → AreOf (operands_of t) vs → length vs ≡ arity_of t
arity-length t vs are = omega (arith, are-length (operands_of t) vs are, by t)
  where
    by : (t : Option ValType) → length (operands_of t) ≡ arity_of t
    by None = refl
    by (Some t) = refl

-- with the result in the place of the arguments there are no more operands than there may be
pub answer-within : (p : Parts) (s : State) (x n : ℕ) (f : FlatFrame) (value : Option ℕ) → IsFine p s → s.waiting ≡ Some x → Newest s.frames.items n f → ((t : FuncType) → func_type (module_context p) x ≡ Some t → AreOf (operands_of t.result) (values_of value)) → param_count (program_of p) x ≤ s.operands → s.operands - param_count (program_of p) x + length (values_of value) ≤ operand_limit
answer-within p s x n f value h w t are enough =
    let k = waiting-type p s x h w in
    let answerable : IsAnswerable p (Some x) (reverse s.frames.items) = subst (λ o. IsAnswerable p o (reverse s.frames.items)) w h.answerable in
    omega (arith, enough, (answerable k.0 k.1).1, h.counted, operands-in-are p.funcs (reverse s.frames.items), params-are p x k.0 h.program k.1, arity-length k.0.result (values_of value) (are k.0 k.1))

-- the newest call has the result in the place of the arguments then
pub record IsAnswer (count : ℕ) (value : Option ℕ) (f g : FlatFrame) : Type 0 where
  pub rest : g ≡ record f { operands = g.operands }
  pub operands : reverse g.operands.items ≡ values_of value ++ drop count (reverse f.operands.items)

module _ (p : Parts) (s new : State) (x n : ℕ) (f g : FlatFrame) (value : Option ℕ) (w : s.waiting ≡ Some x) (t : Newest s.frames.items n f) (k : IsAnswer (param_count (program_of p) x) value f g) (written : new.frames.items ≡ set s.frames.items (n - 1) g) where
  answer-calls : calls_of p.funcs new.frames.items ≡ record (call_of p.funcs f) { operands = values_of value ++ drop (param_count (program_of p) x) (reverse f.operands.items) } ∷ map (call_of p.funcs) t.older
  answer-calls =
      let next : Frame = record (call_of p.funcs f) { operands = values_of value ++ drop (param_count (program_of p) x) (reverse f.operands.items) } in
      let e : frame_of (code_at p.funcs f.func) g ≡ next = ap (frame_of (code_at p.funcs f.func)) k.rest ∙ ap (λ l. let y : Frame = record (call_of p.funcs f) { operands = l } in y) k.operands in
      ap (calls_of p.funcs) written ∙ calls-become p.funcs s.frames.items n f t g next (ap (λ (y : FlatFrame). y.func) k.rest) e

  pub answered-calls : (m : ℕ) → config_of p (record s { frames = new.frames; operands = m; waiting = None }) ≡ answered (program_of p) (values_of value) (config_of p s)
  answered-calls m =
      ap (λ l. let c : Config = record (config_of p s) { frames = l; waiting = None } in c) answer-calls ∙ sym (answered-as p s x value w ∙ ap (answered_in (param_count (program_of p) x) (values_of value) (config_of p s)) (calls-are p.funcs s.frames.items n f t))

  answer-count : IsFine p s → operand_count (calls_of p.funcs new.frames.items) ≡ s.operands - param_count (program_of p) x + length (values_of value)
  answer-count h =
      let count = param_count (program_of p) x in
      let enough = arguments-held p s x n f h w t in
      ap operand_count answer-calls ∙ omega (arith, enough, h.counted, operands-are p.funcs s.frames.items n f t, length-append (values_of value) (drop count (reverse f.operands.items)), length-drop count (reverse f.operands.items), length-reverse f.operands.items)

  pub answered-fine : IsFine p s → ((t : FuncType) → func_type (module_context p) x ≡ Some t → AreOf (operands_of t.result) (values_of value)) → (m : ℕ) → m ≡ s.operands - param_count (program_of p) x + length (values_of value) → m ≤ operand_limit → IsFine p (record s { frames = new.frames; operands = m; waiting = None })
  answered-fine h are m counted room =
      let here = (newest-placed p.funcs s.frames.items n f t h.placed).1 in
      let there : IsPlaced (code_at p.funcs f.func) g = subst (IsPlaced (code_at p.funcs f.func)) (sym k.rest) here in
      record {
        program = h.program;
        gives = h.gives;
        typed = subst (FitsConfig (module_context p) h.gives) (sym (answered-calls m)) (answered-typed p s x value w h are);
        placed = subst (λ l. ArePlacedIn p.funcs (reverse l)) (sym written) (placed-written p.funcs s.frames.items n f t g h.placed (ap (λ (y : FlatFrame). y.func) k.rest) there);
        counted = counted ∙ sym (answer-count h);
        operands = room;
        frames = omega (arith, h.frames, ap (λ (l : List FlatFrame). length l) written, length-set s.frames.items (n - 1) g);
        gap = h.gap;
        answerable = tt;
        given = subst (IsGivenLast s.given) (sym (ap reverse written ∙ t.written g)) (subst (IsGivenLast s.given) t.listed h.given);
      }

-- ---- how a run stops

-- a run over the flat code leaves what the run over trees leaves
pub stop-stands : (stop : Stop) (program : Program) (fuel : ℕ) (old new : Config) → StopIs stop program fuel old new → StopStands stop new
stop-stands (stops.Import x) program fuel old new e = subst (λ r. StandsAt r.1 r.0) e (run-stands program fuel old)
stop-stands (stops.Ended v) program fuel old new e = subst (λ r. StandsAt r.1 r.0) e (run-stands program fuel old)
stop-stands (stops.Trap t) program fuel old new e = subst (λ r. StandsAt r.1 r.0) e (run-stands program fuel old)
stop-stands stops.Fuel program fuel old new e = subst (λ r. StandsAt r.1 r.0) e (run-stands program fuel old)
stop-stands stops.Memory program fuel old new e = tt

-- a run over the flat code keeps the types of what was entered, as the run over trees does
pub stop-fits : (stop : Stop) (m : Context) (gs : List ValType) (program : Program) (fuel : ℕ) (old new : Config) → FitsProgram m program → FitsConfig m gs old → StopIs stop program fuel old new → StopFits m gs stop new
stop-fits (stops.Import x) m gs program fuel old new p h e = subst (λ (r : Config × TreeStop). FitsConfig m gs r.0) e (run-fits m gs program fuel old p h).0
stop-fits (stops.Ended v) m gs program fuel old new p h e =
    let k = run-fits m gs program fuel old p h in
    (subst (λ (r : Config × TreeStop). FitsConfig m gs r.0) e k.0, subst (λ (r : Config × TreeStop). Gives gs r.1) e k.2)
stop-fits (stops.Trap t) m gs program fuel old new p h e = subst (λ (r : Config × TreeStop). FitsConfig m gs r.0) e (run-fits m gs program fuel old p h).0
stop-fits stops.Fuel m gs program fuel old new p h e = subst (λ (r : Config × TreeStop). FitsConfig m gs r.0) e (run-fits m gs program fuel old p h).0
stop-fits stops.Memory m gs program fuel old new p h e = tt

-- ---- a machine, whose view has its module and its configuration

-- an argument that is below the count of its type's parameters
pub argument-within : (p : Parts) (s : State) (e : Execution) (x n : ℕ) → record { parts = p; config = config_of p s } ≡ e → IsFine p s → s.waiting ≡ Some x → ((y : ℕ) (t : FuncType) → e.config.waiting ≡ Some y → func_type (module_context e.parts) y ≡ Some t → n < length t.params) → n < param_count (program_of p) x
argument-within p s e x n view h w within =
    let k = waiting-type p s x h w in
    let lt : n < length k.0.params = subst (λ (z : Execution). (y : ℕ) (t : FuncType) → z.config.waiting ≡ Some y → func_type (module_context z.parts) y ≡ Some t → n < length t.params) (sym view) within x k.0 w k.1 in
    omega (arith, params-are p x k.0 h.program k.1, lt)
