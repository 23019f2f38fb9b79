-- Calls of functions in the code.
use Rattle.std.proofs.Common.{true, false, cond, Bool, ◌≡◌, ℕ, length-drop, ◌+◌, ◌-◌, ◌<◌, ◌≤◌, List, [], ◌∷◌, ◌++◌, length, take, drop, set, Option, Some, None, refl, sym, ap, ◌∙◌, subst, arith}
use Rattle.std.specs.Prelude.{reverse, map, slice_get, nat_le, nat_lt}
use Rattle.std.proofs.lemmas.Bool.{ltb-false, le-ltb, le-leb, lt-leb}
use Rattle.std.proofs.lemmas.List.{length-reverse, length-map, length-take, take-take, reverse-reverse, reverse-append, set-append_left, drop-take}
use Rattle.std.proofs.lemmas.Option.{get_or_from_slice_get}
use Rattle.mv_calls.specs.declared.trap.Trap.TheVariants as trap
use Rattle.mv_syntax.specs.declared.ops.ValType.{ValType}
use Rattle.mv_syntax.specs.declared.types.FuncType.{FuncType}
use Rattle.mv_syntax.specs.declared.module.Func.{Func}
use Rattle.mv_syntax.specs.declared.instr.Instr.{Instr}
use Rattle.mv_syntax.specs.declared.instr.Instr.TheVariants.{Call, CallIndirect}
use Rattle.mv_syntax.specs.Tree.{Tree, plain, IsClosedCode}
use Rattle.mv_syntax.specs.Sections.{Parts}
use Rattle.mv_validator.specs.Valid.{IsValid}
use Rattle.mv_validator.specs.Typing.{Context}
use Rattle.mv_execution.specs.Config.{Body, Function, Program, OpenBlock, Frame, Config, frame_limit, operand_count}
use Rattle.mv_execution.specs.Rows.{Out, Goes, Traps, Stuck, IsGoing}
use Rattle.mv_execution.specs.Step.{entry_frame, without_operands, begun, invoked, called, called_indirect, row, step_of}
use Rattle.mv_execution.specs.Instance.{program_of, defined, tree_of}
use Rattle.mv_execution.specs.Fits.{AreOf, FitsProgram, FitFrames, FitsCalls, FitsConfig, module_context}
use Rattle.mv_execution.proofs.Steps.{StepFits, FitsReady, step-fits}
use Rattle.mv_frames.specs.declared.frame.Label.{Label}
use Rattle.mv_frames.specs.declared.frame.Frame.{Frame as FlatFrame}
use Rattle.mv_syntax.specs.Expressions.{is_plain}
use Rattle.mv_frames.specs.Frames.{left_at, block_of, blocks_of, frame_of, IsPlaced}
use Rattle.mv_frames.proofs.Lists.{reverse-take, reverse-drop}
use Rattle.mv_frames.proofs.Advances.{Top, top, skip, moved}
use Rattle.mv_machine.specs.declared.state.State.{State}
use Rattle.mv_machine.specs.States.{code_at, call_of, calls_of, ArePlacedIn, values_of, config_of, IsFine}
use Rattle.mv_machine.specs.Turns.{IsReady, AreReady, counted_step}
use Rattle.mv_machine.specs.Calls.{tree_behind, blocks_behind, frame_behind, call_above_in, call_above, IsAt, IsAtIn}
use Rattle.mv_machine.proofs.Newest.{Newest, calls-are, newest-placed}

-- ---- over trees

module _ (program : Program) (x : ℕ) (c : Config) (fs : List Frame) (f : Frame) (g : Function) (e : slice_get program.functions x ≡ Some g) where
  pub called-is : called program x c fs f ≡ invoked x g c fs f
  called-is = ap (λ o. elim o as (λ z. Out Config) [ None ↦ Stuck | Some function ↦ invoked x function c fs f ]) e

  -- a call that isn't stuck has its arguments
  pub going-enough : IsGoing (called program x c fs f) → length g.ftype.params ≤ length f.operands
  going-enough h = by (nat_lt (length f.operands) (length g.ftype.params)) refl (subst IsGoing called-is h)
    where
      by : (b : Bool) → nat_lt (length f.operands) (length g.ftype.params) ≡ b → IsGoing (cond b Stuck (cond (nat_le frame_limit (length (f ∷ fs))) (Traps trap.Frames) (begun x g.ftype c fs f g.body))) → length g.ftype.params ≤ length f.operands
      by true q h = absurd h
      by false q h = ltb-false (length f.operands) (length g.ftype.params) q

  going-invokes : IsGoing (called program x c fs f) → called program x c fs f ≡ cond (nat_le frame_limit (length (f ∷ fs))) (Traps trap.Frames) (begun x g.ftype c fs f g.body)
  going-invokes h = called-is ∙ ap (λ b. cond b Stuck (cond (nat_le frame_limit (length (f ∷ fs))) (Traps trap.Frames) (begun x g.ftype c fs f g.body))) (le-ltb (length f.operands) (length g.ftype.params) (going-enough h))

  -- where no further call may be open
  pub going-full : IsGoing (called program x c fs f) → frame_limit ≤ length fs + 1 → called program x c fs f ≡ Traps trap.Frames
  going-full h le = going-invokes h ∙ ap (λ b. cond b (Traps trap.Frames) (begun x g.ftype c fs f g.body)) (le-leb frame_limit (length (f ∷ fs)) (omega arith))

  pub going-begins : IsGoing (called program x c fs f) → length fs + 1 < frame_limit → called program x c fs f ≡ begun x g.ftype c fs f g.body
  going-begins h lt = going-invokes h ∙ ap (λ b. cond b (Traps trap.Frames) (begun x g.ftype c fs f g.body)) (lt-leb frame_limit (length (f ∷ fs)) (omega arith))

-- ---- the newest call, which stands at an instruction

labels-some : (code : List Instr) (f : FlatFrame) (b : OpenBlock) (outer : List OpenBlock) → (frame_of code f).blocks ≡ b ∷ outer → 0 < length f.labels.items
labels-some code f b outer h = by f.labels.items refl
  where
    by : (ls : List Label) → f.labels.items ≡ ls → 0 < length f.labels.items
    by [] e = let bad : [] ≡ b ∷ outer = subst (λ ls. blocks_of code (reverse ls) (left_at code f.at) ≡ b ∷ outer) e h in absurd (cc)
    by (l ∷ ls) e = omega (arith, ap length e)

-- What the code has of a frame that stands at an instruction which begins and ends no list.
pub record Stands (code : List Instr) (f : FlatFrame) (i : Instr) : Type 0 where
  pub top : Top code f
  pub rest : Tree
  pub tree : top.rest.tree ≡ plain i rest
  pub placed : IsPlaced code (moved f (f.at + 1))
  pub next : record (frame_of code f) { blocks = record (block_of code top.label top.rest) { rest = rest } ∷ blocks_of code top.labels top.rests } ≡ frame_of code (moved f (f.at + 1))

stands : (code : List Instr) (f : FlatFrame) (i : Instr) → Top code f → slice_get code f.at ≡ Some i → is_plain i ≡ true → Stands code f i
stands code f i t e h =
    let s = skip code f i t (sym (get_or_from_slice_get code f.at i i e)) h in
    record { top = t; rest = s.1.0; tree = s.1.1; placed = s.0; next = s.1.2 }

behind-is : (code : List Instr) (f : FlatFrame) (i : Instr) (s : Stands code f i) → frame_behind (frame_of code f) ≡ frame_of code (moved f (f.at + 1))
behind-is code f i s =
    ap (λ bs. record (frame_of code f) { blocks = blocks_behind bs }) s.top.blocks ∙ ap (λ t. record (frame_of code f) { blocks = record (block_of code s.top.label s.top.rest) { rest = tree_behind t } ∷ blocks_of code s.top.labels s.top.rests }) s.tree ∙ s.next

-- ---- typed configurations

none-pushed : (ts : _) → AreOf ts [] → ts ≡ []
none-pushed [] h = refl
none-pushed (t ∷ ts) h = absurd h

ready-frames : (m : Context) (gs : List ValType) (frames : List Frame) (given : List ℕ) → given ≡ [] → AreReady frames → FitFrames m gs [] frames → FitsReady m gs None frames given
ready-frames m gs [] given g r h = absurd r
ready-frames m gs (f ∷ fs) given g r h = (g, h, r)

-- a typed configuration that is ready is one that a step is typed from
pub ready-fits : (m : Context) (gs : List ValType) (c : Config) → FitsConfig m gs c → IsReady c → FitsReady m gs None c.frames c.given
ready-fits m gs c h r =
    let k : FitsCalls m gs None c.frames [] = subst (λ g. FitsCalls m gs None c.frames g) r.given (subst (λ w. FitsCalls m gs w c.frames c.given) r.waiting h.calls) in
    ready-frames m gs c.frames c.given r.given r.calls (subst (λ ts. FitFrames m gs ts c.frames) (none-pushed k.0 k.1) k.2)

frames-step : (m : Context) (gs : List ValType) (program : Program) (c : Config) (frames : List Frame) → FitsProgram m program → FitsConfig m gs c → c.waiting ≡ None → AreReady frames → FitsReady m gs None frames c.given → StepFits m gs (step_of program c frames)
frames-step m gs program c [] p h w r k = absurd r
frames-step m gs program c (f ∷ fs) p h w r k = step-fits m gs program p c f fs h.store w k

-- an instruction of a fine state is never stuck, and what it comes to is typed
pub fine-step : (p : Parts) (s : State) (h : IsFine p s) → IsReady (config_of p s) → StepFits (module_context p) h.gives (counted_step (program_of p) (config_of p s))
fine-step p s h r =
    frames-step (module_context p) h.gives (program_of p) (config_of p s) (calls_of p.funcs s.frames.items) h.program h.typed r.waiting r.calls (ready-fits (module_context p) h.gives (config_of p s) h.typed r)

pub fits-going : (m : Context) (gs : List ValType) (o : Out Config) → StepFits m gs o → IsGoing o
fits-going m gs (Goes next) h = tt
fits-going m gs (Traps t) h = tt
fits-going m gs Stuck h = absurd h

pub fits-next : (m : Context) (gs : List ValType) (o : Out Config) (next : Config) → o ≡ Goes next → StepFits m gs o → FitsConfig m gs next
fits-next m gs o next e h = subst (StepFits m gs) e h

-- ---- the newest call of a state

-- the caller behind its instruction, without so many operands
abbrev pub caller_of : List Func → ℕ → FlatFrame → Frame
caller_of funcs above f = without_operands above (frame_of (code_at funcs f.func) (moved f (f.at + 1)))

abbrev pub StandsAt : Parts → FlatFrame → Instr → Type 0
StandsAt p f i = Stands (code_at p.funcs f.func) f i

module _ (p : Parts) (s : State) (n : ℕ) (f : FlatFrame) (t : Newest s.frames.items n f) where
  pub at-newest : (P : Instr → FlatFrame → Type 0) → IsAt P p s → IsAtIn P p.funcs (f ∷ t.older)
  at-newest P h = subst (IsAtIn P p.funcs) t.listed h

  newest-top : ArePlacedIn p.funcs (reverse s.frames.items) → IsReady (config_of p s) → Top (code_at p.funcs f.func) f
  newest-top h r =
      let k : AreReady (call_of p.funcs f ∷ map (call_of p.funcs) t.older) = subst AreReady (calls-are p.funcs s.frames.items n f t) r.calls in
      top (code_at p.funcs f.func) f (newest-placed p.funcs s.frames.items n f t h).1 (labels-some (code_at p.funcs f.func) f k.0 k.1 k.2)

  pub stands-at : (i : Instr) → IsFine p s → IsReady (config_of p s) → slice_get (code_at p.funcs f.func) f.at ≡ Some i → is_plain i ≡ true → StandsAt p f i
  stands-at i h r e q = stands (code_at p.funcs f.func) f i (newest-top h.placed r) e q

  -- a call is one by the newest call
  pub call-is : (x above : ℕ) (i : Instr) → StandsAt p f i → call_above (program_of p) x above (config_of p s) ≡ called (program_of p) x (config_of p s) (map (call_of p.funcs) t.older) (caller_of p.funcs above f)
  call-is x above i st =
      ap (λ fs. call_above_in (program_of p) x above (config_of p s) fs) (calls-are p.funcs s.frames.items n f t) ∙ ap (λ g. called (program_of p) x (config_of p s) (map (call_of p.funcs) t.older) (without_operands above g)) (behind-is (code_at p.funcs f.func) f i st)

  step-is : (i : Instr) (st : StandsAt p f i) → counted_step (program_of p) (config_of p s) ≡ row (program_of p) (plain i st.rest) (block_of (code_at p.funcs f.func) st.top.label st.top.rest) (blocks_of (code_at p.funcs f.func) st.top.labels st.top.rests) (config_of p s) (map (call_of p.funcs) t.older) (call_of p.funcs f)
  step-is i st =
      ap (λ fs. step_of (program_of p) (config_of p s) fs) (calls-are p.funcs s.frames.items n f t) ∙ ap (λ bs. elim bs as (λ z. Out Config) [ [] ↦ Stuck | b ∷ outer ↦ row (program_of p) b.rest b outer (config_of p s) (map (call_of p.funcs) t.older) (call_of p.funcs f) ]) st.top.blocks ∙ ap (λ x. row (program_of p) x (block_of (code_at p.funcs f.func) st.top.label st.top.rest) (blocks_of (code_at p.funcs f.func) st.top.labels st.top.rests) (config_of p s) (map (call_of p.funcs) t.older) (call_of p.funcs f)) st.tree

  -- the step at a call is that call
  pub step-call : (x : ℕ) → StandsAt p f (Call x) → counted_step (program_of p) (config_of p s) ≡ call_above (program_of p) x 0 (config_of p s)
  step-call x st =
      step-is (Call x) st ∙ ap (called (program_of p) x (config_of p s) (map (call_of p.funcs) t.older)) st.next ∙ sym (call-is x 0 (Call x) st)

  -- the step at a call through the table
  pub step-indirect : (y : ℕ) → StandsAt p f (CallIndirect y) → counted_step (program_of p) (config_of p s) ≡ called_indirect (program_of p) y (config_of p s) (map (call_of p.funcs) t.older) (frame_of (code_at p.funcs f.func) (moved f (f.at + 1)))
  step-indirect y st = step-is (CallIndirect y) st ∙ ap (called_indirect (program_of p) y (config_of p s) (map (call_of p.funcs) t.older)) st.next

-- ---- the caller behind its instruction, with so many of its oldest operands

pub record Caller (f h : FlatFrame) (count : ℕ) : Type 0 where
  pub same : h ≡ record (moved f (f.at + 1)) { operands = h.operands }
  pub operands : h.operands.items ≡ take count f.operands.items

pub caller-frame : (funcs : List Func) (f h : FlatFrame) (count : ℕ) → Caller f h count → call_of funcs h ≡ record (frame_of (code_at funcs f.func) (moved f (f.at + 1))) { operands = reverse (take count f.operands.items) }
caller-frame funcs f h count c =
    ap (λ (y : FlatFrame). call_of funcs y) c.same ∙ ap (λ os. let y : Frame = record (frame_of (code_at funcs f.func) (moved f (f.at + 1))) { operands = reverse os } in y) c.operands

pub caller-placed : (p : Parts) (f h : FlatFrame) (count : ℕ) (i : Instr) → StandsAt p f i → f.func < length p.funcs → Caller f h count → (h.func < length p.funcs) × IsPlaced (code_at p.funcs h.func) h
caller-placed p f h count i st lt c =
    subst (λ (y : FlatFrame). (y.func < length p.funcs) × IsPlaced (code_at p.funcs y.func) y) (sym c.same) (lt, st.placed)

-- the operands under those that lie over the arguments, the arguments, and those under the arguments
pub under-above : (ops : List ℕ) (below above : ℕ) → below + above ≡ length ops → drop above (reverse ops) ≡ reverse (take below ops)
under-above ops below above e =
    let k : above ≡ length ops - below = omega (arith, e) in
    ap (λ m. drop m (reverse ops)) k ∙ sym (reverse-take below ops)

arguments-are : (ops : List ℕ) (first count above : ℕ) → first + count + above ≡ length ops → reverse (take count (drop above (reverse ops))) ≡ take count (drop first ops)
arguments-are ops first count above e =
    let len : length (take (first + count) ops) ≡ first + count = omega (arith, length-take (first + count) ops, e) in
    let k : count ≡ length (take (first + count) ops) - first = omega (arith, len) in
    ap (λ l. reverse (take count l)) (under-above ops (first + count) above e) ∙ ap (λ m. reverse (take m (reverse (take (first + count) ops)))) k ∙ ap reverse (sym (reverse-drop first (take (first + count) ops))) ∙ reverse-reverse (drop first (take (first + count) ops)) ∙ drop-take first count ops

rest-is : (ops : List ℕ) (first count above : ℕ) → first + count + above ≡ length ops → drop count (drop above (reverse ops)) ≡ reverse (take first ops)
rest-is ops first count above e =
    let len : length (take (first + count) ops) ≡ first + count = omega (arith, length-take (first + count) ops, e) in
    ap (drop count) (under-above ops (first + count) above e) ∙ under-above (take (first + count) ops) first count (omega (arith, len)) ∙ ap reverse (take-take first (first + count) ops (omega arith))

-- ---- a function of the module's own is entered

-- the frame of a call that begins
abbrev pub IsEntry : FuncType → Func → List ℕ → FlatFrame → Type 0
IsEntry t callee arguments g = frame_of callee.code g ≡ entry_frame t (record { locals = length callee.locals; tree = tree_of callee.code }) arguments

module _ (p : Parts) (s : State) (n : ℕ) (f : FlatFrame) (t : Newest s.frames.items n f) (i : Instr) (st : StandsAt p f i) (x above : ℕ) (function : Function) (is : slice_get (program_of p).functions x ≡ Some function) where
  called-going : IsGoing (call_above (program_of p) x above (config_of p s)) → IsGoing (called (program_of p) x (config_of p s) (map (call_of p.funcs) t.older) (caller_of p.funcs above f))
  called-going h = subst IsGoing (call-is p s n f t x above i st) h

  -- the arguments are there
  pub arguments-there : IsGoing (call_above (program_of p) x above (config_of p s)) → length function.ftype.params ≤ length f.operands.items - above
  arguments-there h =
      let k = going-enough (program_of p) x (config_of p s) (map (call_of p.funcs) t.older) (caller_of p.funcs above f) function is (called-going h) in
      omega (arith, k, length-drop above (reverse f.operands.items), length-reverse f.operands.items)

  pub call-full : IsGoing (call_above (program_of p) x above (config_of p s)) → frame_limit ≤ length t.older + 1 → call_above (program_of p) x above (config_of p s) ≡ Traps trap.Frames
  call-full h le =
      call-is p s n f t x above i st ∙ going-full (program_of p) x (config_of p s) (map (call_of p.funcs) t.older) (caller_of p.funcs above f) function is (called-going h) (omega (arith, length-map t.older (call_of p.funcs), le))

  pub call-begins : IsGoing (call_above (program_of p) x above (config_of p s)) → length t.older + 1 < frame_limit → call_above (program_of p) x above (config_of p s) ≡ begun x function.ftype (config_of p s) (map (call_of p.funcs) t.older) (caller_of p.funcs above f) function.body
  call-begins h lt =
      call-is p s n f t x above i st ∙ going-begins (program_of p) x (config_of p s) (map (call_of p.funcs) t.older) (caller_of p.funcs above f) function is (called-going h) (omega (arith, length-map t.older (call_of p.funcs), lt))

module _ (p : Parts) (s : State) (n : ℕ) (f : FlatFrame) (t : Newest s.frames.items n f) (i : Instr) (st : StandsAt p f i) (x above : ℕ) (callee : Func) (is : slice_get (program_of p).functions x ≡ Some (defined p.types callee)) where
  -- the calls behind the entry, the newest first
  pub calls-entered : (g h : FlatFrame) (first : ℕ) → IsEntry (defined p.types callee).ftype callee (take (length (defined p.types callee).ftype.params) (drop first f.operands.items)) g → code_at p.funcs g.func ≡ callee.code → Caller f h first → (fs : List FlatFrame) → reverse fs ≡ g ∷ h ∷ t.older → calls_of p.funcs fs ≡ entry_frame (defined p.types callee).ftype (record { locals = length callee.locals; tree = tree_of callee.code }) (take (length (defined p.types callee).ftype.params) (drop first f.operands.items)) ∷ record (frame_of (code_at p.funcs f.func) (moved f (f.at + 1))) { operands = reverse (take first f.operands.items) } ∷ map (call_of p.funcs) t.older
  calls-entered g h first new code caller fs e =
      ap (map (call_of p.funcs)) e ∙ ap (λ l. frame_of l g ∷ call_of p.funcs h ∷ map (call_of p.funcs) t.older) code ∙ ap (λ y. y ∷ call_of p.funcs h ∷ map (call_of p.funcs) t.older) new ∙ ap (λ y. entry_frame (defined p.types callee).ftype (record { locals = length callee.locals; tree = tree_of callee.code }) (take (length (defined p.types callee).ftype.params) (drop first f.operands.items)) ∷ y ∷ map (call_of p.funcs) t.older) (caller-frame p.funcs f h first caller)

  pub enter-goes : IsGoing (call_above (program_of p) x above (config_of p s)) → length t.older + 1 < frame_limit → (g h : FlatFrame) (first : ℕ) → first + length (defined p.types callee).ftype.params + above ≡ length f.operands.items → IsEntry (defined p.types callee).ftype callee (take (length (defined p.types callee).ftype.params) (drop first f.operands.items)) g → code_at p.funcs g.func ≡ callee.code → Caller f h first → (fs : List FlatFrame) → reverse fs ≡ g ∷ h ∷ t.older → call_above (program_of p) x above (config_of p s) ≡ Goes (record (config_of p s) { frames = calls_of p.funcs fs })
  enter-goes going few g h first sum new code caller fs e =
      let c = config_of p s in
      let ops = f.operands.items in
      let count = length (defined p.types callee).ftype.params in
      let b : Body = record { locals = length callee.locals; tree = tree_of callee.code } in
      let frame = frame_of (code_at p.funcs f.func) (moved f (f.at + 1)) in
      let older = map (call_of p.funcs) t.older in
      call-begins p s n f t i st x above (defined p.types callee) is going few ∙ ap (λ l. Goes (record c { frames = entry_frame (defined p.types callee).ftype b l ∷ record frame { operands = drop count (drop above (reverse ops)) } ∷ older })) (arguments-are ops first count above sum) ∙ ap (λ l. Goes (record c { frames = entry_frame (defined p.types callee).ftype b (take count (drop first ops)) ∷ record frame { operands = l } ∷ older })) (rest-is ops first count above sum) ∙ ap (λ l. Goes (record c { frames = l })) (sym (calls-entered g h first new code caller fs e))

  -- the operands of all calls behind the entry
  pub entered-operands : (g h : FlatFrame) (first : ℕ) → first ≤ length f.operands.items → IsEntry (defined p.types callee).ftype callee (take (length (defined p.types callee).ftype.params) (drop first f.operands.items)) g → code_at p.funcs g.func ≡ callee.code → Caller f h first → (fs : List FlatFrame) → reverse fs ≡ g ∷ h ∷ t.older → operand_count (calls_of p.funcs fs) ≡ first + operand_count (map (call_of p.funcs) t.older)
  entered-operands g h first le new code caller fs e =
      let len = length-reverse (take first f.operands.items) in
      let kept = length-take first f.operands.items in
      ap operand_count (calls-entered g h first new code caller fs e) ∙ omega (arith, len, kept, le)

-- both calls have their place in the code
pub entered-placed : (p : Parts) (f g h : FlatFrame) (older : List FlatFrame) (first k : ℕ) (i : Instr) (callee : Func) → StandsAt p f i → (f.func < length p.funcs) × IsPlaced (code_at p.funcs f.func) f × ArePlacedIn p.funcs older → Caller f h first → g.func ≡ k → k < length p.funcs → code_at p.funcs k ≡ callee.code → IsPlaced callee.code g → ArePlacedIn p.funcs (g ∷ h ∷ older)
entered-placed p f g h older first k i callee st old caller func lt code new =
    let here = caller-placed p f h first i st old.0 caller in
    let there : IsPlaced (code_at p.funcs k) g = subst (λ l. IsPlaced l g) (sym code) new in
    (subst (λ m. m < length p.funcs) (sym func) lt, subst (λ m. IsPlaced (code_at p.funcs m) g) (sym func) there, (here.0, here.1, old.2))

-- a write under the newest call
pub written-under : (fs : List FlatFrame) (n : ℕ) (f g h : FlatFrame) (t : Newest fs n f) → n ≡ length fs → 0 < n → reverse (set (fs ++ g ∷ []) (n - 1) h) ≡ g ∷ h ∷ t.older
written-under fs n f g h t e some =
    ap reverse (set-append_left fs (g ∷ []) (n - 1) h (omega (arith, e))) ∙ reverse-append (set fs (n - 1) h) (g ∷ []) ∙ ap (λ l. g ∷ l) (t.written h)

-- a typed body is closed
pub closed-code : (p : Parts) (n : ℕ) (f : Func) → IsValid p → slice_get p.funcs n ≡ Some f → IsClosedCode f.code
closed-code p n f v e = let k = (v.funcs n f e).typed in (k.0, k.1)

-- there is a call
pub at-some : (P : Instr → FlatFrame → Type 0) (p : Parts) (s : State) → IsAt P p s → 0 < length s.frames.items
at-some P p s h = rw length-reverse at (by (reverse s.frames.items) h)
  where
    by : (l : List FlatFrame) → IsAtIn P p.funcs l → 0 < length l
    by [] k = absurd k
    by (f ∷ l) k = omega arith

pub given-none : (o : Option ℕ) → values_of o ≡ [] → o ≡ None
given-none None h = refl
given-none (Some v) h = absurd (cc)
