-- One instruction of the newest call that calls nothing is the step over trees.
use Rattle.std.proofs.Common.{true, false, cond, Bool, ◌≡◌, ℕ, ◌+◌, ◌-◌, ◌<◌, ◌≤◌, List, [], ◌∷◌, length, get_or, Option, Some, None, refl, sym, ap, ◌∙◌, subst, arith}
use Rattle.std.specs.Prelude.{reverse, map, slice_get}
use Rattle.std.proofs.lemmas.List.{length-reverse}
use Rattle.std.proofs.lemmas.Bool.{lt-ltb, le-ltb}
use Rattle.std.proofs.lemmas.Option.{slice_get-get_or}
use Rattle.mv_calls.specs.declared.trap.Trap.{Trap}
use Rattle.mv_calls.specs.declared.trap.Trap.TheVariants as trap
use Rattle.mv_syntax.specs.declared.ops.ValType.{ValType}
use Rattle.mv_syntax.specs.declared.instr.Instr.{Instr}
use Rattle.mv_syntax.specs.declared.instr.Instr.TheVariants as instr
use Rattle.mv_syntax.specs.Sections.{Parts}
use Rattle.mv_syntax.specs.Tree.{Tree, plain, block, loop, choice, other_of}
use Rattle.mv_syntax.proofs.TreeLaws.{behind-at}
use Rattle.mv_execution.specs.Config.{Program, Store, OpenBlock, Frame, Config, operand_limit, operand_count}
use Rattle.mv_execution.specs.Rows.{Out, Goes, Traps, Stuck, Next, acted, advanced, IsGoing, CameTo}
use Rattle.mv_execution.specs.Rises.{leaves_more, Leaves, LeavesFirst}
use Rattle.mv_execution.specs.Step.{went, row, step_of}
use Rattle.mv_execution.specs.Run.{is_done}
use Rattle.mv_execution.specs.Instance.{program_of}
use Rattle.mv_validator.specs.Typing.{Context}
use Rattle.mv_execution.specs.Fits.{AreOf, FitsCalls, FitsConfig, FitFrames, module_context}
use Rattle.mv_execution.proofs.Rises.{goes-holds, advanced-leaves}
use Rattle.mv_execution.proofs.Steps.{StepFits, step-fits}
use Rattle.mv_frames.specs.declared.frame.Frame.{Frame as FlatFrame}
use Rattle.mv_frames.specs.Blocks.{advanced_frame}
use Rattle.mv_frames.specs.Frames.{frame_of, block_of, blocks_of, left_at, IsPlaced}
use Rattle.mv_frames.specs.Stores.{store_of}
use Rattle.mv_frames.proofs.Advances.{Top, top, at-within, front-opened, front-chosen, tree-end, tree-else, skip}
use Rattle.mv_machine.specs.declared.state.State.{State}
use Rattle.mv_machine.specs.States.{code_at, call_of, config_of, IsAnswerable, IsFine}
use Rattle.mv_machine.specs.Turns.{AreReady, IsReady, counted_step}
use Rattle.mv_machine.specs.Calls.{calls_nothing, IsAtIn, IsAtPlain}
use Rattle.mv_machine.proofs.Newest.{Newest, calls-are, newest-placed, operands-are}
use Rattle.mv_machine.proofs.Written.{Written, written-config, same-config, written-fine}

-- ---- the instruction that a tree begins with, which calls nothing

record First (i : Instr) (tree : Tree) : Type 0 where
  stays : (program : Program) (b : OpenBlock) (outer : List OpenBlock) (c : Config) (fs : List Frame) (f : Frame) → row program tree b outer c fs f ≡ went c fs (advanced tree b outer c.store f)
  leaves : (f next : Frame) → LeavesFirst tree f next → Leaves (leaves_more i) f next
  goes : leaves_more i ≡ true → (b : OpenBlock) (outer : List OpenBlock) (s : Store) (f : Frame) (t : Trap) → advanced tree b outer s f ≡ Traps t → ⊥

plain-stays : (i : Instr) (rest : Tree) → calls_nothing i ≡ true → (program : Program) (b : OpenBlock) (outer : List OpenBlock) (c : Config) (fs : List Frame) (f : Frame) → row program (plain i rest) b outer c fs f ≡ went c fs (advanced (plain i rest) b outer c.store f)
plain-stays (instr.Call x) rest h program b outer c fs f = absurd (cc)
plain-stays (instr.CallIndirect y) rest h program b outer c fs f = absurd (cc)
plain-stays i rest h program b outer c fs f = refl

read-goes : (s : Store) (f : Frame) (o : Option ℕ) (make : ℕ → Frame) (t : Trap) → elim o as (λ z. Next) [ None ↦ Stuck | Some v ↦ Goes (s, make v) ] ≡ Traps t → ⊥
read-goes s f None make t h = absurd (cc)
read-goes s f (Some v) make t h = absurd (cc)

-- an instruction that leaves more operands doesn't trap
acted-goes : (i : Instr) → leaves_more i ≡ true → (s : Store) (f : Frame) (t : Trap) → acted i s f ≡ Traps t → ⊥
acted-goes (instr.Const ty v) m s f t h = absurd (cc)
acted-goes (instr.LocalGet x) m s f t h = read-goes s f (slice_get f.locals x) (λ v. record f { operands = v ∷ f.operands }) t h
acted-goes (instr.GlobalGet x) m s f t h = read-goes s f (slice_get s.globals x) (λ v. record f { operands = v ∷ f.operands }) t h
acted-goes instr.MemorySize m s f t h = absurd (cc)
acted-goes i m s f t h = absurd (cc)

first-plain : (i : Instr) (rest : Tree) → calls_nothing i ≡ true → First i (plain i rest)
first-plain i rest h =
    record { stays = plain-stays i rest h; leaves = λ f next k. k; goes = λ m b outer s f t e. acted-goes i m s (record f { blocks = record b { rest = rest } ∷ outer }) t e }

first-block : (ty : Option _) (body rest : Tree) → First (instr.Block ty) (block ty body rest)
first-block ty body rest =
    record { stays = λ program b outer c fs f. refl; leaves = λ f next k. omega (arith, k); goes = λ m b outer s f t e. absurd (cc) }

first-loop : (ty : Option _) (body rest : Tree) → First (instr.Loop ty) (loop ty body rest)
first-loop ty body rest =
    record { stays = λ program b outer c fs f. refl; leaves = λ f next k. omega (arith, k); goes = λ m b outer s f t e. absurd (cc) }

first-choice : (ty : Option _) (one other rest : Tree) → First (instr.If ty) (choice ty one other rest)
first-choice ty one other rest =
    record { stays = λ program b outer c fs f. refl; leaves = λ f next k. omega (arith, k); goes = λ m b outer s f t e. absurd (cc) }

first : (code : List Instr) (f : FlatFrame) (i : Instr) (t : Top code f) → i ≡ get_or code f.at i → calls_nothing i ≡ true → is_done t.rest.tree ≡ false → First i t.rest.tree
first code f (instr.Block ty) t is h d =
    let b = behind-at code f.at (instr.Block ty) (t.rest ∷ t.rests) is t.left (omega arith) in
    let o = front-opened (block ty) b.0 t.rest t.rests b.2 in
    subst (First (instr.Block ty)) (sym o.3) (first-block ty o.0 o.1.tree)
first code f (instr.Loop ty) t is h d =
    let b = behind-at code f.at (instr.Loop ty) (t.rest ∷ t.rests) is t.left (omega arith) in
    let o = front-opened (loop ty) b.0 t.rest t.rests b.2 in
    subst (First (instr.Loop ty)) (sym o.3) (first-loop ty o.0 o.1.tree)
first code f (instr.If ty) t is h d =
    let b = behind-at code f.at (instr.If ty) (t.rest ∷ t.rests) is t.left (omega arith) in
    let o = front-chosen ty b.0 t.rest t.rests b.2 in
    subst (First (instr.If ty)) (sym o.3) (first-choice ty o.0.tree (other_of o.0.other) o.1.tree)
first code f instr.Else t is h d = let bad : true ≡ false = sym (ap is_done (tree-else code f t is)) ∙ d in absurd (cc)
first code f instr.End t is h d = let bad : true ≡ false = sym (ap is_done (tree-end code f t is)) ∙ d in absurd (cc)
first code f i t is h d =
    let k = skip code f i t is refl in
    subst (First i) (sym k.1.1) (first-plain i k.1.0 h)

-- ---- what stands in front of the newest call

pub blocks-some : (code : List Instr) (f : FlatFrame) (b : OpenBlock) (outer : List OpenBlock) → (frame_of code f).blocks ≡ b ∷ outer → 0 < length f.labels.items
blocks-some code f b outer h = by f.labels.items refl
  where
    by : (ls : List _) → f.labels.items ≡ ls → 0 < length f.labels.items
    by [] e = let bad : [] ≡ b ∷ outer = sym (ap (λ ls. blocks_of code (reverse ls) (left_at code f.at)) e) ∙ h in absurd (cc)
    by (l ∷ ls) e = omega (arith, ap length e)

none-pushed : (pushed : List _) → AreOf pushed [] → pushed ≡ []
none-pushed [] h = refl
none-pushed (t ∷ ts) h = absurd h

-- a typed configuration in which no call waits and nothing was given
pub idle-fits : (m : Context) (gs : List ValType) (c : Config) → FitsConfig m gs c → c.waiting ≡ None → c.given ≡ [] → FitFrames m gs [] c.frames
idle-fits m gs c h w g =
    let k : FitsCalls m gs None c.frames [] = subst (λ x. FitsCalls m gs x c.frames []) w (subst (λ x. FitsCalls m gs c.waiting c.frames x) g h.calls) in
    subst (λ x. FitFrames m gs x c.frames) (none-pushed k.0 k.1) k.2

read-is : (code : List Instr) (at : ℕ) (i : Instr) → at < length code → slice_get code at ≡ Some i → i ≡ get_or code at i
read-is code at i lt h = let e : Some (get_or code at i) ≡ Some i = sym (slice_get-get_or code at i lt) ∙ h in cc

-- the newest call, at its instruction, and what that comes to
pub record Before (p : Parts) (s : State) (f : FlatFrame) (older : List FlatFrame) : Type 0 where
  pub top : Top (code_at p.funcs f.func) f
  pub instr : Instr
  pub is : instr ≡ get_or (code_at p.funcs f.func) f.at instr
  pub step : counted_step (program_of p) (config_of p s) ≡ went (config_of p s) (map (call_of p.funcs) older) (advanced_frame (store_of s.store) (call_of p.funcs f))
  pub gives : List ValType
  pub fits : StepFits (module_context p) gives (counted_step (program_of p) (config_of p s))
  pub leaves : (next : Store × Frame) → advanced_frame (store_of s.store) (call_of p.funcs f) ≡ Goes next → Leaves (leaves_more instr) (call_of p.funcs f) next.1
  pub goes : leaves_more instr ≡ true → (t : Trap) → advanced_frame (store_of s.store) (call_of p.funcs f) ≡ Traps t → ⊥

module _ (p : Parts) (s : State) (n : ℕ) (f : FlatFrame) (t : Newest s.frames.items n f) (h : IsFine p s) (r : IsReady (config_of p s)) (at : IsAtPlain p s) where
  ready-newest : AreReady (call_of p.funcs f ∷ map (call_of p.funcs) t.older)
  ready-newest = subst AreReady (calls-are p.funcs s.frames.items n f t) r.calls

  top-newest : Top (code_at p.funcs f.func) f
  top-newest =
      let q = ready-newest in
      top (code_at p.funcs f.func) f (newest-placed p.funcs s.frames.items n f t h.placed).1 (blocks-some (code_at p.funcs f.func) f q.0 q.1 q.2)

  undone : is_done top-newest.rest.tree ≡ false
  undone =
      let q = ready-newest in
      let code = code_at p.funcs f.func in
      let e : block_of code top-newest.label top-newest.rest ∷ blocks_of code top-newest.labels top-newest.rests ≡ q.0 ∷ q.1 = sym top-newest.blocks ∙ q.2 in
      let same : block_of code top-newest.label top-newest.rest ≡ q.0 = cc in
      ap (λ (b : OpenBlock). is_done b.rest) same ∙ q.3

  step-fits-newest : StepFits (module_context p) h.gives (counted_step (program_of p) (config_of p s))
  step-fits-newest =
      let c = config_of p s in
      let e = calls-are p.funcs s.frames.items n f t in
      let fit : FitFrames (module_context p) h.gives [] (call_of p.funcs f ∷ map (call_of p.funcs) t.older) = subst (FitFrames (module_context p) h.gives []) e (idle-fits (module_context p) h.gives c h.typed r.waiting r.given) in
      subst (λ x. StepFits (module_context p) h.gives (step_of (program_of p) c x)) (sym e) (step-fits (module_context p) h.gives (program_of p) h.program c (call_of p.funcs f) (map (call_of p.funcs) t.older) h.typed.store r.waiting (r.given, fit, ready-newest))

  pub before : Before p s f t.older
  before =
      let c = config_of p s in
      let code = code_at p.funcs f.func in
      let frame = call_of p.funcs f in
      let fs = map (call_of p.funcs) t.older in
      let b = block_of code top-newest.label top-newest.rest in
      let outer = blocks_of code top-newest.labels top-newest.rests in
      let a : IsAtIn (λ i g. calls_nothing i ≡ true) p.funcs (f ∷ t.older) = subst (IsAtIn (λ i g. calls_nothing i ≡ true) p.funcs) t.listed at in
      let is = read-is code f.at a.0 (at-within code f top-newest) a.1 in
      let k = first code f a.0 top-newest is a.2 undone in
      let same : advanced_frame c.store frame ≡ advanced top-newest.rest.tree b outer c.store frame = ap (λ bs. elim bs as (λ z. Next) [ [] ↦ Stuck | x ∷ xs ↦ advanced x.rest x xs c.store frame ]) top-newest.blocks in
      let row-is : step_of (program_of p) c (frame ∷ fs) ≡ row (program_of p) top-newest.rest.tree b outer c fs frame = ap (λ bs. elim bs as (λ z. Out Config) [ [] ↦ Stuck | x ∷ xs ↦ row (program_of p) x.rest x xs c fs frame ]) top-newest.blocks in
      record {
        top = top-newest;
        instr = a.0;
        is = is;
        step = ap (step_of (program_of p) c) (calls-are p.funcs s.frames.items n f t) ∙ row-is ∙ k.stays (program_of p) b outer c fs frame ∙ ap (went c fs) (sym same);
        gives = h.gives;
        fits = step-fits-newest;
        leaves = λ next e. k.leaves frame next.1 (goes-holds (LeavesFirst top-newest.rest.tree frame) (advanced top-newest.rest.tree b outer c.store frame) next (sym same ∙ e) (advanced-leaves top-newest.rest.tree b outer c.store frame));
        goes = λ m x e. k.goes m b outer c.store frame x (sym same ∙ e);
      }

-- ---- what it comes to

module _ (p : Parts) (s : State) (n : ℕ) (f : FlatFrame) (t : Newest s.frames.items n f) (h : IsFine p s) (b : Before p s f t.older) where
  count : s.operands ≡ length f.operands.items + operand_count (map (call_of p.funcs) t.older)
  count = h.counted ∙ operands-are p.funcs s.frames.items n f t

  pub runs : IsGoing (advanced_frame (store_of s.store) (call_of p.funcs f))
  runs = by (advanced_frame (store_of s.store) (call_of p.funcs f)) (subst (StepFits (module_context p) b.gives) b.step b.fits)
    where
      by : (o : Next) → StepFits (module_context p) b.gives (went (config_of p s) (map (call_of p.funcs) t.older) o) → IsGoing o
      by (Goes next) k = tt
      by (Traps x) k = tt
      by Stuck k = k

  -- how many operands there are then
  next-count : (next : Store × Frame) → advanced_frame (store_of s.store) (call_of p.funcs f) ≡ Goes next → (leaves_more b.instr ≡ true → s.operands < operand_limit) → operand_count (next.1 ∷ map (call_of p.funcs) t.older) ≤ operand_limit
  next-count next e room = by (leaves_more b.instr) refl (b.leaves next e)
    where
      by : (m : Bool) → leaves_more b.instr ≡ m → Leaves m (call_of p.funcs f) next.1 → operand_count (next.1 ∷ map (call_of p.funcs) t.older) ≤ operand_limit
      by true m k = omega (arith, k, count, room m, length-reverse f.operands.items)
      by false m k = omega (arith, k, count, h.operands, length-reverse f.operands.items)

  -- at the limit an instruction traps that leaves more
  pub full-traps : operand_limit ≤ s.operands → leaves_more b.instr ≡ true → counted_step (program_of p) (config_of p s) ≡ Traps trap.Operands
  full-traps full m = b.step ∙ by (advanced_frame (store_of s.store) (call_of p.funcs f)) refl runs
    where
      by : (o : Next) → advanced_frame (store_of s.store) (call_of p.funcs f) ≡ o → IsGoing o → went (config_of p s) (map (call_of p.funcs) t.older) o ≡ Traps trap.Operands
      by (Goes next) e g =
          let k : Leaves true (call_of p.funcs f) next.1 = subst (λ x. Leaves x (call_of p.funcs f) next.1) m (b.leaves next e) in
          let over = lt-ltb operand_limit (operand_count (next.1 ∷ map (call_of p.funcs) t.older)) (omega (arith, k, count, full, length-reverse f.operands.items)) in
          ap (λ z. cond z (Traps trap.Operands) (Goes (record (config_of p s) { store = next.0; frames = next.1 ∷ map (call_of p.funcs) t.older }))) over
      by (Traps x) e g = absurd (b.goes m x e)
      by Stuck e g = absurd g

  went-on : (next : Store × Frame) → advanced_frame (store_of s.store) (call_of p.funcs f) ≡ Goes next → (leaves_more b.instr ≡ true → s.operands < operand_limit) → counted_step (program_of p) (config_of p s) ≡ Goes (record (config_of p s) { store = next.0; frames = next.1 ∷ map (call_of p.funcs) t.older })
  went-on next e room =
      let under = le-ltb operand_limit (operand_count (next.1 ∷ map (call_of p.funcs) t.older)) (next-count next e room) in
      b.step ∙ ap (went (config_of p s) (map (call_of p.funcs) t.older)) e ∙ ap (λ z. cond z (Traps trap.Operands) (Goes (record (config_of p s) { store = next.0; frames = next.1 ∷ map (call_of p.funcs) t.older }))) under

  -- the count after a move of the frame
  pub counted-on : (g : FlatFrame) (k : ℕ) → k ≡ s.operands - length f.operands.items + length g.operands.items → k ≡ length g.operands.items + operand_count (map (call_of p.funcs) t.older)
  counted-on g k e = omega (arith, e, count)

  -- where it is as before
  pub counted-same : (g : FlatFrame) → frame_of (code_at p.funcs f.func) g ≡ call_of p.funcs f → s.operands ≡ length g.operands.items + operand_count (map (call_of p.funcs) t.older)
  counted-same g e = omega (arith, count, length-reverse g.operands.items, length-reverse f.operands.items, ap (λ (x : Frame). length x.operands) e)

  module _ (idle : s.waiting ≡ None) (new : State) (g : FlatFrame) (w : Written s new n g) (same : g.func ≡ f.func) (here : IsPlaced (code_at p.funcs f.func) g) (counted : new.operands ≡ length g.operands.items + operand_count (map (call_of p.funcs) t.older)) where
    answerable : IsAnswerable p new.waiting (g ∷ t.older)
    answerable = subst (λ x. IsAnswerable p x (g ∷ t.older)) (sym (w.waiting ∙ idle)) tt

    goes-here : advanced_frame (store_of s.store) (call_of p.funcs f) ≡ Goes (store_of new.store, frame_of (code_at p.funcs f.func) g) → (leaves_more b.instr ≡ true → s.operands < operand_limit) → counted_step (program_of p) (config_of p s) ≡ Goes (config_of p new)
    goes-here e room =
        went-on (store_of new.store, frame_of (code_at p.funcs f.func) g) e room ∙ ap Goes (sym (written-config p s n f t new g w same (store_of new.store) (frame_of (code_at p.funcs f.func) g) refl refl))

    goes-fine : advanced_frame (store_of s.store) (call_of p.funcs f) ≡ Goes (store_of new.store, frame_of (code_at p.funcs f.func) g) → (leaves_more b.instr ≡ true → s.operands < operand_limit) → IsFine p new
    goes-fine e room =
        let typed : FitsConfig (module_context p) b.gives (config_of p new) = subst (StepFits (module_context p) b.gives) (goes-here e room) b.fits in
        let bound = next-count (store_of new.store, frame_of (code_at p.funcs f.func) g) e room in
        written-fine p s n f t new g w same h here b.gives typed answerable counted (omega (arith, counted, bound, length-reverse g.operands.items))

    -- all is as before
    pub same-fine : store_of new.store ≡ store_of s.store → frame_of (code_at p.funcs f.func) g ≡ call_of p.funcs f → IsFine p new
    same-fine e k =
        let typed : FitsConfig (module_context p) h.gives (config_of p new) = subst (FitsConfig (module_context p) h.gives) (sym (same-config p s n f t new g w same e k)) h.typed in
        written-fine p s n f t new g w same h here h.gives typed answerable counted (omega (arith, counted, counted-same g k, h.operands))

    -- it went on, or it trapped, and all is as before
    pub came : (o : Option Trap) → CameTo o (advanced_frame (store_of s.store) (call_of p.funcs f)) (store_of s.store, call_of p.funcs f) (store_of new.store, frame_of (code_at p.funcs f.func) g) → (leaves_more b.instr ≡ true → s.operands < operand_limit) → CameTo o (counted_step (program_of p) (config_of p s)) (config_of p s) (config_of p new)
    came None e room = goes-here e room
    came (Some x) e room =
        (b.step ∙ ap (went (config_of p s) (map (call_of p.funcs) t.older)) e.0, same-config p s n f t new g w same (ap (λ (y : Store × Frame). y.0) e.1) (ap (λ (y : Store × Frame). y.1) e.1))

    pub came-fine : (o : Option Trap) → CameTo o (advanced_frame (store_of s.store) (call_of p.funcs f)) (store_of s.store, call_of p.funcs f) (store_of new.store, frame_of (code_at p.funcs f.func) g) → (leaves_more b.instr ≡ true → s.operands < operand_limit) → IsFine p new
    came-fine None e room = goes-fine e room
    came-fine (Some x) e room = same-fine (ap (λ (y : Store × Frame). y.0) e.1) (ap (λ (y : Store × Frame). y.1) e.1)
