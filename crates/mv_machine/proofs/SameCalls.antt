-- Calls that are copied are the same calls over trees, at the same places of their code.
use Rattle.std.proofs.Common.{Bool, ◌≡◌, ℕ, ◌+◌, ◌<◌, ◌≤◌, List, [], ◌∷◌, ◌++◌, Option, Some, None, length, get_or, take, map, reverse, refl, sym, ap, ◌∙◌, subst, arith}
use Rattle.std.proofs.lemmas.List.{reverse-append, take_more}
use Rattle.mv_syntax.specs.declared.instr.Instr.{Instr}
use Rattle.mv_syntax.specs.declared.types.FuncType.{FuncType}
use Rattle.mv_syntax.specs.declared.module.Func.{Func}
use Rattle.mv_syntax.specs.Tree.{rests_at}
use Rattle.mv_syntax.specs.Sections.{Parts}
use Rattle.mv_execution.specs.Config.{Frame, Config, frame_limit, operand_count, operand_limit, gap_limit}
use Rattle.mv_execution.specs.Fits.{FitsConfig, module_context}
use Rattle.mv_execution.specs.Instance.{with_memory}
use Rattle.mv_execution.proofs.Runs.{memory-fits}
use Rattle.mv_memory.specs.Memory.{Contents, disowned}
use Rattle.mv_frames.specs.declared.frame.Label.{Label}
use Rattle.mv_frames.specs.declared.frame.Frame.{Frame as FlatFrame}
use Rattle.mv_frames.specs.Arity.{arity_if}
use Rattle.mv_frames.specs.Frames.{left_at, blocks_of, ArePlaced, IsPlaced}
use Rattle.mv_machine.specs.States.{code_at, call_of, calls_of, ArePlacedIn, values_of, config_of, operands_in, KeepsPlace, IsAnswerable, IsGivenLast, IsFine}
use Rattle.mv_machine.specs.declared.state.State.{State}
use Rattle.mv_machine.specs.Copies.{IsSameFrame, AreSameFrames}

-- ---- lists of calls

pub same-append : (fs gs hs ks : List FlatFrame) → AreSameFrames fs gs → AreSameFrames hs ks → AreSameFrames (fs ++ hs) (gs ++ ks)
same-append [] [] hs ks a b = b
same-append [] (g ∷ gs) hs ks a b = absurd a
same-append (f ∷ fs) [] hs ks a b = absurd a
same-append (f ∷ fs) (g ∷ gs) hs ks a b = (a.0, same-append fs gs hs ks a.1 b)

pub same-reverse : (fs gs : List FlatFrame) → AreSameFrames fs gs → AreSameFrames (reverse fs) (reverse gs)
same-reverse [] [] h = tt
same-reverse [] (g ∷ gs) h = absurd h
same-reverse (f ∷ fs) [] h = absurd h
same-reverse (f ∷ fs) (g ∷ gs) h =
    let k = same-append (reverse fs) (reverse gs) (f ∷ []) (g ∷ []) (same-reverse fs gs h.1) (h.0, tt) in
    subst (λ l. AreSameFrames l (reverse (g ∷ gs))) (sym (reverse-append (f ∷ []) fs)) (subst (AreSameFrames (reverse fs ++ f ∷ [])) (sym (reverse-append (g ∷ []) gs)) k)

pub same-length : (fs gs : List FlatFrame) → AreSameFrames fs gs → length gs ≡ length fs
same-length [] [] h = refl
same-length [] (g ∷ gs) h = absurd h
same-length (f ∷ fs) [] h = absurd h
same-length (f ∷ fs) (g ∷ gs) h = let e : length gs ≡ length fs = same-length fs gs h.1 in omega arith

-- one call more is copied
pub same-more : (fs gs hs : List FlatFrame) (i : ℕ) (f g : FlatFrame) → AreSameFrames (take i fs) gs → i < length fs → f ≡ get_or fs i f → IsSameFrame f g → hs ≡ gs ++ g ∷ [] → AreSameFrames (take (i + 1) fs) hs
same-more fs gs hs i f g h lt is same e =
    let more : take (i + 1) fs ≡ take i fs ++ f ∷ [] = take_more fs i f lt ∙ ap (λ x. take i fs ++ x ∷ []) (sym is) in
    subst (λ l. AreSameFrames l hs) (sym more) (subst (AreSameFrames (take i fs ++ f ∷ [])) (sym e) (same-append (take i fs) gs (f ∷ []) (g ∷ []) h (same, tt)))

-- ---- the calls over trees

abbrev call_with : List Func → ℕ → Bool → ℕ → List ℕ → List ℕ → List Label → Frame
call_with funcs func gives at locals operands labels =
    record { results = arity_if gives; locals = locals; operands = reverse operands; blocks = blocks_of (code_at funcs func) (reverse labels) (left_at (code_at funcs func) at) }

with-same : (funcs : List Func) (func k : ℕ) (gives b : Bool) (at n : ℕ) (locals xs operands ys : List ℕ) (labels ls : List Label) → k ≡ func → b ≡ gives → n ≡ at → xs ≡ locals → ys ≡ operands → ls ≡ labels → call_with funcs k b n xs ys ls ≡ call_with funcs func gives at locals operands labels
with-same funcs func k gives b at n locals xs operands ys labels ls p q r s t u = cc

same-call : (funcs : List Func) (f g : FlatFrame) → IsSameFrame f g → call_of funcs g ≡ call_of funcs f
same-call funcs f g h = with-same funcs f.func g.func f.gives g.gives f.at g.at f.locals.items g.locals.items f.operands.items g.operands.items f.labels.items g.labels.items h.func h.gives h.at h.locals h.operands h.labels

same-map : (funcs : List Func) (fs gs : List FlatFrame) → AreSameFrames fs gs → map (call_of funcs) gs ≡ map (call_of funcs) fs
same-map funcs [] [] h = refl
same-map funcs [] (g ∷ gs) h = absurd h
same-map funcs (f ∷ fs) [] h = absurd h
same-map funcs (f ∷ fs) (g ∷ gs) h = ap (λ c. c ∷ map (call_of funcs) gs) (same-call funcs f g h.0) ∙ ap (λ cs. call_of funcs f ∷ cs) (same-map funcs fs gs h.1)

pub same-calls : (funcs : List Func) (fs gs : List FlatFrame) → AreSameFrames fs gs → calls_of funcs gs ≡ calls_of funcs fs
same-calls funcs fs gs h = same-map funcs (reverse fs) (reverse gs) (same-reverse fs gs h)

-- ---- what holds of the newest calls first

same-place : (code : List Instr) (f g : FlatFrame) → IsSameFrame f g → IsPlaced code f → IsPlaced code g
same-place code f g h p =
    (p.0, ap (rests_at code) h.at ∙ p.1, subst (λ (ls : List Label). ArePlaced code (reverse ls) p.0) (sym h.labels) p.2)

same-placed : (funcs : List Func) (fs gs : List FlatFrame) → AreSameFrames fs gs → ArePlacedIn funcs fs → ArePlacedIn funcs gs
same-placed funcs [] [] h p = tt
same-placed funcs [] (g ∷ gs) h p = absurd h
same-placed funcs (f ∷ fs) [] h p = absurd h
same-placed funcs (f ∷ fs) (g ∷ gs) h p =
    (subst (λ k. k < length funcs) (sym h.0.func) p.0, subst (λ k. IsPlaced (code_at funcs k) g) (sym h.0.func) (same-place (code_at funcs f.func) f g h.0 p.1), same-placed funcs fs gs h.1 p.2)

pub copied-placed : (funcs : List Func) (fs gs : List FlatFrame) → AreSameFrames fs gs → ArePlacedIn funcs (reverse fs) → ArePlacedIn funcs (reverse gs)
copied-placed funcs fs gs h = same-placed funcs (reverse fs) (reverse gs) (same-reverse fs gs h)

same-operands : (fs gs : List FlatFrame) → AreSameFrames fs gs → operands_in gs ≡ operands_in fs
same-operands [] [] h = refl
same-operands [] (g ∷ gs) h = absurd h
same-operands (f ∷ fs) [] h = absurd h
same-operands (f ∷ fs) (g ∷ gs) h = omega (arith, ap (λ (l : List ℕ). length l) h.0.operands, same-operands fs gs h.1)

-- a copy has place for one operand more, whatever waits
has-place : (t : FuncType) (fs gs : List FlatFrame) → AreSameFrames fs gs → KeepsPlace t gs
has-place t [] [] h = tt
has-place t [] (g ∷ gs) h = absurd h
has-place t (f ∷ fs) [] h = absurd h
has-place t (f ∷ fs) (g ∷ gs) h = λ none. h.0.place

answerable-by : (p : Parts) (w : Option ℕ) (fs gs : List FlatFrame) → AreSameFrames fs gs → IsAnswerable p w fs → IsAnswerable p w gs
answerable-by p None fs gs h k = tt
answerable-by p (Some x) fs gs h k = λ t e. (has-place t fs gs h, omega (arith, (k t e).1, same-operands fs gs h))

pub copied-answerable : (p : Parts) (w : Option ℕ) (fs gs : List FlatFrame) → AreSameFrames fs gs → IsAnswerable p w (reverse fs) → IsAnswerable p w (reverse gs)
copied-answerable p w fs gs h = answerable-by p w (reverse fs) (reverse gs) (same-reverse fs gs h)

given-by : (given : Option ℕ) (fs gs : List FlatFrame) → AreSameFrames fs gs → IsGivenLast given fs → IsGivenLast given gs
given-by given [] [] h k = tt
given-by given [] (g ∷ gs) h k = absurd h
given-by given (f ∷ fs) [] h k = absurd h
given-by given (f ∷ fs) (g ∷ gs) h k = k

pub copied-given : (given : Option ℕ) (fs gs : List FlatFrame) → AreSameFrames fs gs → IsGivenLast given (reverse fs) → IsGivenLast given (reverse gs)
copied-given given fs gs h = given-by given (reverse fs) (reverse gs) (same-reverse fs gs h)

-- ---- states

-- a state that was copied
pub record IsCopy (s t : State) : Type 0 where
  pub memory : t.store.memory ≡ disowned s.store.memory
  pub globals : t.store.globals.items ≡ s.store.globals.items
  pub table : t.store.table.items ≡ s.store.table.items
  pub frames : AreSameFrames s.frames.items t.frames.items
  pub operands : t.operands ≡ s.operands
  pub waiting : t.waiting ≡ s.waiting
  pub given : t.given ≡ s.given
  pub gap : t.gap ≡ s.gap

pub copied-config : (p : Parts) (s t : State) → IsCopy s t → config_of p t ≡ with_memory (disowned s.store.memory) (config_of p s)
copied-config p s t c = by t.store.memory t.store.globals.items t.store.table.items (calls_of p.funcs t.frames.items) t.waiting (values_of t.given) t.gap c.memory c.globals c.table (same-calls p.funcs s.frames.items t.frames.items c.frames) c.waiting (ap values_of c.given) c.gap
  where
    by : (memory : Contents) (globals : List ℕ) (table : List (Option ℕ)) (frames : List Frame) (waiting : Option ℕ) (given : List ℕ) (gap : ℕ) → memory ≡ disowned s.store.memory → globals ≡ s.store.globals.items → table ≡ s.store.table.items → frames ≡ calls_of p.funcs s.frames.items → waiting ≡ s.waiting → given ≡ values_of s.given → gap ≡ s.gap → ◌≡◌ {A = Config} (record { store = record { memory = memory; globals = globals; table = table }; frames = frames; waiting = waiting; given = given; gap = gap }) (with_memory (disowned s.store.memory) (config_of p s))
    by memory globals table frames waiting given gap a b c d e f g = cc

pub copied-fine : (p : Parts) (s t : State) → IsFine p s → IsCopy s t → IsFine p t
copied-fine p s t h c = record {
  program = h.program;
  gives = h.gives;
  typed = subst (FitsConfig (module_context p) h.gives) (sym (copied-config p s t c)) (memory-fits (module_context p) h.gives (config_of p s) (disowned s.store.memory) h.typed.store.bytes h.typed.store.pages h.typed);
  placed = copied-placed p.funcs s.frames.items t.frames.items c.frames h.placed;
  counted = c.operands ∙ h.counted ∙ ap operand_count (sym (same-calls p.funcs s.frames.items t.frames.items c.frames));
  operands = subst (λ n. n ≤ operand_limit) (sym c.operands) h.operands;
  frames = subst (λ n. n ≤ frame_limit) (sym (same-length s.frames.items t.frames.items c.frames)) h.frames;
  gap = subst (λ n. n ≤ gap_limit) (sym c.gap) h.gap;
  answerable = copied-answerable p t.waiting s.frames.items t.frames.items c.frames (subst (λ w. IsAnswerable p w (reverse s.frames.items)) (sym c.waiting) h.answerable);
  given = copied-given t.given s.frames.items t.frames.items c.frames (subst (λ o. IsGivenLast o (reverse s.frames.items)) (sym c.given) h.given);
}
