-- A state with another newest call: its configuration, and that it is fine.
use Rattle.std.proofs.Common.{◌≡◌, ℕ, ◌+◌, ◌-◌, ◌≤◌, List, ◌∷◌, length, set, None, sym, ap, ◌∙◌, subst, arith}
use Rattle.std.specs.Prelude.{reverse, map}
use Rattle.std.proofs.lemmas.List.{length-set}
use Rattle.mv_syntax.specs.declared.ops.ValType.{ValType}
use Rattle.mv_syntax.specs.Sections.{Parts}
use Rattle.mv_execution.specs.Config.{Store, Frame, Config, operand_limit, operand_count}
use Rattle.mv_execution.specs.Fits.{FitsConfig, module_context}
use Rattle.mv_frames.specs.declared.frame.Frame.{Frame as FlatFrame}
use Rattle.mv_frames.specs.Frames.{frame_of, IsPlaced}
use Rattle.mv_frames.specs.Stores.{store_of}
use Rattle.mv_machine.specs.declared.state.State.{State}
use Rattle.mv_machine.specs.States.{code_at, call_of, calls_of, config_of, values_of, ArePlacedIn, IsAnswerable, IsGivenLast, IsFine}
use Rattle.mv_machine.proofs.Newest.{Newest, calls-are, calls-become, placed-written, operands-written}

-- the state after a move of the newest call, which is this one then
pub record Written (s new : State) (n : ℕ) (g : FlatFrame) : Type 0 where
  pub frames : new.frames.items ≡ set s.frames.items (n - 1) g
  pub waiting : new.waiting ≡ s.waiting
  pub given : new.given ≡ s.given
  pub gap : new.gap ≡ s.gap

module _ (p : Parts) (s : State) (n : ℕ) (f : FlatFrame) (t : Newest s.frames.items n f) (new : State) (g : FlatFrame) (w : Written s new n g) (same : g.func ≡ f.func) where
  pub written-config : (store : Store) (frame : Frame) → store_of new.store ≡ store → frame_of (code_at p.funcs f.func) g ≡ frame → config_of p new ≡ record (config_of p s) { store = store; frames = frame ∷ map (call_of p.funcs) t.older }
  written-config store frame e k =
      let fs : calls_of p.funcs new.frames.items ≡ frame ∷ map (call_of p.funcs) t.older = ap (calls_of p.funcs) w.frames ∙ calls-become p.funcs s.frames.items n f t g frame same k in
      ap (λ x. let c : Config = record (config_of p new) { store = x } in c) e ∙ ap (λ x. let c : Config = record { store = store; frames = x; waiting = new.waiting; given = values_of new.given; gap = new.gap } in c) fs ∙ ap (λ x. let c : Config = record { store = store; frames = frame ∷ map (call_of p.funcs) t.older; waiting = x; given = values_of new.given; gap = new.gap } in c) w.waiting ∙ ap (λ x. let c : Config = record { store = store; frames = frame ∷ map (call_of p.funcs) t.older; waiting = s.waiting; given = values_of x; gap = new.gap } in c) w.given ∙ ap (λ x. let c : Config = record { store = store; frames = frame ∷ map (call_of p.funcs) t.older; waiting = s.waiting; given = values_of s.given; gap = x } in c) w.gap

  -- where the call is as before
  pub same-config : store_of new.store ≡ store_of s.store → frame_of (code_at p.funcs f.func) g ≡ call_of p.funcs f → config_of p new ≡ config_of p s
  same-config e k =
      written-config (store_of s.store) (call_of p.funcs f) e k ∙ ap (λ x. let c : Config = record (config_of p s) { frames = x } in c) (sym (calls-are p.funcs s.frames.items n f t))

  pub written-fine : IsFine p s → IsPlaced (code_at p.funcs f.func) g → (gs : List ValType) → FitsConfig (module_context p) gs (config_of p new) → IsAnswerable p new.waiting (g ∷ t.older) → new.operands ≡ length g.operands.items + operand_count (map (call_of p.funcs) t.older) → new.operands ≤ operand_limit → IsFine p new
  written-fine h here gs typed answerable ops bound =
      let frames = sym (ap reverse w.frames ∙ t.written g) in
      let none : s.given ≡ None = subst (IsGivenLast s.given) t.listed h.given in
      record {
        program = h.program;
        gives = gs;
        typed = typed;
        placed = subst (λ x. ArePlacedIn p.funcs (reverse x)) (sym w.frames) (placed-written p.funcs s.frames.items n f t g h.placed same here);
        counted = ops ∙ sym (ap (λ x. operand_count (calls_of p.funcs x)) w.frames ∙ operands-written p.funcs s.frames.items n f t g);
        operands = bound;
        frames = omega (arith, h.frames, ap (λ (x : List FlatFrame). length x) w.frames, length-set s.frames.items (n - 1) g);
        gap = omega (arith, h.gap, w.gap);
        answerable = subst (IsAnswerable p new.waiting) frames answerable;
        given = subst (IsGivenLast new.given) frames (w.given ∙ none);
      }
