-- A new instance: its memory may be made, and its state is fine.
use Rattle.std.proofs.Common.{◌≡◌, ℕ, ◌^◌, ◌≤◌, List, [], ◌∷◌, ◌<◌, Option, Some, None, Vec, zero, suc, length, map, refl, sym, ap, ◌∙◌, subst, arith}
use Rattle.std.proofs.Common.{Global as Allocator, length-append}
use Rattle.std.specs.Prelude.{IfSome, reverse, slice_get, slice_set, option_and_then}
use Rattle.std.proofs.lemmas.List.{length-map}
use Rattle.std.proofs.lemmas.Option.{slice_get-map}
use Rattle.std.specs.Option.{option_map}
use Rattle.mv_syntax.specs.declared.types.FuncType.{FuncType}
use Rattle.mv_syntax.specs.declared.module.Import.{Import}
use Rattle.mv_syntax.specs.declared.module.Func.{Func}
use Rattle.mv_syntax.specs.declared.module.Global.{Global}
use Rattle.mv_validator.specs.Typing.{func_type}
use Rattle.mv_machine.specs.Calls.{HasFunction}
use Rattle.mv_machine.proofs.FromOutside.{has-type}
use Rattle.mv_execution.proofs.Operands.{are-length, are-get}
use Rattle.mv_execution.proofs.Runs.{element-fits}
use Rattle.mv_syntax.specs.declared.types.Limits.{Limits}
use Rattle.mv_syntax.specs.Kept.{Keeps}
use Rattle.mv_syntax.specs.Sections.{Parts}
use Rattle.mv_validator.specs.Valid.{AreLimits, IsValid}
use Rattle.mv_memory.specs.Bytes.{most_pages}
use Rattle.mv_memory.specs.Memory.{Contents}
use Rattle.mv_execution.specs.Config.{Function, Store, Frame, Config, frame_limit, operand_count, operand_limit, gap_limit}
use Rattle.mv_execution.specs.Instance.{constant_of, memory_of, table_of, new_store, new_config, program_of, with_element}
use Rattle.mv_execution.specs.Fits.{IsOf, FitsConfig, module_context}
use Rattle.mv_execution.proofs.Modules.{typed-program, new-fits}
use Rattle.mv_execution.proofs.ValidModules.{valid-typed}
use Rattle.mv_frames.specs.declared.frame.Frame.{Frame as FlatFrame}
use Rattle.mv_frames.specs.Stores.{store_of}
use Rattle.mv_machine.specs.declared.state.State.{State}
use Rattle.mv_machine.specs.States.{calls_of, values_of, config_of, ArePlacedIn, IsAnswerable, IsGivenLast, IsFine}

within-most : (l : Limits) (most : Option ℕ) → l.min ≤ 1024 → IfSome most (λ m. (m ≤ 2 ^ 16) × (l.min ≤ m)) → l.min ≤ most_pages most
within-most l None few h = few
within-most l (Some m) few h = let k : l.min ≤ m = h.1 in omega arith

limits-within : (o : Option Limits) (l : Limits) → o ≡ Some l → IfSome o (λ x. x.min ≤ 1024) → IfSome o (AreLimits (2 ^ 16)) → l.min ≤ most_pages l.max
limits-within o l e few are =
    within-most l l.max (subst (λ z. IfSome z (λ x. x.min ≤ 1024)) e few) (subst (λ z. IfSome z (AreLimits (2 ^ 16))) e are).most

-- the least size of a module's memory is at most what a memory may have
pub memory-within : (p : Parts) (l : Limits) → Keeps p → IsValid p → p.memory ≡ Some l → l.min ≤ most_pages l.max
memory-within p l k v e = limits-within p.memory l e k.memory v.memory

pub store-new : (p : Parts) (memory : Contents) (globals : List ℕ) (table : List (Option ℕ)) → memory ≡ memory_of p.memory → globals ≡ map (λ g. constant_of g.init) p.globals → table ≡ table_of p.table → ◌≡◌ {A = Store} (record { memory = memory; globals = globals; table = table }) (new_store p)
store-new p memory globals table a b c = cc

-- nothing is entered, nothing waits, and nothing was given or counted
pub record IsNew (p : Parts) (s : State) : Type 0 where
  pub store : store_of s.store ≡ new_store p
  pub frames : s.frames.items ≡ []
  pub operands : s.operands ≡ 0
  pub waiting : s.waiting ≡ None
  pub given : s.given ≡ None
  pub gap : s.gap ≡ 0

config-new : (p : Parts) (s : State) → IsNew p s → config_of p s ≡ new_config p
config-new p s n = let e : calls_of p.funcs s.frames.items ≡ [] = ap (calls_of p.funcs) n.frames in let g : values_of s.given ≡ [] = ap values_of n.given in by (store_of s.store) (calls_of p.funcs s.frames.items) s.waiting (values_of s.given) s.gap n.store e n.waiting g n.gap
  where
    by : (store : Store) (frames : List Frame) (waiting : Option ℕ) (given : List ℕ) (gap : ℕ) → store ≡ new_store p → frames ≡ [] → waiting ≡ None → given ≡ [] → gap ≡ 0 → ◌≡◌ {A = Config} (record { store = store; frames = frames; waiting = waiting; given = given; gap = gap }) (new_config p)
    by store frames waiting given gap a b c d e = cc

pub new-fine : (p : Parts) (s : State) → Keeps p → IsValid p → IsNew p s → IsFine p s
new-fine p s k v n = record {
  program = typed-program p (valid-typed p k v);
  gives = [];
  typed = subst (FitsConfig (module_context p) []) (sym (config-new p s n)) (new-fits p (valid-typed p k v));
  placed = subst (λ (fs : List FlatFrame). ArePlacedIn p.funcs (reverse fs)) (sym n.frames) tt;
  counted = n.operands ∙ ap (λ fs. operand_count (calls_of p.funcs fs)) (sym n.frames);
  operands = subst (λ x. x ≤ operand_limit) (sym n.operands) (omega arith);
  frames = subst (λ (fs : List FlatFrame). length fs ≤ frame_limit) (sym n.frames) (omega arith);
  gap = subst (λ x. x ≤ gap_limit) (sym n.gap) (omega arith);
  answerable = subst (λ w. IsAnswerable p w (reverse s.frames.items)) (sym n.waiting) tt;
  given = subst (λ (fs : List FlatFrame). IsGivenLast s.given (reverse fs)) (sym n.frames) tt;
}

-- ---- what is done with a state from outside

pub global-there : (p : Parts) (s : State) (n : ℕ) → IsFine p s → n < length p.globals → n < length s.store.globals.items
global-there p s n h lt =
    omega (arith, length-map p.globals (λ (g : Global). g.vtype), are-length (map (λ (g : Global). g.vtype) p.globals) s.store.globals.items h.typed.store.globals)

-- a global's value is of its type
pub global-fits : (p : Parts) (s : State) (n v : ℕ) (g : Global) → IsFine p s → slice_get p.globals n ≡ Some g → slice_get s.store.globals.items n ≡ Some v → IsOf g.vtype v
global-fits p s n v g h e at =
    let k = are-get (map (λ (x : Global). x.vtype) p.globals) s.store.globals.items n g.vtype h.typed.store.globals (slice_get-map (λ (x : Global). x.vtype) p.globals n ∙ ap (option_map (λ (x : Global). x.vtype)) e) in
    let same : k.0 ≡ v = (let z : Some k.0 ≡ Some v = sym k.1 ∙ at in cc) in
    subst (IsOf g.vtype) same k.2

-- another function is in the table
module _ (p : Parts) (s : State) (at x : ℕ) (table : Vec (Option ℕ) Allocator) (is : table.items ≡ slice_set s.store.table.items at (Some x)) where
  pub element-config : config_of p (record s { store = record s.store { table = table } }) ≡ with_element at x (config_of p s)
  element-config = ap (λ l. let c : Config = record (config_of p s) { store = record (config_of p s).store { table = l } } in c) is

  pub element-fine : (t : FuncType) → func_type (module_context p) x ≡ Some t → IsFine p s → IsFine p (record s { store = record s.store { table = table } })
  element-fine t e h = record {
    program = h.program;
    gives = h.gives;
    typed = subst (FitsConfig (module_context p) h.gives) (sym element-config) (element-fits (module_context p) h.gives (config_of p s) at x t e h.typed);
    placed = h.placed;
    counted = h.counted;
    operands = h.operands;
    frames = h.frames;
    gap = h.gap;
    answerable = h.answerable;
    given = h.given;
  }

-- ---- types of functions

pub none-there : (p : Parts) (x : ℕ) → (HasFunction p x → ⊥) → func_type (module_context p) x ≡ None
none-there p x h =
    let n : length (map (λ (m : Import). m.ftype) p.imports) ≡ length p.imports = length-map p.imports (λ (m : Import). m.ftype) in
    let k : length (map (λ (f : Func). f.ftype) p.funcs) ≡ length p.funcs = length-map p.funcs (λ (f : Func). f.ftype) in
    let long : length (module_context p).funcs ≤ x = omega (arith, length-append (map (λ (m : Import). m.ftype) p.imports) (map (λ (f : Func). f.ftype) p.funcs), n, k, h) in
    ap (option_and_then (slice_get p.types)) (past (module_context p).funcs x long)
  where
    past : (xs : List ℕ) (i : ℕ) → length xs ≤ i → slice_get xs i ≡ None
    past [] i le = refl
    past (y ∷ xs) zero le = absurd (omega arith)
    past (y ∷ xs) (suc i) le = past xs i (omega arith)

-- the type that a function of the program has is the one of its index
pub type-there : (p : Parts) (s : State) (x : ℕ) (t : FuncType) → IsValid p → IsFine p s → HasFunction p x → ((function : Function) → slice_get (program_of p).functions x ≡ Some function → t ≡ function.ftype) → func_type (module_context p) x ≡ Some t
type-there p s x t v h there is =
    let k = has-type p x v there in
    let function = h.program.each x k.0 k.1 in
    k.1 ∙ ap Some (sym (is function.0 function.1 ∙ function.2))
