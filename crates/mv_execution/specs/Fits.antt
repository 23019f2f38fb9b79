-- Configurations that have the types of their module (WebAssembly Core 1.0, 7.5, from the appendix on soundness): values,
-- frames and open blocks, the store, and the calls that wait.
use Rattle.std.specs.Prelude.{◌≡◌, ℕ, ◌^◌, ◌<◌, ◌≤◌, true, List, [], ◌∷◌, ◌++◌, Option, Some, None, length, map, reverse, slice_get, All, is_some, IfSome}
use Rattle.std.specs.List.{AllByRecursion}
use Rattle.mv_syntax.specs.declared.ops.ValType.{ValType}
use Rattle.mv_syntax.specs.declared.types.FuncType.{FuncType}
use Rattle.mv_syntax.specs.declared.module.Func.{Func}
use Rattle.mv_syntax.specs.declared.module.Global.{Global}
use Rattle.mv_syntax.specs.Sections.{Parts}
use Rattle.mv_syntax.specs.declared.instr.Instr.{Instr}
use Rattle.mv_syntax.specs.declared.instr.Instr.TheVariants as instr
use Rattle.mv_syntax.specs.Types.{bit_width}
use Rattle.mv_syntax.specs.Tree.{Tree, done, plain, block, loop, choice}
use Rattle.mv_validator.specs.Types.{operands_of}
use Rattle.mv_validator.specs.Typing.{Context, Types, IsTyped, func_type}
use Rattle.mv_memory.specs.Bytes.{IsByte, page_limit}
use Rattle.mv_memory.specs.Memory.{page_count}
use Rattle.mv_execution.specs.Values.{is_width}
use Rattle.mv_execution.specs.Config.{Body, Function, Program, Store, OpenBlock, Frame, Config}
use Rattle.mv_execution.specs.Run.{Stop, Ended, IsStuck}

-- ---- values

abbrev pub IsOf : ValType → ℕ → Type 0
IsOf t v = v < 2 ^ bit_width t

abbrev pub AreOf : List ValType → List ℕ → Type 0
AreOf [] [] = Unit {0}
AreOf [] (v ∷ vs) = ⊥
AreOf (t ∷ ts) [] = ⊥
AreOf (t ∷ ts) (v ∷ vs) = IsOf t v × AreOf ts vs

-- ---- instructions, as far as their numbers go: a constant is of its type, and an access has a width

abbrev pub IsSound : Instr → Type 0
IsSound (instr.Const t v) = IsOf t v
IsSound (instr.Load t n signed align offset) = is_width t n ≡ true
IsSound (instr.Store t n align offset) = is_width t n ≡ true
IsSound i = Unit {0}

abbrev pub AreSound : Tree → Type 0
AreSound done = Unit {0}
AreSound (plain i rest) = IsSound i × AreSound rest
AreSound (block t body rest) = AreSound body × AreSound rest
AreSound (loop t body rest) = AreSound body × AreSound rest
AreSound (choice t first second rest) = AreSound first × AreSound second × AreSound rest

-- ---- frames

-- the context of a function with these parameters and locals, and this result
abbrev pub in_function : Context → List ValType → Option ValType → Context
in_function m locals result = record m { locals = locals; labels = []; result = result }

-- what a branch to the block finds
abbrev pub AgainFits : Context → Option ValType → Option ValType → Option Tree → Type 0
AgainFits c label t None = label ≡ t
AgainFits c label t (Some body) = (label ≡ None) × Types c body [] (operands_of t) × AreSound body

-- An open block that gives t: its own operands, with those that inner blocks are still to give, lead over what is left of
-- it to what it gives. The context has its label first.
pub record FitsBlock (c : Context) (label t : Option ValType) (b : OpenBlock) (pushed : List ValType) (own : List ℕ) : Type 0 where
  pub types : List ValType
  pub are : AreOf types own
  pub typed : Types c b.rest (pushed ++ types) (operands_of t)
  pub sound : AreSound b.rest
  pub arity : b.arity ≡ length (operands_of label)
  pub again : AgainFits c label t b.again

-- The open blocks, the innermost first, with the operands in and below them. Where none is open the operands are what the
-- function gives.
abbrev pub FitBlocks : Context → List (Option ValType) → List (Option ValType) → List OpenBlock → List ValType → List ℕ → Type 0
FitBlocks c [] [] [] pushed operands = (types : List ValType) × AreOf types operands × (pushed ++ types ≡ operands_of c.result)
FitBlocks c (label ∷ labels) (t ∷ ts) (b ∷ bs) pushed operands = (own below : List ℕ) × (operands ≡ own ++ below) × (b.height ≡ length below) × FitsBlock (record c { labels = label ∷ labels }) label t b pushed own × FitBlocks c labels ts bs (operands_of t) below
FitBlocks c labels ts bs pushed operands = ⊥

-- A frame of a function with this context, of which an inner call is still to give these operands.
pub record FitsUnder (c : Context) (pushed : List ValType) (f : Frame) : Type 0 where
  pub labels : List (Option ValType)
  pub results : List (Option ValType)
  pub blocks : FitBlocks c labels results f.blocks pushed f.operands
  pub locals : AreOf c.locals f.locals
  pub gives : f.results ≡ length (operands_of c.result)

abbrev pub Fits : Context → Frame → Type 0
Fits c f = FitsUnder c [] f

-- The calls of a module's functions, the newest first; each gives to the next one, and the last one values of the types gs.
abbrev pub FitFrames : Context → List ValType → List ValType → List Frame → Type 0
FitFrames m gs pushed [] = pushed ≡ gs
FitFrames m gs pushed (f ∷ fs) = (locals : List ValType) × (result : Option ValType) × FitsUnder (in_function m locals result) pushed f × FitFrames m gs (operands_of result) fs

-- ---- functions

abbrev pub FitsBody : Context → FuncType → Option Body → Type 0
FitsBody m t None = Unit {0}
FitsBody m t (Some b) = (extra : List ValType) × (b.locals ≡ length extra) × Types (record (in_function m (t.params ++ extra) t.result) { labels = t.result ∷ [] }) b.tree [] (operands_of t.result) × AreSound b.tree

-- each type of the module is the program's, and each function has its type
pub record FitsProgram (m : Context) (program : Program) : Type 0 where
  pub types : program.types ≡ m.types
  pub each : (x : ℕ) (t : FuncType) → func_type m x ≡ Some t → (function : Function) × (slice_get program.functions x ≡ Some function) × (function.ftype ≡ t) × FitsBody m t function.body

-- ---- the store

-- bytes are bytes, and no more pages than there may be; globals are of their types; the table's entries hold functions
pub record FitsStore (m : Context) (s : Store) : Type 0 where
  pub bytes : All IsByte s.memory.bytes
  pub pages : page_count s.memory ≤ page_limit
  pub globals : AreOf (map (λ g. g.vtype) m.globals) s.globals
  pub table : (i x : ℕ) → slice_get s.table i ≡ Some (Some x) → (t : FuncType) × (func_type m x ≡ Some t)

-- ---- configurations

-- the newest frame has the arguments of the call that waits over the operands below, and is to be given its result
abbrev pub FitsWaiting : Context → List ValType → FuncType → List Frame → Type 0
FitsWaiting m gs t [] = (t.params ≡ []) × (operands_of t.result ≡ gs)
FitsWaiting m gs t (f ∷ fs) = (arguments below : List ℕ) × (f.operands ≡ arguments ++ below) × AreOf (reverse t.params) arguments × FitFrames m gs (operands_of t.result) (record f { operands = below } ∷ fs)

abbrev pub FitsCalls : Context → List ValType → Option ℕ → List Frame → List ℕ → Type 0
FitsCalls m gs None frames given = (pushed : List ValType) × AreOf pushed given × FitFrames m gs pushed frames
FitsCalls m gs (Some x) frames given = (t : FuncType) × (func_type m x ≡ Some t) × (given ≡ []) × FitsWaiting m gs t frames

-- A configuration, of which the function that was entered gives, or has given, values of the types gs.
pub record FitsConfig (m : Context) (gs : List ValType) (c : Config) : Type 0 where
  pub store : FitsStore m c.store
  pub calls : FitsCalls m gs c.waiting c.frames c.given

-- ---- runs

abbrev pub IsNotStuck : Stop → Type 0
IsNotStuck IsStuck = ⊥
IsNotStuck stop = Unit {0}

-- what a run has ended with
abbrev pub Gives : List ValType → Stop → Type 0
Gives gs (Ended results) = AreOf gs results
Gives gs stop = Unit {0}

-- A run stops for a reason that is the guest's own, in a typed configuration; where it has ended, its results are of their
-- types.
abbrev pub RunFits : Context → List ValType → Config × Stop → Type 0
RunFits m gs result = FitsConfig m gs result.0 × IsNotStuck result.1 × Gives gs result.1

-- ---- modules

-- the context of a module, outside of any function (3.4.10)
abbrev pub module_context : Parts → Context
module_context p = record {
  types = p.types;
  funcs = map (λ i. i.ftype) p.imports ++ map (λ f. f.ftype) p.funcs;
  table = is_some p.table;
  memory = is_some p.memory;
  globals = p.globals;
  locals = [];
  labels = [];
  result = None;
}

-- a function's body has its declared type, and its instructions are sound
pub record IsTypedFunction (p : Parts) (f : Func) : Type 0 where
  pub ftype : FuncType
  pub declared_as : slice_get p.types f.ftype ≡ Some ftype
  pub typed : IsTyped (in_function (module_context p) (ftype.params ++ f.locals) ftype.result) f.code
  pub sound : AllByRecursion IsSound f.code

-- an initial value is one constant of the global's type
pub record IsTypedGlobal (g : Global) : Type 0 where
  pub value : ℕ
  pub constant : g.init ≡ instr.Const g.vtype value ∷ instr.End ∷ []
  pub sound : IsOf g.vtype value

-- what valid modules have, as far as a run rests on it
pub record IsTypedModule (p : Parts) : Type 0 where
  pub funcs : (n : ℕ) (f : Func) → slice_get p.funcs n ≡ Some f → IsTypedFunction p f
  pub globals : (n : ℕ) (g : Global) → slice_get p.globals n ≡ Some g → IsTypedGlobal g
  pub memory : IfSome p.memory (λ limits. limits.min ≤ page_limit)
