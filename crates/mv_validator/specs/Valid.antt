-- Which modules are valid (WebAssembly Core 1.0, 3.4), under this profile: imports are functions, and there is at most one
-- table, one memory and one result of a function.
use Rattle.std.specs.Prelude.{◌≡◌, ℕ, ◌<◌, ◌≤◌, ◌^◌, ◌==◌, List, [], ◌∷◌, ◌++◌, Option, Some, None, IfSome, IsSome, length, map, is_some, slice_get, option_and_then, if◌then◌else◌}
use Rattle.mv_syntax.specs.declared.ops.ValType.{ValType}
use Rattle.mv_syntax.specs.declared.ops.ValType.TheVariants.{I32}
use Rattle.mv_syntax.specs.declared.types.FuncType.{FuncType}
use Rattle.mv_syntax.specs.declared.types.Limits.{Limits}
use Rattle.mv_syntax.specs.declared.module.Func.{Func}
use Rattle.mv_syntax.specs.declared.module.Export.{Export}
use Rattle.mv_syntax.specs.declared.module.Element.{Element}
use Rattle.mv_syntax.specs.declared.module.Segment.{Segment}
use Rattle.mv_syntax.specs.declared.instr.Instr.{Instr}
use Rattle.mv_syntax.specs.declared.instr.Instr.TheVariants as instr
use Rattle.mv_syntax.specs.Sections.{Parts}
use Rattle.mv_validator.specs.Typing.{Context, IsTyped}

-- the types of the functions, the imported ones first
abbrev pub type_indices : Parts → List ℕ
type_indices p = map (λ i. i.ftype) p.imports ++ map (λ f. f.ftype) p.funcs

-- the type of the function with this index
abbrev pub type_at : Parts → ℕ → Option FuncType
type_at p x = option_and_then (slice_get p.types) (slice_get (type_indices p) x)

-- 3.4.10: the context of the body of a function with this type and these further locals
abbrev pub context_in : Parts → FuncType → List ValType → Context
context_in p t locals = record {
  types = p.types;
  funcs = type_indices p;
  table = is_some p.table;
  memory = is_some p.memory;
  globals = p.globals;
  locals = t.params ++ locals;
  labels = [];
  result = t.result;
}

-- of each item of a list
abbrev pub Each : {A : Type 0} → List A → (A → Type 0) → Type 0
Each {A} xs P = (n : ℕ) (x : A) → slice_get xs n ≡ Some x → P x

-- 3.4.1: the body has the type that the function declares
pub record IsTypedFunc (p : Parts) (f : Func) : Type 0 where
  pub ftype : FuncType
  pub declared_as : slice_get p.types f.ftype ≡ Some ftype
  pub typed : IsTyped (context_in p ftype f.locals) f.code

-- 3.2.1: limits within a range
pub record AreLimits (range : ℕ) (l : Limits) : Type 0 where
  pub least : l.min ≤ range
  pub most : IfSome l.max (λ m. (m ≤ range) × (l.min ≤ m))

-- 3.3.7.2: an expression of one constant of the type; no global is imported, so none is constant here
abbrev pub IsConstant : ValType → List Instr → Type 0
IsConstant t code = (v : ℕ) × (code ≡ instr.Const t v ∷ instr.End ∷ [])

abbrev pub count_of : {A : Type 0} → Option A → ℕ
count_of None = 0
count_of (Some x) = 1

-- 3.4.8: how many functions, tables, memories or globals there are
abbrev pub exported_count : Parts → ℕ → ℕ
exported_count p kind =
    if kind == 0 then length (type_indices p) else
    if kind == 1 then count_of p.table else
    if kind == 2 then count_of p.memory else
    length p.globals

-- an export before this one has another name
abbrev pub IsNewName : List Export → ℕ → Export → Type 0
IsNewName xs n x = (k : ℕ) (y : Export) → k < n → slice_get xs k ≡ Some y → y.name ≡ x.name → ⊥

-- 3.4.7
pub record IsStart (p : Parts) (x : ℕ) : Type 0 where
  pub ftype : FuncType
  pub there : type_at p x ≡ Some ftype
  pub no_parameter : ftype.params ≡ []
  pub no_result : ftype.result ≡ None

-- 3.4.5
pub record IsElement (p : Parts) (e : Element) : Type 0 where
  pub table : IsSome p.table
  pub offset : IsConstant I32 e.offset
  pub funcs : Each e.funcs (λ x. x < length (type_indices p))

-- 3.4.6
pub record IsSegment (p : Parts) (s : Segment) : Type 0 where
  pub memory : IsSome p.memory
  pub offset : IsConstant I32 s.offset

-- 3.4.10
pub record IsValid (p : Parts) : Type 0 where
  -- 3.4.9
  pub imports : Each p.imports (λ i. i.ftype < length p.types)
  pub funcs : Each p.funcs (IsTypedFunc p)
  -- 3.4.2
  pub table : IfSome p.table (AreLimits (2 ^ 32))
  -- 3.4.3
  pub memory : IfSome p.memory (AreLimits (2 ^ 16))
  -- 3.4.4
  pub globals : Each p.globals (λ g. IsConstant g.vtype g.init)
  pub exports : Each p.exports (λ x. x.index < exported_count p x.kind)
  pub names : (n : ℕ) (x : Export) → slice_get p.exports n ≡ Some x → IsNewName p.exports n x
  pub start : IfSome p.start (IsStart p)
  pub elements : Each p.elements (IsElement p)
  pub segments : Each p.segments (IsSegment p)
