-- The types of instructions and of lists of instructions (WebAssembly Core 1.0, 3.3). Operands are listed with the newest
-- first.
use Rattle.std.specs.Prelude.{◌≡◌, ℕ, Bool, List, [], ◌∷◌, ◌++◌, Option, Some, None, slice_get, reverse, option_and_then, if◌then◌else◌, ◌&&◌}
use Rattle.std.specs.Option.{option_map}
use Rattle.mv_syntax.specs.declared.ops.ValType.{ValType}
use Rattle.mv_syntax.specs.declared.ops.ValType.TheVariants.{I32}
use Rattle.mv_syntax.specs.declared.types.FuncType.{FuncType}
use Rattle.mv_syntax.specs.declared.module.Global.{Global}
use Rattle.mv_syntax.specs.declared.instr.Instr.{Instr}
use Rattle.mv_syntax.specs.declared.instr.Instr.TheVariants as instr
use Rattle.mv_syntax.specs.Tree.{Tree, done, plain, block, loop, choice, IsBody}
use Rattle.mv_validator.specs.Types.{operands_of, taken_by_un, given_by_un, taken_by_test, is_natural}

-- 3.1.1: what an instruction's type depends on. The functions are there with the indices of their types, the imported ones
-- first, the labels of the open blocks with the innermost first, and `result` is what the function gives.
pub record Context : Type 0 where
  pub types : List FuncType
  pub funcs : List ℕ
  pub table : Bool
  pub memory : Bool
  pub globals : List Global
  pub locals : List ValType
  pub labels : List (Option ValType)
  pub result : Option ValType

abbrev pub in_block : Context → Option ValType → Context
in_block c label = record c { labels = label ∷ c.labels }

-- the type of the function with this index
abbrev pub func_type : Context → ℕ → Option FuncType
func_type c x = option_and_then (slice_get c.types) (slice_get c.funcs x)

abbrev pub called : FuncType → List ValType × List ValType
called t = (reverse t.params, operands_of t.result)

-- the table's entry is on top of the arguments
abbrev pub called_by_entry : FuncType → List ValType × List ValType
called_by_entry t = (I32 ∷ reverse t.params, operands_of t.result)

abbrev pub only_if : {A : Type 0} → Bool → A → Option A
only_if b x = if b then Some x else None

-- 3.3.1 to 3.3.5: the instructions that take and give operands of known types.
abbrev pub type_of : Context → Instr → Option (List ValType × List ValType)
type_of c instr.Nop = Some ([], [])
type_of c (instr.BrIf l) = option_map (λ t. (I32 ∷ operands_of t, operands_of t)) (slice_get c.labels l)
type_of c (instr.Call x) = option_map called (func_type c x)
type_of c (instr.CallIndirect x) = if c.table then option_map called_by_entry (slice_get c.types x) else None
type_of c (instr.LocalGet x) = option_map (λ t. ([], t ∷ [])) (slice_get c.locals x)
type_of c (instr.LocalSet x) = option_map (λ t. (t ∷ [], [])) (slice_get c.locals x)
type_of c (instr.LocalTee x) = option_map (λ t. (t ∷ [], t ∷ [])) (slice_get c.locals x)
type_of c (instr.GlobalGet x) = option_map (λ g. ([], g.vtype ∷ [])) (slice_get c.globals x)
type_of c (instr.GlobalSet x) = option_and_then (λ g. only_if g.mutable (g.vtype ∷ [], [])) (slice_get c.globals x)
type_of c (instr.Load t n signed align offset) = only_if (c.memory && is_natural align n) (I32 ∷ [], t ∷ [])
type_of c (instr.Store t n align offset) = only_if (c.memory && is_natural align n) (t ∷ I32 ∷ [], [])
type_of c instr.MemorySize = only_if c.memory ([], I32 ∷ [])
type_of c instr.MemoryGrow = only_if c.memory (I32 ∷ [], I32 ∷ [])
type_of c (instr.Const t v) = Some ([], t ∷ [])
type_of c (instr.Un op) = Some (taken_by_un op ∷ [], given_by_un op ∷ [])
type_of c (instr.Test op) = Some (taken_by_test op ∷ [], I32 ∷ [])
type_of c (instr.Rel op) = Some (op.width ∷ op.width ∷ [], I32 ∷ [])
type_of c (instr.Bin op) = Some (op.width ∷ op.width ∷ [], op.width ∷ [])
type_of c i = None

-- each of the labels takes these operands
abbrev pub Take : Context → List ℕ → Option ValType → Type 0
Take c [] t = Unit {0}
Take c (l ∷ ls) t = (slice_get c.labels l ≡ Some t) × Take c ls t

-- An instruction has the type [x] -> [y]. Those that never go on to the next one give any results, and take any
-- operands below those that they need.
abbrev pub HasType : Context → Instr → List ValType → List ValType → Type 0
HasType c instr.Drop x y = (t : ValType) × (x ≡ t ∷ []) × (y ≡ [])
HasType c instr.Select x y = (t : ValType) × (x ≡ I32 ∷ t ∷ t ∷ []) × (y ≡ t ∷ [])
HasType c instr.Unreachable x y = Unit {0}
HasType c (instr.Br l) x y = (t : Option ValType) × (slice_get c.labels l ≡ Some t) × ((below : List ValType) × (x ≡ operands_of t ++ below))
HasType c (instr.BrTable ls last) x y = (t : Option ValType) × Take c (last ∷ ls) t × ((below : List ValType) × (x ≡ I32 ∷ (operands_of t ++ below)))
HasType c instr.Return x y = (below : List ValType) × (x ≡ operands_of c.result ++ below)
HasType c i x y = type_of c i ≡ Some (x, y)

-- 3.3.6: a list of instructions leads from these operands to those. An instruction leaves the operands below those of its
-- type. 3.3.5: a branch to a loop takes nothing, one to another block what the block gives.
abbrev pub Types : Context → Tree → List ValType → List ValType → Type 0
Types c done a b = a ≡ b
Types c (plain i rest) a b = (x y below : List ValType) × HasType c i x y × (a ≡ x ++ below) × Types c rest (y ++ below) b
Types c (block t body rest) a b = Types (in_block c t) body [] (operands_of t) × Types c rest (operands_of t ++ a) b
Types c (loop t body rest) a b = Types (in_block c None) body [] (operands_of t) × Types c rest (operands_of t ++ a) b
Types c (choice t first second rest) a b = (below : List ValType) × (a ≡ I32 ∷ below) × Types (in_block c t) first [] (operands_of t) × Types (in_block c t) second [] (operands_of t) × Types c rest (operands_of t ++ below) b

-- 3.4.1: a body gives the function's result. A branch to its own label is a return.
abbrev pub IsTyped : Context → List Instr → Type 0
IsTyped c code = (body : Tree) × IsBody code body × Types (record c { labels = c.result ∷ [] }) body [] (operands_of c.result)
