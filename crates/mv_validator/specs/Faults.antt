-- Which instruction of a body is the first faulty one, and why (docs/FORMATS.md, "Valid modules").
use Rattle.std.specs.Prelude.{◌≡◌, Bool, true, false, ℕ, ◌+◌, ◌≤◌, List, [], ◌∷◌, ◌++◌, Option, Some, None, take, drop, is_some, slice_get, if◌then◌else◌}
use Rattle.mv_syntax.specs.declared.ops.ValType.{ValType}
use Rattle.mv_syntax.specs.declared.module.Global.{Global}
use Rattle.mv_syntax.specs.declared.fault.ValidKind.{ValidKind}
use Rattle.mv_syntax.specs.declared.fault.ValidKind.TheVariants.{TypeIndex, FuncIndex, NoTable, NoMemory, GlobalIndex, LocalIndex, LabelIndex, Operand, Immutable, Align}
use Rattle.mv_syntax.specs.declared.instr.Instr.{Instr}
use Rattle.mv_syntax.specs.declared.instr.Instr.TheVariants as instr
use Rattle.mv_validator.specs.Types.{is_natural}
use Rattle.mv_validator.specs.Typing.{Context, IsTyped}

-- For each list of instructions that is open behind an instruction, the innermost first: whether it is the first list
-- of an `if` with a result, and so wants an `else`.
abbrev pub open_behind : List Bool → Instr → List Bool
open_behind ls (instr.Block t) = false ∷ ls
open_behind ls (instr.Loop t) = false ∷ ls
open_behind ls (instr.If t) = is_some t ∷ ls
open_behind ls instr.Else = false ∷ drop 1 ls
open_behind ls instr.End = drop 1 ls
open_behind ls i = ls

abbrev pub open_after : List Bool → List Instr → List Bool
open_after ls [] = ls
open_after ls (i ∷ code) = open_after (open_behind ls i) code

-- each open list is closed by `unreachable` and `end`
abbrev pub closing : List Bool → List Instr
closing [] = []
closing (false ∷ ls) = instr.Unreachable ∷ instr.End ∷ closing ls
closing (true ∷ ls) = instr.Unreachable ∷ instr.Else ∷ instr.Unreachable ∷ instr.End ∷ closing ls

-- the code up to a place, closed
abbrev pub closed_front : List Instr → ℕ → List Instr
closed_front code n = take n code ++ closing (open_after (false ∷ []) (take n code))

-- what a branch to each open block carries, the innermost first
abbrev pub labels_behind : List (Option ValType) → Instr → List (Option ValType)
labels_behind ls (instr.Block t) = t ∷ ls
labels_behind ls (instr.Loop t) = None ∷ ls
labels_behind ls (instr.If t) = t ∷ ls
labels_behind ls instr.End = drop 1 ls
labels_behind ls i = ls

abbrev pub labels_after : List (Option ValType) → List Instr → List (Option ValType)
labels_after ls [] = ls
labels_after ls (i ∷ code) = labels_after (labels_behind ls i) code

-- a kind where something is missing
abbrev pub lacking : {A : Type 0} → ValidKind → Option A → Option ValidKind
lacking kind None = Some kind
lacking kind (Some a) = None

abbrev pub unless : ValidKind → Bool → Option ValidKind
unless kind b = if b then None else Some kind

-- the first of two that is there
abbrev pub first_of : Option ValidKind → Option ValidKind → Option ValidKind
first_of None b = b
first_of (Some k) b = Some k

abbrev pub any_lacking : {A : Type 0} → ValidKind → List A → List ℕ → Option ValidKind
any_lacking kind xs [] = None
any_lacking kind xs (l ∷ ls) = first_of (lacking kind (slice_get xs l)) (any_lacking kind xs ls)

-- what the instruction names, or stands on, and the context lacks
abbrev pub index_fault : Context → Instr → Option ValidKind
index_fault c (instr.Br l) = lacking LabelIndex (slice_get c.labels l)
index_fault c (instr.BrIf l) = lacking LabelIndex (slice_get c.labels l)
index_fault c (instr.BrTable ls last) = first_of (any_lacking LabelIndex c.labels ls) (lacking LabelIndex (slice_get c.labels last))
index_fault c (instr.Call x) = lacking FuncIndex (slice_get c.funcs x)
index_fault c (instr.CallIndirect x) = first_of (lacking TypeIndex (slice_get c.types x)) (unless NoTable c.table)
index_fault c (instr.LocalGet x) = lacking LocalIndex (slice_get c.locals x)
index_fault c (instr.LocalSet x) = lacking LocalIndex (slice_get c.locals x)
index_fault c (instr.LocalTee x) = lacking LocalIndex (slice_get c.locals x)
index_fault c (instr.GlobalGet x) = lacking GlobalIndex (slice_get c.globals x)
index_fault c (instr.GlobalSet x) = lacking GlobalIndex (slice_get c.globals x)
index_fault c (instr.Load t n signed align offset) = unless NoMemory c.memory
index_fault c (instr.Store t n align offset) = unless NoMemory c.memory
index_fault c instr.MemorySize = unless NoMemory c.memory
index_fault c instr.MemoryGrow = unless NoMemory c.memory
index_fault c i = None

-- a global that may be set
abbrev pub set_fault : Option Global → Option ValidKind
set_fault None = None
set_fault (Some g) = unless Immutable g.mutable

-- what is there, and may not be used so
abbrev pub use_fault : Context → Instr → Option ValidKind
use_fault c (instr.GlobalSet x) = set_fault (slice_get c.globals x)
use_fault c (instr.Load t n signed align offset) = unless Align (is_natural align n)
use_fault c (instr.Store t n align offset) = unless Align (is_natural align n)
use_fault c i = None

abbrev pub or_operand : Option ValidKind → ValidKind
or_operand None = Operand
or_operand (Some k) = k

-- Why an instruction has no type where it stands: for its indices first, then for what it may not use, else for its
-- operands.
abbrev pub kind_of : Context → Instr → ValidKind
kind_of c i = or_operand (first_of (index_fault c i) (use_fault c i))

-- the context of an instruction, with the labels of the blocks that are open there
abbrev pub context_before : Context → List Instr → ℕ → Context
context_before c code at = record c { labels = labels_after (c.result ∷ []) (take at code) }

-- the instruction at this place is the first one whose prefix, itself included, has no type
pub record IsFirstFault (c : Context) (code : List Instr) (at : ℕ) (kind : ValidKind) : Type 0 where
  pub instr : Instr
  pub there : slice_get code at ≡ Some instr
  pub before : (n : ℕ) → n ≤ at → IsTyped c (closed_front code n)
  pub faulty : IsTyped c (closed_front code (at + 1)) → ⊥
  pub kind_is : kind ≡ kind_of (context_before c code at) instr
