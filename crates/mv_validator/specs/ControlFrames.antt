-- What is known of the operands while a body is read from left to right.
use Rattle.std.specs.Prelude.{Bool, true, false, ℕ, List, [], ◌∷◌, ◌++◌, Option, Some, None, slice_get, option_and_then, if◌then◌else◌, map, ◌&&◌, ◌||◌, nat_lt}
use Rattle.mv_syntax.specs.Types.{same_type, same_result}
use Rattle.std.specs.Option.{option_map}
use Rattle.mv_syntax.specs.declared.ops.ValType.{ValType}
use Rattle.mv_syntax.specs.declared.ops.ValType.TheVariants.{I32}
use Rattle.mv_syntax.specs.declared.instr.Instr.{Instr}
use Rattle.mv_syntax.specs.declared.instr.Instr.TheVariants.{Unreachable, Block, Loop, If, Else, End, Br, BrIf, BrTable, Return, Drop, Select, Nop, LocalGet, LocalSet, LocalTee, GlobalGet, GlobalSet, Load, Store, MemorySize, MemoryGrow, Const, Un, Test, Rel, Bin}
use Rattle.mv_validator.specs.declared.control_frame.Kind.{Kind}
use Rattle.mv_validator.specs.declared.control_frame.Kind.TheVariants.{Block as BlockKind, Loop as LoopKind, If as IfKind, Else as ElseKind}
use Rattle.mv_validator.specs.Types.{operands_of}
use Rattle.mv_validator.specs.OperandStack.{taken, all_taken, any_taken, selected}
use Rattle.mv_validator.specs.Typing.{Context, type_of}
use Rattle.mv_syntax.specs.declared.fault.ValidKind.{ValidKind}
use Rattle.mv_syntax.specs.declared.fault.ValidKind.TheVariants.{LabelIndex}
use Rattle.mv_validator.specs.Faults.{unless, first_of, index_fault, use_fault, or_operand}

-- A block that is being read: what opened it, what it gives, the types of its operands with the newest first,
-- of which some may be any, and whether any operands may lie below them, since no run comes here.
pub record ControlFrame : Type 0 where
  pub kind : Kind
  pub result : Option ValType
  pub operands : List (Option ValType)
  pub unreachable : Bool

abbrev pub label_of : Kind → Option ValType → Option ValType
label_of LoopKind t = None
label_of k t = t

abbrev pub labels_of : List ControlFrame → List (Option ValType)
labels_of [] = []
labels_of (l ∷ ls) = label_of l.kind l.result ∷ labels_of ls

-- the context with the labels of the open blocks
abbrev pub context_at : Context → List ControlFrame → Context
context_at c ls = record c { labels = labels_of ls }

abbrev pub all_take : Context → List ℕ → Option ValType → Bool
all_take c [] t = true
all_take c (l ∷ ls) t = elim (slice_get c.labels l) [ None ↦ false | Some u ↦ same_result u t && all_take c ls t ]

-- what a branch through a table needs
abbrev pub needs_table : Context → List ℕ → ℕ → Option (List ValType)
needs_table c ls last = option_and_then (λ t. if all_take c ls t then Some (I32 ∷ operands_of t) else None) (slice_get c.labels last)

-- what is left without these operands
abbrev pub taken_by : Option (List ValType) → ControlFrame → Option (List (Option ValType))
taken_by ts l = option_and_then (λ us. all_taken us l.operands l.unreachable) ts

-- what an instruction needs that never goes on to the next one
abbrev pub needs : Context → Instr → Option (List ValType)
needs c Unreachable = Some []
needs c (Br l) = option_map operands_of (slice_get c.labels l)
needs c (BrTable ls last) = needs_table c ls last
needs c Return = Some (operands_of c.result)
needs c i = None

-- whether it is one of these
abbrev pub never_goes_on : Instr → Bool
never_goes_on Unreachable = true
never_goes_on (Br l) = true
never_goes_on (BrTable ls last) = true
never_goes_on Return = true
never_goes_on i = false

-- the operands behind an instruction that begins and ends no list
abbrev pub behind_end : ControlFrame → Option (List ValType) → Option ControlFrame
behind_end l None = None
behind_end l (Some ts) = option_map (λ os. record l { operands = []; unreachable = true }) (all_taken ts l.operands l.unreachable)

abbrev pub behind_type : ControlFrame → Option (List ValType × List ValType) → Option ControlFrame
behind_type l None = None
behind_type l (Some t) = option_map (λ os. record l { operands = map Some t.1 ++ os }) (all_taken t.0 l.operands l.unreachable)

abbrev pub behind : Context → Instr → ControlFrame → Option ControlFrame
behind c Select l = option_map (λ os. record l { operands = os }) (selected l.operands l.unreachable)
behind c Drop l = option_map (λ os. record l { operands = os }) (any_taken l.operands l.unreachable)
behind c i l = if never_goes_on i then behind_end l (needs c i) else behind_type l (type_of c i)

abbrev pub is_empty : {A : Type 0} → List A → Bool
is_empty [] = true
is_empty (x ∷ xs) = false

-- whether the operands of a block are what it gives, and no more
abbrev pub is_complete : ControlFrame → Bool
is_complete l = elim (all_taken (operands_of l.result) l.operands l.unreachable) [ None ↦ false | Some os ↦ is_empty os ]

abbrev pub new_frame : Kind → Option ValType → ControlFrame
new_frame k t = record { kind = k; result = t; operands = []; unreachable = false }

abbrev pub is_if : Kind → Bool
is_if IfKind = true
is_if k = false

-- an `if` with a result has an `else`
abbrev pub may_end : Kind → Option ValType → Bool
may_end IfKind (Some t) = false
may_end k t = true

-- the frames when the innermost block has ended, its results over the operands of the one around it
abbrev pub ended : Option ValType → List ControlFrame → List ControlFrame
ended t [] = []
ended t (m ∷ ls) = record m { operands = map Some (operands_of t) ++ m.operands } ∷ ls

-- the frames behind an instruction; none where it is faulty
abbrev pub next : Context → Instr → List ControlFrame → Option (List ControlFrame)
next c i [] = None
next c (Block t) (l ∷ ls) = Some (new_frame BlockKind t ∷ l ∷ ls)
next c (Loop t) (l ∷ ls) = Some (new_frame LoopKind t ∷ l ∷ ls)
next c (If t) (l ∷ ls) = option_map (λ os. new_frame IfKind t ∷ record l { operands = os } ∷ ls) (taken I32 l.operands l.unreachable)
next c Else (l ∷ ls) = if is_if l.kind && is_complete l then Some (new_frame ElseKind l.result ∷ ls) else None
next c End (l ∷ ls) = if may_end l.kind l.result && is_complete l then Some (ended l.result ls) else None
next c i (l ∷ ls) = option_map (λ m. m ∷ ls) (behind (context_at c (l ∷ ls)) i l)

-- the frames behind a list of instructions
abbrev pub frames_after : Context → List Instr → List ControlFrame → Option (List ControlFrame)
frames_after c [] ls = Some ls
frames_after c (i ∷ code) ls = option_and_then (frames_after c code) (next c i ls)

abbrev pub accepts : Context → List Instr → List ControlFrame → Bool
accepts c [] ls = is_empty ls
accepts c (i ∷ code) ls = elim (next c i ls) [ None ↦ false | Some m ↦ accepts c code m ]

-- the instructions on locals and globals
abbrev pub is_variable : Instr → Bool
is_variable (LocalGet x) = true
is_variable (LocalSet x) = true
is_variable (LocalTee x) = true
is_variable (GlobalGet x) = true
is_variable (GlobalSet x) = true
is_variable i = false

-- those on the memory
abbrev pub is_memory : Instr → Bool
is_memory (Load t n signed align offset) = true
is_memory (Store t n align offset) = true
is_memory MemorySize = true
is_memory MemoryGrow = true
is_memory i = false

-- those on operands alone
abbrev pub is_numeric : Instr → Bool
is_numeric Nop = true
is_numeric (Const t v) = true
is_numeric (Un op) = true
is_numeric (Test op) = true
is_numeric (Rel op) = true
is_numeric (Bin op) = true
is_numeric i = false

-- an instruction of a known type that names no label and no function
abbrev pub is_simple : Instr → Bool
is_simple i = is_variable i || (is_memory i || is_numeric i)

-- Why an instruction is faulty, where so many blocks are open.

-- whether each of the labels is one of so many
abbrev pub all_open : List ℕ → ℕ → Bool
all_open [] count = true
all_open (l ∷ ls) count = nat_lt l count && all_open ls count

abbrev pub index_fault_among : Context → ℕ → Instr → Option ValidKind
index_fault_among c count (Br l) = unless LabelIndex (nat_lt l count)
index_fault_among c count (BrIf l) = unless LabelIndex (nat_lt l count)
index_fault_among c count (BrTable ls last) = unless LabelIndex (all_open ls count && nat_lt last count)
index_fault_among c count i = index_fault c i

abbrev pub kind_among : Context → ℕ → Instr → ValidKind
kind_among c count i = or_operand (first_of (index_fault_among c count i) (use_fault c i))
