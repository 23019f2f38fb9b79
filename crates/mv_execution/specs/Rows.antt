-- What each instruction does to the store and to its frame (WebAssembly Core 1.0, 4.4), but for calls.
--
-- A row is stuck where what it needs isn't there: an operand, or one of its type, a local, a global, a label. Validated code
-- is never stuck.
use Rattle.std.specs.Prelude.{◌≡◌, Bool, ℕ, ◌+◌, ◌-◌, ◌*◌, ◌^◌, ◌==◌, List, [], ◌∷◌, ◌++◌, Option, Some, None, Result, Ok, Err, length, drop, take, slice_get, slice_set, slice_range, nat_le, nat_lt, if◌then◌else◌, unwrap_or}
use Rattle.mv_calls.specs.declared.trap.Trap.{Trap}
use Rattle.mv_calls.specs.declared.trap.Trap.TheVariants as trap
use Rattle.mv_syntax.specs.declared.ops.ValType.{ValType}
use Rattle.mv_syntax.specs.declared.ops.ValType.TheVariants.{I32}
use Rattle.mv_syntax.specs.declared.instr.Instr.{Instr}
use Rattle.mv_syntax.specs.declared.instr.Instr.TheVariants as instr
use Rattle.mv_syntax.specs.Types.{bit_width, operand_type, tested_type}
use Rattle.mv_syntax.specs.Tree.{Tree, plain, block, loop, choice}
use Rattle.mv_arith.specs.declared.ArithTrap.{ArithTrap}
use Rattle.mv_arith.specs.declared.ArithTrap.TheVariants.{DivideByZero, Overflow}
use Rattle.mv_arith.specs.Integers.{signed, wrapped, unary_result, binary_result, compares}
use Rattle.mv_memory.specs.Bytes.{most_pages, little_endian, low_bytes, written}
use Rattle.mv_memory.specs.Memory.{page_count, grown}
use Rattle.mv_execution.specs.Values.{is_of, truth, is_width, arity_of}
use Rattle.mv_execution.specs.Config.{Store, OpenBlock, Frame}

-- What an instruction comes to.
pub data Out (A : Type 0) : Type 0 where
  Goes : A → Out A
  Traps : Trap → Out A
  Stuck : Out A

abbrev pub Next : Type 0
Next = Out (Store × Frame)

-- of an instruction that leaves the store as it is
abbrev pub kept : Store → Option Frame → Next
kept s None = Stuck
kept s (Some f) = Goes (s, f)

-- ---- operands

abbrev pub pushed : ℕ → Frame → Frame
pushed v f = record f { operands = v ∷ f.operands }

-- goes on with the newest operand and the frame without it
abbrev pub taking : {A : Type 0} → Frame → (ℕ → Frame → Out A) → Out A
taking f next = elim f.operands [ [] ↦ Stuck | v ∷ below ↦ next v (record f { operands = below }) ]

-- the same with an operand of this type
abbrev pub popping : {A : Type 0} → ValType → Frame → (ℕ → Frame → Out A) → Out A
popping t f next = taking f (λ v g. if is_of t v then next v g else Stuck)

-- ---- branches (4.4.6)

-- those that a branch to the block carries, over those that lie below the block
abbrev pub carried : OpenBlock → List ℕ → List ℕ
carried b operands = take b.arity operands ++ drop (length operands - b.height) operands

-- a loop begins again, and another block is left
abbrev pub begun_again : OpenBlock → List OpenBlock → List OpenBlock
begun_again b outer = elim b.again [ None ↦ outer | Some body ↦ record b { rest = body } ∷ outer ]

abbrev pub branched_to : List OpenBlock → Frame → Option Frame
branched_to [] f = None
branched_to (b ∷ outer) f =
    if nat_le (b.height + b.arity) (length f.operands)
    then Some (record f { operands = carried b f.operands; blocks = begun_again b outer })
    else None

-- to the block that so many open blocks stand within
abbrev pub branched : ℕ → Frame → Option Frame
branched n f = branched_to (drop n f.blocks) f

-- the results are what is left of the call, and no block of it is open
abbrev pub returned : Frame → Option Frame
returned f =
    if nat_le f.results (length f.operands)
    then Some (record f { operands = take f.results f.operands; blocks = [] })
    else None

-- ---- variables (4.4.3)

abbrev pub local_set : ℕ → ℕ → Frame → Option Frame
local_set x v f = if nat_lt x (length f.locals) then Some (record f { locals = slice_set f.locals x v }) else None

abbrev pub global_set : ℕ → ℕ → Store → Frame → Next
global_set x v s f = if nat_lt x (length s.globals) then Goes (record s { globals = slice_set s.globals x v }, f) else Stuck

-- ---- memory (4.4.4)

-- what so many bytes are as a value of the type, as a signed number or not
abbrev pub extended : ValType → ℕ → Bool → ℕ → ℕ
extended t n as_signed v = if as_signed then wrapped (bit_width t) (signed (8 * n) v) else v

-- from an effective address, which may pass 2 ^ 32
abbrev pub loaded : ValType → ℕ → Bool → ℕ → Store → Frame → Next
loaded t n as_signed ea s f =
    if is_width t n then (
    if nat_lt (length s.memory.bytes) (ea + n)
    then Traps trap.Bounds
    else Goes (s, pushed (extended t n as_signed (little_endian (slice_range s.memory.bytes ea (ea + n)))) f))
    else Stuck

abbrev pub stored : ValType → ℕ → ℕ → ℕ → Store → Frame → Next
stored t n v ea s f =
    if is_width t n then (
    if nat_lt (length s.memory.bytes) (ea + n)
    then Traps trap.Bounds
    else Goes (record s { memory = record s.memory { bytes = written s.memory.bytes ea (low_bytes n v) } }, f))
    else Stuck

-- -1 exactly where the maximum or the limit of this host would be passed
abbrev pub memory_grown : ℕ → Store → Frame → Next
memory_grown n s f =
    if nat_lt (most_pages s.memory.max) (page_count s.memory + n)
    then Goes (s, pushed (2 ^ 32 - 1) f)
    else Goes (record s { memory = grown s.memory n }, pushed (page_count s.memory) f)

-- ---- numbers (4.4.1)

abbrev pub computed : Store → Frame → Result ℕ ArithTrap → Next
computed s f (Ok v) = Goes (s, pushed v f)
computed s f (Err DivideByZero) = Traps trap.DivideByZero
computed s f (Err Overflow) = Traps trap.Overflow

-- ---- one row an instruction

-- An instruction that begins and ends no block, and calls nothing. The frame's innermost block is behind it already.
abbrev pub acted : Instr → Store → Frame → Next
acted instr.Unreachable s f = Traps trap.Unreachable
acted instr.Nop s f = Goes (s, f)
acted (instr.Br n) s f = kept s (branched n f)
acted (instr.BrIf n) s f = popping I32 f (λ c g. if c == 0 then Goes (s, g) else kept s (branched n g))
acted (instr.BrTable ls last) s f = popping I32 f (λ c g. kept s (branched (unwrap_or (slice_get ls c) last) g))
acted instr.Return s f = kept s (returned f)
acted instr.Drop s f = taking f (λ v g. Goes (s, g))
acted instr.Select s f = popping I32 f (λ c g. taking g (λ b h. taking h (λ a k. Goes (s, pushed (if c == 0 then b else a) k))))
acted (instr.LocalGet x) s f = elim (slice_get f.locals x) [ None ↦ Stuck | Some v ↦ Goes (s, pushed v f) ]
acted (instr.LocalSet x) s f = taking f (λ v g. kept s (local_set x v g))
acted (instr.LocalTee x) s f = taking f (λ v g. kept s (local_set x v f))
acted (instr.GlobalGet x) s f = elim (slice_get s.globals x) [ None ↦ Stuck | Some v ↦ Goes (s, pushed v f) ]
acted (instr.GlobalSet x) s f = taking f (λ v g. global_set x v s g)
acted (instr.Load t n as_signed align offset) s f = popping I32 f (λ base g. loaded t n as_signed (base + offset) s g)
acted (instr.Store t n align offset) s f = popping t f (λ v g. popping I32 g (λ base h. stored t n v (base + offset) s h))
acted instr.MemorySize s f = Goes (s, pushed (page_count s.memory) f)
acted instr.MemoryGrow s f = popping I32 f (λ n g. memory_grown n s g)
acted (instr.Const t v) s f = Goes (s, pushed v f)
acted (instr.Un op) s f = popping (operand_type op) f (λ a g. Goes (s, pushed (unary_result op a) g))
acted (instr.Test op) s f = popping (tested_type op) f (λ a g. Goes (s, pushed (truth (a == 0)) g))
acted (instr.Rel op) s f = popping op.width f (λ b g. popping op.width g (λ a h. Goes (s, pushed (truth (compares (bit_width op.width) op.op a b)) h)))
acted (instr.Bin op) s f = popping op.width f (λ b g. popping op.width g (λ a h. computed s h (binary_result (bit_width op.width) op.op a b)))
acted i s f = Stuck

-- ---- blocks (4.4.5 and 4.4.6)

-- The innermost block is behind its instruction, and within it a new one begins with the operands that are there below.
abbrev pub entered : Option Tree → ℕ → Tree → Tree → OpenBlock → List OpenBlock → Frame → Frame
entered again arity body rest b outer f =
    record f { blocks = record { arity = arity; height = length f.operands; rest = body; again = again } ∷ record b { rest = rest } ∷ outer }

-- The block in front of what is left of the innermost one begins; an `if` takes its condition.
abbrev pub began : Tree → OpenBlock → List OpenBlock → Frame → Option Frame
began (block t body rest) b outer f = Some (entered None (arity_of t) body rest b outer f)
began (loop t body rest) b outer f = Some (entered (Some body) 0 body rest b outer f)
began (choice t first second rest) b outer f = elim f.operands [
  | [] ↦ None
  | c ∷ below ↦
      if is_of I32 c then Some (entered None (arity_of t) (if c == 0 then second else first) rest b outer (record f { operands = below })) else None
]
began t b outer f = None

-- The first instruction of what is left of the innermost block.
abbrev pub advanced : Tree → OpenBlock → List OpenBlock → Store → Frame → Next
advanced (plain i rest) b outer s f = acted i s (record f { blocks = record b { rest = rest } ∷ outer })
advanced t b outer s f = kept s (began t b outer f)

-- an instruction that goes on or traps, as each of a valid module does
abbrev pub IsGoing : {A : Type 0} → Out A → Type 0
IsGoing (Goes next) = Unit {0}
IsGoing (Traps t) = Unit {0}
IsGoing Stuck = ⊥

-- what an instruction came to: it went on to this, or trapped, and all is as before
abbrev pub CameTo : {A : Type 0} → Option Trap → Out A → A → A → Type 0
CameTo None out old new = out ≡ Goes new
CameTo (Some t) out old new = (out ≡ Traps t) × (new ≡ old)
