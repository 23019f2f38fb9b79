-- Small bodies, run by the definitions.
use Rattle.std.proofs.Common.{◌≡◌, ℕ, List, [], ◌∷◌, ◌++◌, replicate, Some, None, refl}
use Rattle.std.specs.Prelude.{true}
use Rattle.mv_calls.specs.declared.trap.Trap.TheVariants as trap
use Rattle.mv_syntax.specs.declared.ops.ValType.TheVariants.{I32, I64}
use Rattle.mv_syntax.specs.declared.ops.Binary.TheVariants as binary
use Rattle.mv_syntax.specs.declared.types.FuncType.{FuncType}
use Rattle.mv_syntax.specs.declared.instr.Instr.TheVariants.{Unreachable, Nop, Br, BrIf, BrTable, Return, Call, CallIndirect, Select, LocalGet, LocalSet, LocalTee, GlobalGet, GlobalSet, Load, MemoryGrow, Const, Bin}
use Rattle.mv_syntax.specs.Tree.{Tree, done, plain, block, loop, choice}
use Rattle.mv_memory.specs.Bytes.{little_endian}
use Rattle.mv_arith.specs.Integers.{binary_result}
use Rattle.mv_execution.specs.Config.{Function, Program, Store, Frame, Config}
use Rattle.mv_execution.specs.Rows.{Goes, acted}
use Rattle.mv_execution.specs.Run.{run, entered, answered, arguments, Stop, Import, Ended, Trapped, Fuel, IsStuck}

-- a type from i32 to i32, and one without parameters
abbrev one_to_one : FuncType
one_to_one = record { params = I32 ∷ []; result = Some I32 }

abbrev to_one : FuncType
to_one = record { params = []; result = Some I32 }

-- the functions of the examples: an imported one, one that subtracts, and the body itself with two locals
abbrev minus : Function
minus = record { ftype = record { params = I32 ∷ I32 ∷ []; result = Some I32 }; body = Some (record { locals = 0; tree = plain (LocalGet 0) (plain (LocalGet 1) (plain (Bin (record { width = I32; op = binary.Sub })) (block None (plain Return done) (plain Unreachable done)))) }) }

abbrev program : Tree → Program
program t = record { types = one_to_one ∷ to_one ∷ []; functions = record { ftype = one_to_one; body = None } ∷ minus ∷ record { ftype = to_one; body = Some (record { locals = 2; tree = t }) } ∷ [] }

-- an empty memory, one global, a table of three entries of which the last is empty
abbrev start : Config
start = record { store = record { memory = record { bytes = []; max = Some 0; owned = [] }; globals = 5 ∷ []; table = Some 0 ∷ Some 1 ∷ None ∷ [] }; frames = []; waiting = None; given = []; gap = 0 }

-- how the body stops, and the gap then
abbrev pub outcome : Tree → ℕ → ℕ × Stop
outcome t fuel = let r = run (program t) fuel (entered (program t) 2 start) in (r.0.gap, r.1)

abbrev i32 : ℕ → Tree → Tree
i32 v rest = plain (Const I32 v) rest

abbrev add : Tree → Tree
add rest = plain (Bin (record { width = I32; op = binary.Add })) rest

abbrev down : Tree
down = i32 3 (plain (LocalSet 0) (loop None (plain (LocalGet 0) (i32 4294967295 (add (plain (LocalTee 0) (plain (BrIf 0) done))))) (plain (LocalGet 0) done)))

-- a loop that counts a local down from 3: three turns of five instructions
count_down : outcome down 100 ≡ (19, Ended (0 ∷ []))
unfolding binary_result
count_down = refl

-- with exactly enough fuel, and with less
count_down_exactly : outcome down 19 ≡ (19, Ended (0 ∷ []))
unfolding binary_result
count_down_exactly = refl

count_down_in_part : outcome down 18 ≡ (18, Fuel)
unfolding binary_result
count_down_in_part = refl

-- a branch out of two blocks carries its operand and leaves the others
branch_out : outcome (i32 7 (block (Some I32) (i32 8 (block None (i32 9 (plain (Br 1) done)) (plain Unreachable done))) (add done))) 100 ≡ (7, Ended (16 ∷ []))
unfolding binary_result
branch_out = refl

-- the second label, and the last one for a number past the labels
branch_by_table : outcome (block None (block None (i32 1 (plain (BrTable (0 ∷ 1 ∷ []) 0) done)) (i32 4 (plain Return done))) (i32 5 done)) 100 ≡ (5, Ended (5 ∷ []))
branch_by_table = refl

branch_by_last : outcome (block None (block None (i32 2 (plain (BrTable (0 ∷ 1 ∷ []) 0) done)) (i32 4 (plain Return done))) (i32 5 done)) 100 ≡ (6, Ended (4 ∷ []))
branch_by_last = refl

-- a condition that is zero leads to the other list, and selects the second of two
other_list : outcome (i32 0 (choice (Some I32) (i32 1 done) (i32 2 done) done)) 100 ≡ (3, Ended (2 ∷ []))
other_list = refl

select_first : outcome (i32 1 (i32 2 (i32 3 (plain Select done)))) 100 ≡ (4, Ended (1 ∷ []))
select_first = refl

select_second : outcome (i32 1 (i32 2 (i32 0 (plain Select done)))) 100 ≡ (4, Ended (2 ∷ []))
select_second = refl

-- a call: the first argument is the first local, and a return out of a block gives the result
call_return : outcome (i32 5 (i32 3 (plain (Call 1) done))) 100 ≡ (8, Ended (2 ∷ []))
unfolding binary_result
call_return = refl

-- a call of an imported function stops, and its result takes the place of its argument
abbrev asking : Config × Stop
asking = run (program (i32 8 (i32 7 (plain (Call 0) (add done))))) 100 (entered (program (i32 8 (i32 7 (plain (Call 0) (add done))))) 2 start)

import_stops : asking.1 ≡ Import 0
import_stops = refl

import_counts : asking.0.gap ≡ 3
import_counts = refl

import_arguments : arguments (program done) asking.0 ≡ 7 ∷ []
import_arguments = refl

import_answered : (run (program done) 1 (answered (program done) (4 ∷ []) asking.0)).1 ≡ Ended (12 ∷ [])
unfolding binary_result
import_answered = refl

-- an imported function that is entered stops at once, and what it is answered is what the run gives
import_entered : (run (program done) 0 (answered (program done) (4 ∷ []) (run (program done) 0 (entered (program done) 0 start)).0)).1 ≡ Ended (4 ∷ [])
import_entered = refl

-- through the table: a function of the type, one of another type, an empty entry, no entry
indirect_of_type : outcome (i32 6 (i32 0 (plain (CallIndirect 0) done))) 100 ≡ (3, Import 0)
indirect_of_type = refl

indirect_of_another_type : outcome (i32 6 (i32 1 (plain (CallIndirect 0) done))) 100 ≡ (3, Trapped trap.IndirectType)
indirect_of_another_type = refl

indirect_at_empty : outcome (i32 6 (i32 2 (plain (CallIndirect 0) done))) 100 ≡ (3, Trapped trap.EmptyElement)
indirect_at_empty = refl

indirect_outside : outcome (i32 6 (i32 3 (plain (CallIndirect 0) done))) 100 ≡ (3, Trapped trap.TableIndex)
indirect_outside = refl

-- a division by zero, and the least number by -1
abbrev div : Tree → Tree
div rest = plain (Bin (record { width = I32; op = binary.DivS })) rest

division_by_zero : outcome (i32 7 (i32 0 (div done))) 100 ≡ (3, Trapped trap.DivideByZero)
unfolding binary_result
division_by_zero = refl

least_by_minus_one : outcome (i32 2147483648 (i32 4294967295 (div done))) 100 ≡ (3, Trapped trap.Overflow)
unfolding binary_result
least_by_minus_one = refl

-- a memory of no pages that may not grow: -1, and no byte in bounds
growth_refused : outcome (i32 1 (plain MemoryGrow done)) 100 ≡ (2, Ended (4294967295 ∷ []))
growth_refused = refl

load_out_of_bounds : outcome (i32 0 (plain (Load I32 1 true 0 0) done)) 100 ≡ (2, Trapped trap.Bounds)
load_out_of_bounds = refl

-- a byte, read as a signed number
abbrev one_byte : Store
one_byte = record { memory = record { bytes = 254 ∷ []; max = Some 0; owned = [] }; globals = []; table = [] }

abbrev frame_of : List ℕ → Frame
frame_of operands = record { results = 0; locals = []; operands = operands; blocks = [] }

load_signed : acted (Load I32 1 true 0 0) one_byte (frame_of (0 ∷ [])) ≡ Goes (one_byte, frame_of (4294967294 ∷ []))
unfolding little_endian
load_signed = refl

-- globals
global_kept : outcome (i32 9 (plain (GlobalSet 0) (plain (GlobalGet 0) done))) 100 ≡ (3, Ended (9 ∷ []))
global_kept = refl

-- at the limit of the gap no instruction begins, unless the fuel is used up too; `end` doesn't count
abbrev near : ℕ → ℕ → ℕ × Stop
near gap fuel = let r = run (program (block None (plain Nop done) done)) fuel (record (entered (program (block None (plain Nop done) done)) 2 start) { gap = gap }) in (r.0.gap, r.1)

last_instruction_of_the_gap : near 49999998 5 ≡ (50000000, Ended [])
last_instruction_of_the_gap = refl

gap_spent : near 49999999 5 ≡ (50000000, Trapped trap.Spent)
gap_spent = refl

fuel_before_spent : near 49999999 1 ≡ (50000000, Fuel)
fuel_before_spent = refl

-- with so many calls below the body's
abbrev over : ℕ → Tree → ℕ × Stop
over calls t = let c = entered (program t) 2 start in let r = run (program t) 100 (record c { frames = c.frames ++ replicate calls (frame_of []) }) in (r.0.gap, r.1)

-- a call where 1,024 are open, and where one less is
call_at_the_limit : over 1023 (i32 5 (i32 3 (plain (Call 1) done))) ≡ (3, Trapped trap.Frames)
call_at_the_limit = refl

call_under_the_limit : over 1022 (i32 5 (i32 3 (plain (Call 1) done))) ≡ (8, Ended [])
unfolding binary_result
call_under_the_limit = refl

-- an operand of another type is stuck
of_another_type : outcome (plain (Const I64 4294967296) (i32 1 (add done))) 100 ≡ (2, IsStuck)
of_another_type = refl
