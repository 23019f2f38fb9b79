-- The opcode of an instruction, which its spelling begins with (WebAssembly Core 1.0, 5.4): of each form of Instructions.antt the byte.
use Rattle.std.specs.Prelude.{ℕ, ◌+◌, Bool, if◌then◌else◌, ◌==◌}
use Rattle.mv_syntax.specs.declared.ops.ValType.{ValType}
use Rattle.mv_syntax.specs.declared.ops.ValType.TheVariants.{I32, I64}
use Rattle.mv_syntax.specs.declared.instr.Instr.{Instr}
use Rattle.mv_syntax.specs.declared.instr.Instr.TheVariants as instr
use Rattle.mv_syntax.specs.declared.ops.UnOp.{UnOp}
use Rattle.mv_syntax.specs.declared.ops.UnOp.TheVariants as un
use Rattle.mv_syntax.specs.declared.ops.TestOp.{TestOp}
use Rattle.mv_syntax.specs.declared.ops.TestOp.TheVariants as test
use Rattle.mv_syntax.specs.declared.ops.Compare.{Compare}
use Rattle.mv_syntax.specs.declared.ops.Compare.TheVariants.{Eq, Ne, LtS, LtU, GtS, GtU, LeS, LeU, GeS, GeU}
use Rattle.mv_syntax.specs.declared.ops.Binary.{Binary}
use Rattle.mv_syntax.specs.declared.ops.Binary.TheVariants.{Add, Sub, Mul, DivS, DivU, RemS, RemU, And, Or, Xor, Shl, ShrS, ShrU, Rotl, Rotr}

abbrev pub load_code : ValType → ℕ → Bool → ℕ
load_code I32 n signed = if n == 4 then 40 else if n == 1 then (if signed then 44 else 45) else (if signed then 46 else 47)
load_code I64 n signed = if n == 8 then 41 else if n == 1 then (if signed then 48 else 49) else if n == 2 then (if signed then 50 else 51) else (if signed then 52 else 53)

abbrev pub store_code : ValType → ℕ → ℕ
store_code I32 n = if n == 4 then 54 else if n == 1 then 58 else 59
store_code I64 n = if n == 8 then 55 else if n == 1 then 60 else if n == 2 then 61 else 62

abbrev pub const_code : ValType → ℕ
const_code I32 = 65
const_code I64 = 66

abbrev pub un_code : UnOp → ℕ
un_code un.Clz32 = 103
un_code un.Ctz32 = 104
un_code un.Popcnt32 = 105
un_code un.Clz64 = 121
un_code un.Ctz64 = 122
un_code un.Popcnt64 = 123
un_code un.Wrap = 167
un_code un.ExtendS = 172
un_code un.ExtendU = 173

abbrev pub test_code : TestOp → ℕ
test_code test.Eqz32 = 69
test_code test.Eqz64 = 80

abbrev pub compare_number : Compare → ℕ
compare_number Eq = 0
compare_number Ne = 1
compare_number LtS = 2
compare_number LtU = 3
compare_number GtS = 4
compare_number GtU = 5
compare_number LeS = 6
compare_number LeU = 7
compare_number GeS = 8
compare_number GeU = 9

abbrev pub operation_number : Binary → ℕ
operation_number Add = 0
operation_number Sub = 1
operation_number Mul = 2
operation_number DivS = 3
operation_number DivU = 4
operation_number RemS = 5
operation_number RemU = 6
operation_number And = 7
operation_number Or = 8
operation_number Xor = 9
operation_number Shl = 10
operation_number ShrS = 11
operation_number ShrU = 12
operation_number Rotl = 13
operation_number Rotr = 14

abbrev pub compare_base : ValType → ℕ
compare_base I32 = 70
compare_base I64 = 81

abbrev pub operation_base : ValType → ℕ
operation_base I32 = 106
operation_base I64 = 124

abbrev pub opcode : Instr → ℕ
opcode instr.Unreachable = 0
opcode instr.Nop = 1
opcode (instr.Block t) = 2
opcode (instr.Loop t) = 3
opcode (instr.If t) = 4
opcode instr.Else = 5
opcode instr.End = 11
opcode (instr.Br l) = 12
opcode (instr.BrIf l) = 13
opcode (instr.BrTable ls l) = 14
opcode instr.Return = 15
opcode (instr.Call f) = 16
opcode (instr.CallIndirect t) = 17
opcode instr.Drop = 26
opcode instr.Select = 27
opcode (instr.LocalGet x) = 32
opcode (instr.LocalSet x) = 33
opcode (instr.LocalTee x) = 34
opcode (instr.GlobalGet x) = 35
opcode (instr.GlobalSet x) = 36
opcode (instr.Load t n signed align offset) = load_code t n signed
opcode (instr.Store t n align offset) = store_code t n
opcode instr.MemorySize = 63
opcode instr.MemoryGrow = 64
opcode (instr.Const t v) = const_code t
opcode (instr.Un op) = un_code op
opcode (instr.Test op) = test_code op
opcode (instr.Rel r) = compare_base r.width + compare_number r.op
opcode (instr.Bin r) = operation_base r.width + operation_number r.op
