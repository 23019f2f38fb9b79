-- The names of instructions, and which instruction is looked for under a name (docs/FORMATS.md, "Assembler text"). The
-- instructions are those of WebAssembly Core 1.0 without floating point.
use Rattle.std.specs.Prelude.{ℕ, Bool, true, false, List, [], ◌∷◌, ◌++◌, take, drop, Option, Some, None, if◌then◌else◌, ◌==◌, codes}
use Rattle.std.specs.Option.{option_map}
use Rattle.std.specs.Str.{bytes_eq}
use Rattle.mv_syntax.specs.declared.ops.ValType.{ValType}
use Rattle.mv_syntax.specs.declared.ops.ValType.TheVariants.{I32, I64}
use Rattle.mv_syntax.specs.declared.instr.Instr.{Instr}
use Rattle.mv_syntax.specs.declared.instr.Instr.TheVariants as instr
use Rattle.mv_syntax.specs.declared.ops.UnOp.{UnOp}
use Rattle.mv_syntax.specs.declared.ops.UnOp.TheVariants as un
use Rattle.mv_syntax.specs.declared.ops.TestOp.{TestOp}
use Rattle.mv_syntax.specs.declared.ops.TestOp.TheVariants as test
use Rattle.mv_syntax.specs.declared.ops.Compare.{Compare}
use Rattle.mv_syntax.specs.declared.ops.Compare.TheVariants as compare
use Rattle.mv_syntax.specs.declared.ops.Binary.{Binary}
use Rattle.mv_syntax.specs.declared.ops.Binary.TheVariants as binary

-- ## The names

abbrev pub compare_name : Compare → List ℕ
compare_name compare.Eq = codes "eq"
compare_name compare.Ne = codes "ne"
compare_name compare.LtS = codes "lt_s"
compare_name compare.LtU = codes "lt_u"
compare_name compare.GtS = codes "gt_s"
compare_name compare.GtU = codes "gt_u"
compare_name compare.LeS = codes "le_s"
compare_name compare.LeU = codes "le_u"
compare_name compare.GeS = codes "ge_s"
compare_name compare.GeU = codes "ge_u"

abbrev pub binary_name : Binary → List ℕ
binary_name binary.Add = codes "add"
binary_name binary.Sub = codes "sub"
binary_name binary.Mul = codes "mul"
binary_name binary.DivS = codes "div_s"
binary_name binary.DivU = codes "div_u"
binary_name binary.RemS = codes "rem_s"
binary_name binary.RemU = codes "rem_u"
binary_name binary.And = codes "and"
binary_name binary.Or = codes "or"
binary_name binary.Xor = codes "xor"
binary_name binary.Shl = codes "shl"
binary_name binary.ShrS = codes "shr_s"
binary_name binary.ShrU = codes "shr_u"
binary_name binary.Rotl = codes "rotl"
binary_name binary.Rotr = codes "rotr"

abbrev pub un_name : UnOp → List ℕ
un_name un.Clz32 = codes "i32.clz"
un_name un.Ctz32 = codes "i32.ctz"
un_name un.Popcnt32 = codes "i32.popcnt"
un_name un.Wrap = codes "i32.wrap_i64"
un_name un.Clz64 = codes "i64.clz"
un_name un.Ctz64 = codes "i64.ctz"
un_name un.Popcnt64 = codes "i64.popcnt"
un_name un.ExtendS = codes "i64.extend_i32_s"
un_name un.ExtendU = codes "i64.extend_i32_u"

abbrev pub test_name : TestOp → List ℕ
test_name test.Eqz32 = codes "i32.eqz"
test_name test.Eqz64 = codes "i64.eqz"

abbrev pub prefix : ValType → List ℕ
prefix I32 = codes "i32."
prefix I64 = codes "i64."

-- which of the bits are moved; nothing is said of all
abbrev pub width_name : ValType → ℕ → List ℕ
width_name I32 n = if n == 1 then codes "8" else if n == 2 then codes "16" else []
width_name I64 n = if n == 1 then codes "8" else if n == 2 then codes "16" else if n == 4 then codes "32" else []

abbrev pub is_whole : ValType → ℕ → Bool
is_whole I32 n = n == 4
is_whole I64 n = n == 8

abbrev pub sign_name : Bool → Bool → List ℕ
sign_name true signed = []
sign_name false true = codes "_s"
sign_name false false = codes "_u"

abbrev pub instr_name : Instr → List ℕ
instr_name instr.Unreachable = codes "unreachable"
instr_name instr.Nop = codes "nop"
instr_name (instr.Block result) = codes "block"
instr_name (instr.Loop result) = codes "loop"
instr_name (instr.If result) = codes "if"
instr_name instr.Else = codes "else"
instr_name instr.End = codes "end"
instr_name (instr.Br label) = codes "br"
instr_name (instr.BrIf label) = codes "br_if"
instr_name (instr.BrTable labels last) = codes "br_table"
instr_name instr.Return = codes "return"
instr_name (instr.Call f) = codes "call"
instr_name (instr.CallIndirect t) = codes "call_indirect"
instr_name instr.Drop = codes "drop"
instr_name instr.Select = codes "select"
instr_name (instr.LocalGet x) = codes "local.get"
instr_name (instr.LocalSet x) = codes "local.set"
instr_name (instr.LocalTee x) = codes "local.tee"
instr_name (instr.GlobalGet x) = codes "global.get"
instr_name (instr.GlobalSet x) = codes "global.set"
instr_name (instr.Load t n signed align offset) = prefix t ++ (codes "load" ++ (width_name t n ++ sign_name (is_whole t n) signed))
instr_name (instr.Store t n align offset) = prefix t ++ (codes "store" ++ width_name t n)
instr_name instr.MemorySize = codes "memory.size"
instr_name instr.MemoryGrow = codes "memory.grow"
instr_name (instr.Const t v) = prefix t ++ codes "const"
instr_name (instr.Un op) = un_name op
instr_name (instr.Test op) = test_name op
instr_name (instr.Rel r) = prefix r.width ++ compare_name r.op
instr_name (instr.Bin r) = prefix r.width ++ binary_name r.op

-- ## What is looked for: an instruction whose immediates, if it has any, are still zero

abbrev pub lookup : {A : Type 0} → List ℕ → List (List ℕ × A) → Option A
lookup word [] = None
lookup word (row ∷ rows) = if bytes_eq word row.0 then Some row.1 else lookup word rows

abbrev pub compare_names : List (List ℕ × Compare)
compare_names =
    (codes "eq", compare.Eq) ∷
    (codes "ne", compare.Ne) ∷
    (codes "lt_s", compare.LtS) ∷
    (codes "lt_u", compare.LtU) ∷
    (codes "gt_s", compare.GtS) ∷
    (codes "gt_u", compare.GtU) ∷
    (codes "le_s", compare.LeS) ∷
    (codes "le_u", compare.LeU) ∷
    (codes "ge_s", compare.GeS) ∷
    (codes "ge_u", compare.GeU) ∷
    []

abbrev pub binary_names : List (List ℕ × Binary)
binary_names =
    (codes "add", binary.Add) ∷
    (codes "sub", binary.Sub) ∷
    (codes "mul", binary.Mul) ∷
    (codes "div_s", binary.DivS) ∷
    (codes "div_u", binary.DivU) ∷
    (codes "rem_s", binary.RemS) ∷
    (codes "rem_u", binary.RemU) ∷
    (codes "and", binary.And) ∷
    (codes "or", binary.Or) ∷
    (codes "xor", binary.Xor) ∷
    (codes "shl", binary.Shl) ∷
    (codes "shr_s", binary.ShrS) ∷
    (codes "shr_u", binary.ShrU) ∷
    (codes "rotl", binary.Rotl) ∷
    (codes "rotr", binary.Rotr) ∷
    []

abbrev pub unary_names : ValType → List (List ℕ × Instr)
unary_names I32 =
    (codes "clz", (instr.Un un.Clz32)) ∷
    (codes "ctz", (instr.Un un.Ctz32)) ∷
    (codes "popcnt", (instr.Un un.Popcnt32)) ∷
    (codes "wrap_i64", (instr.Un un.Wrap)) ∷
    (codes "eqz", (instr.Test test.Eqz32)) ∷
    []
unary_names I64 =
    (codes "clz", (instr.Un un.Clz64)) ∷
    (codes "ctz", (instr.Un un.Ctz64)) ∷
    (codes "popcnt", (instr.Un un.Popcnt64)) ∷
    (codes "extend_i32_s", (instr.Un un.ExtendS)) ∷
    (codes "extend_i32_u", (instr.Un un.ExtendU)) ∷
    (codes "eqz", (instr.Test test.Eqz64)) ∷
    []

-- constants, loads and stores
abbrev pub access_names : ValType → List (List ℕ × Instr)
access_names I32 =
    (codes "const", (instr.Const I32 0)) ∷
    (codes "load", (instr.Load I32 4 false 0 0)) ∷
    (codes "load8_s", (instr.Load I32 1 true 0 0)) ∷
    (codes "load8_u", (instr.Load I32 1 false 0 0)) ∷
    (codes "load16_s", (instr.Load I32 2 true 0 0)) ∷
    (codes "load16_u", (instr.Load I32 2 false 0 0)) ∷
    (codes "store", (instr.Store I32 4 0 0)) ∷
    (codes "store8", (instr.Store I32 1 0 0)) ∷
    (codes "store16", (instr.Store I32 2 0 0)) ∷
    []
access_names I64 =
    (codes "const", (instr.Const I64 0)) ∷
    (codes "load", (instr.Load I64 8 false 0 0)) ∷
    (codes "load8_s", (instr.Load I64 1 true 0 0)) ∷
    (codes "load8_u", (instr.Load I64 1 false 0 0)) ∷
    (codes "load16_s", (instr.Load I64 2 true 0 0)) ∷
    (codes "load16_u", (instr.Load I64 2 false 0 0)) ∷
    (codes "load32_s", (instr.Load I64 4 true 0 0)) ∷
    (codes "load32_u", (instr.Load I64 4 false 0 0)) ∷
    (codes "store", (instr.Store I64 8 0 0)) ∷
    (codes "store8", (instr.Store I64 1 0 0)) ∷
    (codes "store16", (instr.Store I64 2 0 0)) ∷
    (codes "store32", (instr.Store I64 4 0 0)) ∷
    []

-- names with no type before them
abbrev pub plain_names : List (List ℕ × Instr)
plain_names =
    (codes "unreachable", instr.Unreachable) ∷
    (codes "nop", instr.Nop) ∷
    (codes "block", (instr.Block None)) ∷
    (codes "loop", (instr.Loop None)) ∷
    (codes "if", (instr.If None)) ∷
    (codes "else", instr.Else) ∷
    (codes "end", instr.End) ∷
    (codes "br", (instr.Br 0)) ∷
    (codes "br_if", (instr.BrIf 0)) ∷
    (codes "br_table", (instr.BrTable [] 0)) ∷
    (codes "return", instr.Return) ∷
    (codes "call", (instr.Call 0)) ∷
    (codes "call_indirect", (instr.CallIndirect 0)) ∷
    (codes "drop", instr.Drop) ∷
    (codes "select", instr.Select) ∷
    (codes "local.get", (instr.LocalGet 0)) ∷
    (codes "local.set", (instr.LocalSet 0)) ∷
    (codes "local.tee", (instr.LocalTee 0)) ∷
    (codes "global.get", (instr.GlobalGet 0)) ∷
    (codes "global.set", (instr.GlobalSet 0)) ∷
    (codes "memory.size", instr.MemorySize) ∷
    (codes "memory.grow", instr.MemoryGrow) ∷
    []

abbrev pub or_else : {A : Type 0} → Option A → Option A → Option A
or_else (Some a) other = Some a
or_else None other = other

abbrev pub binary_of : ValType → Binary → Instr
binary_of t op = instr.Bin (record { width = t; op = op })

abbrev pub compare_of : ValType → Compare → Instr
compare_of t op = instr.Rel (record { width = t; op = op })

-- behind the prefix of its type
abbrev pub typed_named : ValType → List ℕ → Option Instr
typed_named t word =
    or_else (lookup word (access_names t)) (or_else (lookup word (unary_names t)) (or_else (option_map (binary_of t) (lookup word binary_names)) (option_map (compare_of t) (lookup word compare_names))))

abbrev pub instr_named : List ℕ → Option Instr
instr_named word =
    if bytes_eq (take 4 word) (prefix I32) then typed_named I32 (drop 4 word)
    else if bytes_eq (take 4 word) (prefix I64) then typed_named I64 (drop 4 word)
    else lookup word plain_names
