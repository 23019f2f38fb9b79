-- WebAssembly Core 1.0, 5.4: instructions.
use Rattle.std.specs.Prelude.{ℕ, ◌-◌, ◌||◌, ◌&&◌, Bool, true, false, List, [], ◌∷◌, Result, Ok, Err, Option, Some, None, nat_le, ◌==◌, if◌then◌else◌, slice_get}
use Rattle.std.specs.Option.{option_map, ok_or}
use Rattle.mv_syntax.specs.declared.fault.ReadKind.{ReadKind}
use Rattle.mv_syntax.specs.declared.fault.ReadKind.TheVariants.{Float, LaterFeature}
use Rattle.mv_syntax.specs.declared.ops.ValType.{ValType}
use Rattle.mv_syntax.specs.declared.ops.ValType.TheVariants.{I32, I64}
use Rattle.mv_syntax.specs.declared.instr.Instr.{Instr}
use Rattle.mv_syntax.specs.declared.instr.Instr.TheVariants as instr
use Rattle.mv_syntax.specs.declared.ops.UnOp.TheVariants as un
use Rattle.mv_syntax.specs.declared.ops.TestOp.TheVariants as test
use Rattle.mv_syntax.specs.declared.ops.Compare.{Compare}
use Rattle.mv_syntax.specs.declared.ops.Compare.TheVariants.{Eq, Ne, LtS, LtU, GtS, GtU, LeS, LeU, GeS, GeU}
use Rattle.mv_syntax.specs.declared.ops.Binary.{Binary}
use Rattle.mv_syntax.specs.declared.ops.Binary.TheVariants.{Add, Sub, Mul, DivS, DivU, RemS, RemU, And, Or, Xor, Shl, ShrS, ShrU, Rotl, Rotr}
use Rattle.mv_syntax.specs.Form.{Form}
use Rattle.mv_syntax.specs.Forms.{give, ◌>>=◌, byte, means}
use Rattle.mv_syntax.specs.Numbers.{u32, s32, s64}
use Rattle.mv_syntax.specs.Types.{vector, only}

-- 5.4.1: no result, or a type; nothing else began a block in 1.0
abbrev pub block_type_of : ℕ → Result (Option ValType) ReadKind
block_type_of b =
    if b == 64 then Ok None else
    if b == 127 then Ok (Some I32) else
    if b == 126 then Ok (Some I64) else
    if b == 125 || b == 124 then Err Float else
    Err LaterFeature

unfoldable pub block_type : Form (Option ValType)
block_type = means byte block_type_of

-- what follows an opcode
pub data Shape : Type 0 where
  Alone : Instr → Shape
  Blocks : (Option ValType → Instr) → Shape
  Indexed : (ℕ → Instr) → Shape
  Labels : Shape
  Indirect : Shape
  Access : (ℕ → ℕ → Instr) → Shape
  Reserved : Instr → Shape
  Const32 : Shape
  Const64 : Shape

abbrev pub zero_byte : Form ℕ
zero_byte = means byte (only 0 LaterFeature)

unfoldable pub immediates : Shape → Form Instr
immediates (Alone i) = give i
immediates (Blocks make) = do
  t ← block_type
  give (make t)
immediates (Indexed make) = do
  n ← u32
  give (make n)
immediates Labels = do
  labels ← vector u32
  last ← u32
  give (instr.BrTable labels last)
immediates Indirect = do
  n ← u32
  _ ← zero_byte
  give (instr.CallIndirect n)
immediates (Access make) = do
  align ← u32
  offset ← u32
  give (make align offset)
immediates (Reserved i) = do
  _ ← zero_byte
  give i
immediates Const32 = do
  v ← s32
  give (instr.Const I32 v)
immediates Const64 = do
  v ← s64
  give (instr.Const I64 v)

-- 5.4.5: the ten comparisons and the fifteen operations of a width, in the order of their opcodes
abbrev pub comparisons : List Compare
comparisons = Eq ∷ Ne ∷ LtS ∷ LtU ∷ GtS ∷ GtU ∷ LeS ∷ LeU ∷ GeS ∷ GeU ∷ []

abbrev pub operations : List Binary
operations = Add ∷ Sub ∷ Mul ∷ DivS ∷ DivU ∷ RemS ∷ RemU ∷ And ∷ Or ∷ Xor ∷ Shl ∷ ShrS ∷ ShrU ∷ Rotl ∷ Rotr ∷ []

abbrev pub compares : ValType → ℕ → Option Instr
compares width n = option_map (λ op. instr.Rel (record { width = width; op = op })) (slice_get comparisons n)

abbrev pub computes : ValType → ℕ → Option Instr
computes width n = option_map (λ op. instr.Bin (record { width = width; op = op })) (slice_get operations n)

-- the operators, which have no immediates
unfoldable pub operator_of : ℕ → Option Instr
operator_of b =
    if b == 69 then Some (instr.Test test.Eqz32) else
    if nat_le 70 b && nat_le b 79 then compares I32 (b - 70) else
    if b == 80 then Some (instr.Test test.Eqz64) else
    if nat_le 81 b && nat_le b 90 then compares I64 (b - 81) else
    if b == 103 then Some (instr.Un un.Clz32) else
    if b == 104 then Some (instr.Un un.Ctz32) else
    if b == 105 then Some (instr.Un un.Popcnt32) else
    if nat_le 106 b && nat_le b 120 then computes I32 (b - 106) else
    if b == 121 then Some (instr.Un un.Clz64) else
    if b == 122 then Some (instr.Un un.Ctz64) else
    if b == 123 then Some (instr.Un un.Popcnt64) else
    if nat_le 124 b && nat_le b 138 then computes I64 (b - 124) else
    if b == 167 then Some (instr.Un un.Wrap) else
    if b == 172 then Some (instr.Un un.ExtendS) else
    if b == 173 then Some (instr.Un un.ExtendU) else
    None

unfoldable pub is_float : ℕ → Bool
is_float b =
    b == 42 || b == 43 || b == 56 || b == 57 || b == 67 || b == 68
    || (nat_le 91 b && nat_le b 102) || (nat_le 139 b && nat_le b 166) || (nat_le 168 b && nat_le b 171) || (nat_le 174 b && nat_le b 191)

-- the shape that a table has for an opcode
abbrev pub shape_at : ℕ → List (ℕ × Shape) → Option Shape
shape_at b [] = None
shape_at b (row ∷ rows) = if b == row.0 then Some row.1 else shape_at b rows

-- the loads and the stores
abbrev pub accesses : List (ℕ × Shape)
accesses =
    (40, Access (instr.Load I32 4 false)) ∷
    (41, Access (instr.Load I64 8 false)) ∷
    (44, Access (instr.Load I32 1 true)) ∷
    (45, Access (instr.Load I32 1 false)) ∷
    (46, Access (instr.Load I32 2 true)) ∷
    (47, Access (instr.Load I32 2 false)) ∷
    (48, Access (instr.Load I64 1 true)) ∷
    (49, Access (instr.Load I64 1 false)) ∷
    (50, Access (instr.Load I64 2 true)) ∷
    (51, Access (instr.Load I64 2 false)) ∷
    (52, Access (instr.Load I64 4 true)) ∷
    (53, Access (instr.Load I64 4 false)) ∷
    (54, Access (instr.Store I32 4)) ∷
    (55, Access (instr.Store I64 8)) ∷
    (58, Access (instr.Store I32 1)) ∷
    (59, Access (instr.Store I32 2)) ∷
    (60, Access (instr.Store I64 1)) ∷
    (61, Access (instr.Store I64 2)) ∷
    (62, Access (instr.Store I64 4)) ∷
    []

unfoldable pub access_of : ℕ → Option Shape
access_of b = shape_at b accesses

-- all others
abbrev pub others : List (ℕ × Shape)
others =
    (0, Alone instr.Unreachable) ∷
    (1, Alone instr.Nop) ∷
    (2, Blocks instr.Block) ∷
    (3, Blocks instr.Loop) ∷
    (4, Blocks instr.If) ∷
    (5, Alone instr.Else) ∷
    (11, Alone instr.End) ∷
    (12, Indexed instr.Br) ∷
    (13, Indexed instr.BrIf) ∷
    (14, Labels) ∷
    (15, Alone instr.Return) ∷
    (16, Indexed instr.Call) ∷
    (17, Indirect) ∷
    (26, Alone instr.Drop) ∷
    (27, Alone instr.Select) ∷
    (32, Indexed instr.LocalGet) ∷
    (33, Indexed instr.LocalSet) ∷
    (34, Indexed instr.LocalTee) ∷
    (35, Indexed instr.GlobalGet) ∷
    (36, Indexed instr.GlobalSet) ∷
    (63, Reserved instr.MemorySize) ∷
    (64, Reserved instr.MemoryGrow) ∷
    (65, Const32) ∷
    (66, Const64) ∷
    []

unfoldable pub other_of : ℕ → Option Shape
other_of b = shape_at b others

-- the first of two that there is
abbrev pub or_else : {A : Type 0} → Option A → Option A → Option A
or_else (Some a) other = Some a
or_else None other = other

abbrev pub shape_of : ℕ → Result Shape ReadKind
shape_of b = ok_or (or_else (option_map Alone (operator_of b)) (or_else (access_of b) (other_of b))) (if is_float b then Float else LaterFeature)

-- One instruction; `else` and `end`, which the standard has in the forms of blocks, stand for themselves.
unfoldable pub instruction : Form Instr
instruction = do
  shape ← means byte shape_of
  immediates shape
