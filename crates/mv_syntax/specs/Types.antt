-- Types: how many bits a value has, the types of operands and results (WebAssembly Core 1.0, 2.3.1 and 2.4.1), and how
-- types are spelled (5.3).
use Rattle.std.specs.Prelude.{ℕ, ◌&&◌, ◌||◌, Bool, true, false, List, Result, Ok, Err, Option, Some, None, nat_le, ◌==◌, if◌then◌else◌}
use Rattle.std.specs.Cmp.Lexicographic.{pointwise}
use Rattle.mv_syntax.specs.declared.fault.ReadKind.{ReadKind}
use Rattle.mv_syntax.specs.declared.fault.ReadKind.TheVariants.{Float, LaterFeature, Kind, Limit}
use Rattle.mv_syntax.specs.declared.ops.ValType.{ValType}
use Rattle.mv_syntax.specs.declared.ops.ValType.TheVariants.{I32, I64}
use Rattle.mv_syntax.specs.declared.types.FuncType.{FuncType}
use Rattle.mv_syntax.specs.declared.types.Limits.{Limits}
use Rattle.mv_syntax.specs.Form.{Form}
use Rattle.mv_syntax.specs.Forms.{give, ◌>>=◌, byte, means, many, at_most_one}
use Rattle.mv_syntax.specs.Numbers.{u32}
use Rattle.mv_syntax.specs.declared.ops.UnOp.{UnOp}
use Rattle.mv_syntax.specs.declared.ops.UnOp.TheVariants.{Clz32, Ctz32, Popcnt32, Clz64, Ctz64, Popcnt64, Wrap, ExtendS, ExtendU}
use Rattle.mv_syntax.specs.declared.ops.TestOp.{TestOp}
use Rattle.mv_syntax.specs.declared.ops.TestOp.TheVariants.{Eqz32, Eqz64}

-- the number of bits of a value of the type
abbrev pub bit_width : ValType → ℕ
bit_width I32 = 32
bit_width I64 = 64

-- the type of the operand
abbrev pub operand_type : UnOp → ValType
operand_type Clz32 = I32
operand_type Ctz32 = I32
operand_type Popcnt32 = I32
operand_type Clz64 = I64
operand_type Ctz64 = I64
operand_type Popcnt64 = I64
operand_type Wrap = I64
operand_type ExtendS = I32
operand_type ExtendU = I32

-- the type of the result
abbrev pub result_type : UnOp → ValType
result_type Clz32 = I32
result_type Ctz32 = I32
result_type Popcnt32 = I32
result_type Clz64 = I64
result_type Ctz64 = I64
result_type Popcnt64 = I64
result_type Wrap = I32
result_type ExtendS = I64
result_type ExtendU = I64

-- the type of the operand of a test, whose result is an I32
abbrev pub tested_type : TestOp → ValType
tested_type Eqz32 = I32
tested_type Eqz64 = I64

-- whether two types are one (3.2.3 and 4.4.7 compare types so)
abbrev pub same_type : ValType → ValType → Bool
same_type I32 I32 = true
same_type I64 I64 = true
same_type a b = false

abbrev pub same_types : List ValType → List ValType → Bool
same_types = pointwise same_type

abbrev pub same_result : Option ValType → Option ValType → Bool
same_result None None = true
same_result (Some a) (Some b) = same_type a b
same_result a b = false

-- the same parameters and the same result
abbrev pub same_function_type : FuncType → FuncType → Bool
same_function_type a b = same_types a.params b.params && same_result a.result b.result

-- 5.1.3: a count and as many of a form
unfoldable pub vector : {A : Type 0} → Form A → Form (List A)
vector f = do
  n ← u32
  many f n

-- a number that this host limits
abbrev pub up_to : ℕ → ReadKind → ℕ → Result ℕ ReadKind
up_to most kind n = if nat_le n most then Ok n else Err kind

-- a byte that is this one
abbrev pub only : ℕ → ReadKind → ℕ → Result ℕ ReadKind
only this kind b = if b == this then Ok b else Err kind

abbrev pub val_type_of : ℕ → Result ValType ReadKind
val_type_of b =
    if b == 127 then Ok I32 else
    if b == 126 then Ok I64 else
    if b == 125 || b == 124 then Err Float else
    if b == 123 || b == 112 || b == 111 then Err LaterFeature else
    Err Kind

unfoldable pub val_type : Form ValType
val_type = means byte val_type_of

unfoldable pub func_type : Form FuncType
func_type = do
  _ ← means byte (only 96 Kind)
  n ← means u32 (up_to 1000 Limit)
  params ← many val_type n
  m ← means u32 (up_to 1 LaterFeature)
  result ← at_most_one val_type m
  give (record { params = params; result = result })

-- the marks of limits: whether there is a most
abbrev pub limits_mark : ℕ → Result Bool ReadKind
limits_mark b = if b == 0 then Ok false else if b == 1 then Ok true else Err LaterFeature

unfoldable pub limits_from : Bool → ℕ → Form Limits
limits_from false min = give (record { min = min; max = None })
limits_from true min = do
  max ← u32
  give (record { min = min; max = Some max })

-- 5.3.4: limits, the least of which is at most this
unfoldable pub limits : ℕ → Form Limits
limits most = do
  bounded ← means byte limits_mark
  min ← means u32 (up_to most Limit)
  limits_from bounded min
