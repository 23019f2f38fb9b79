-- WebAssembly Core 1.0, 5.5: what the sections of a module hold.
use Rattle.std.specs.Prelude.{ℕ, zero, suc, ◌-◌, ◌++◌, ◌||◌, Bool, true, false, List, [], length, replicate, Result, Ok, Err, ◌==◌, if◌then◌else◌}
use Rattle.mv_syntax.specs.declared.fault.ReadKind.{ReadKind}
use Rattle.mv_syntax.specs.declared.fault.ReadKind.TheVariants.{Float, Kind, LaterFeature, Limit}
use Rattle.mv_syntax.specs.declared.ops.ValType.{ValType}
use Rattle.mv_syntax.specs.declared.types.Limits.{Limits}
use Rattle.mv_syntax.specs.declared.module.Import.{Import}
use Rattle.mv_syntax.specs.declared.module.Func.{Func}
use Rattle.mv_syntax.specs.declared.module.Global.{Global}
use Rattle.mv_syntax.specs.declared.module.Export.{Export}
use Rattle.mv_syntax.specs.declared.module.Element.{Element}
use Rattle.mv_syntax.specs.declared.module.Segment.{Segment}
use Rattle.mv_syntax.specs.Form.{Form}
use Rattle.mv_syntax.specs.Forms.{give, ◌>>=◌, byte, bytes, means, clipped}
use Rattle.mv_syntax.specs.Numbers.{u32, name}
use Rattle.mv_syntax.specs.Types.{vector, up_to, only, val_type, limits}
use Rattle.mv_syntax.specs.Code.{code}

-- 5.5.5: an import of a function
unfoldable pub import_ : Form Import
import_ = do
  m ← name
  n ← name
  _ ← means byte (only 0 Kind)
  t ← u32
  give (record { «module» = m; name = n; ftype = t })

-- 5.3.6: the only type of elements is that of functions
abbrev pub elem_type_of : ℕ → Result ℕ ReadKind
elem_type_of b = if b == 112 then Ok b else if b == 125 || b == 124 then Err Float else Err LaterFeature

-- 5.5.7: a table of functions
unfoldable pub table : Form Limits
table = do
  _ ← means byte elem_type_of
  limits 65536

-- 5.5.8
unfoldable pub memory : Form Limits
memory = limits 1024

abbrev pub is_mutable : ℕ → Result Bool ReadKind
is_mutable b = if b == 0 then Ok false else if b == 1 then Ok true else Err Kind

-- 5.5.9
unfoldable pub global : Form Global
global = do
  t ← val_type
  m ← means byte is_mutable
  c ← code
  give (record { vtype = t; mutable = m; init = c })

-- 5.5.10: of a function, a table, a memory or a global
unfoldable pub export : Form Export
export = do
  n ← name
  k ← means byte (up_to 3 Kind)
  i ← u32
  give (record { name = n; kind = k; index = i })

-- 5.5.12
unfoldable pub element : Form Element
element = do
  _ ← means u32 (only 0 LaterFeature)
  c ← code
  fs ← vector u32
  give (record { offset = c; funcs = fs })

-- 5.5.14
unfoldable pub segment : Form Segment
segment = do
  _ ← means u32 (only 0 LaterFeature)
  c ← code
  n ← u32
  bs ← bytes n
  give (record { offset = c; bytes = bs })

-- 5.5.13: locals in runs of one type; a run, behind the locals before it
unfoldable pub run : List ValType → Form (List ValType)
run before = do
  n ← means u32 (up_to (10000 - length before) Limit)
  t ← val_type
  give (before ++ replicate n t)

unfoldable pub runs : ℕ → List ValType → Form (List ValType)
runs zero before = give before
runs (suc k) before = do
  locals ← run before
  runs k locals

unfoldable pub body : ℕ → Form Func
body t = do
  k ← u32
  ls ← runs k []
  c ← code
  give (record { ftype = t; locals = ls; code = c })

-- a function of this type, behind the size of its body
unfoldable pub func : ℕ → Form Func
func t = do
  n ← u32
  clipped n (body t)
