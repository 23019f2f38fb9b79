-- The shortest spelling of a module, WebAssembly Core 1.0, section 5: each number in as few bytes as hold it, each list of
-- locals in as few runs as there are, no section without contents and none of a custom kind.
use Rattle.std.specs.Prelude.{ℕ, zero, suc, ◌+◌, ◌-◌, ◌/◌, ◌%◌, ◌^◌, min, Bool, true, false, List, [], ◌∷◌, ◌++◌, length, map, flat_map, Option, Some, None, is_some, nat_lt, if◌then◌else◌}
use Rattle.mv_syntax.specs.declared.ops.ValType.{ValType}
use Rattle.mv_syntax.specs.declared.ops.ValType.TheVariants.{I32, I64}
use Rattle.mv_syntax.specs.declared.types.FuncType.{FuncType}
use Rattle.mv_syntax.specs.declared.types.Limits.{Limits}
use Rattle.mv_syntax.specs.declared.instr.Instr.{Instr}
use Rattle.mv_syntax.specs.declared.instr.Instr.TheVariants as instr
use Rattle.mv_syntax.specs.declared.module.Import.{Import}
use Rattle.mv_syntax.specs.declared.module.Func.{Func}
use Rattle.mv_syntax.specs.declared.module.Global.{Global}
use Rattle.mv_syntax.specs.declared.module.Export.{Export}
use Rattle.mv_syntax.specs.declared.module.Element.{Element}
use Rattle.mv_syntax.specs.declared.module.Segment.{Segment}
use Rattle.mv_syntax.specs.Sections.{Parts}
use Rattle.mv_syntax.specs.Opcodes.{opcode}
use Rattle.mv_syntax.specs.Types.{same_type}

-- ---- 5.2.2: numbers, in groups of seven bits, the low ones first

-- a number in as few groups as hold it
abbrev pub short_groups : ℕ → ℕ → List ℕ
short_groups zero v = []
short_groups (suc n) v = if nat_lt v 128 then v ∷ [] else (128 + v % 128) ∷ short_groups n (v / 128)

unfoldable pub short_u32 : ℕ → List ℕ
short_u32 v = short_groups 5 v

-- how many numbers of the last group aren't negative
abbrev pub half : ℕ → ℕ
half w = 2 ^ (min w 7 - 1)

-- a number of w bits in as few groups as hold it; a negative one is held as its sum with 2 ^ w
abbrev pub short_signed : ℕ → ℕ → ℕ → List ℕ
short_signed zero w v = []
short_signed (suc n) w v =
    if nat_lt v (half w) then v ∷ [] else
    if nat_lt (v + half w) (2 ^ w) then (128 + v % 128) ∷ short_signed n (w - 7) (v / 128) else
    (v + 128 - 2 ^ w) ∷ []

unfoldable pub short_s32 : ℕ → List ℕ
short_s32 v = short_signed 5 32 v

unfoldable pub short_s64 : ℕ → List ℕ
short_s64 v = short_signed 10 64 v

-- ---- 5.1.3 and 5.2.4: vectors and names

abbrev pub written_vector : {A : Type 0} → (A → List ℕ) → List A → List ℕ
written_vector w items = short_u32 (length items) ++ flat_map w items

-- so many bytes, behind their number
abbrev pub behind_size : List ℕ → List ℕ
behind_size text = short_u32 (length text) ++ text

abbrev pub written_option : {A : Type 0} → (A → List ℕ) → Option A → List ℕ
written_option w None = []
written_option w (Some a) = w a

abbrev pub count_of : {A : Type 0} → Option A → ℕ
count_of None = 0
count_of (Some a) = 1

-- ---- 5.3: types

abbrev pub type_code : ValType → ℕ
type_code I32 = 127
type_code I64 = 126

abbrev pub written_type : ValType → List ℕ
written_type t = type_code t ∷ []

abbrev pub written_func_type : FuncType → List ℕ
written_func_type t = 96 ∷ written_vector written_type t.params ++ short_u32 (count_of t.result) ++ written_option written_type t.result

abbrev pub flag : Bool → ℕ
flag false = 0
flag true = 1

abbrev pub written_limits : Limits → List ℕ
written_limits l = flag (is_some l.max) ∷ short_u32 l.min ++ written_option short_u32 l.max

abbrev pub written_table : Limits → List ℕ
written_table l = 112 ∷ written_limits l

-- ---- 5.4: instructions

abbrev pub block_code : Option ValType → ℕ
block_code None = 64
block_code (Some I32) = 127
block_code (Some I64) = 126

abbrev pub written_block : Option ValType → List ℕ
written_block t = block_code t ∷ []

-- what follows an opcode; a constant of 32 bits is the low half of its value
abbrev pub written_immediates : Instr → List ℕ
written_immediates (instr.Block t) = written_block t
written_immediates (instr.Loop t) = written_block t
written_immediates (instr.If t) = written_block t
written_immediates (instr.Br l) = short_u32 l
written_immediates (instr.BrIf l) = short_u32 l
written_immediates (instr.BrTable ls l) = written_vector short_u32 ls ++ short_u32 l
written_immediates (instr.Call f) = short_u32 f
written_immediates (instr.CallIndirect t) = short_u32 t ++ 0 ∷ []
written_immediates (instr.LocalGet x) = short_u32 x
written_immediates (instr.LocalSet x) = short_u32 x
written_immediates (instr.LocalTee x) = short_u32 x
written_immediates (instr.GlobalGet x) = short_u32 x
written_immediates (instr.GlobalSet x) = short_u32 x
written_immediates (instr.Load t n signed align offset) = short_u32 align ++ short_u32 offset
written_immediates (instr.Store t n align offset) = short_u32 align ++ short_u32 offset
written_immediates instr.MemorySize = 0 ∷ []
written_immediates instr.MemoryGrow = 0 ∷ []
written_immediates (instr.Const I32 v) = short_s32 (v % 2 ^ 32)
written_immediates (instr.Const I64 v) = short_s64 v
written_immediates _ = []

abbrev pub written_instruction : Instr → List ℕ
written_instruction i = opcode i ∷ written_immediates i

-- an expression with its last `end`, which the list of its instructions has
abbrev pub written_code : List Instr → List ℕ
written_code code = flat_map written_instruction code

-- ---- 5.5: what the sections hold

abbrev pub written_import : Import → List ℕ
written_import x = behind_size x.«module» ++ behind_size x.name ++ 0 ∷ short_u32 x.ftype

abbrev pub written_global : Global → List ℕ
written_global g = type_code g.vtype ∷ flag g.mutable ∷ written_code g.init

abbrev pub written_export : Export → List ℕ
written_export x = behind_size x.name ++ x.kind ∷ short_u32 x.index

abbrev pub written_element : Element → List ℕ
written_element x = 0 ∷ written_code x.offset ++ written_vector short_u32 x.funcs

abbrev pub written_segment : Segment → List ℕ
written_segment x = 0 ∷ written_code x.offset ++ behind_size x.bytes

-- so many locals of a type before the runs of those behind them
abbrev pub joined_to : ℕ → ValType → List (ℕ × ValType) → List (ℕ × ValType)
joined_to n t [] = (n, t) ∷ []
joined_to n t (run ∷ runs) = if same_type t run.1 then (n + run.0, t) ∷ runs else (n, t) ∷ run ∷ runs

-- the locals in runs: neighbours of one type are in one run
abbrev pub runs_of : List ValType → List (ℕ × ValType)
runs_of [] = []
runs_of (t ∷ locals) = joined_to 1 t (runs_of locals)

abbrev pub written_run : ℕ × ValType → List ℕ
written_run run = short_u32 run.0 ++ written_type run.1

abbrev pub written_body : Func → List ℕ
written_body f = written_vector written_run (runs_of f.locals) ++ written_code f.code

abbrev pub written_func : Func → List ℕ
written_func f = behind_size (written_body f)

-- ---- 5.5.2: sections

abbrev pub written_section : ℕ → List ℕ → List ℕ
written_section id contents = id ∷ behind_size contents

-- a section of a list, left out where the list is empty
abbrev pub written_list : {A : Type 0} → ℕ → (A → List ℕ) → List A → List ℕ
written_list id w [] = []
written_list id w (x ∷ items) = written_section id (written_vector w (x ∷ items))

-- a section that there is or isn't
abbrev pub written_one : {A : Type 0} → ℕ → (A → List ℕ) → Option A → List ℕ
written_one id w None = []
written_one id w (Some x) = written_section id (w x)

-- ---- 5.5.16: the module

abbrev pub written_preamble : List ℕ
written_preamble = 0 ∷ 97 ∷ 115 ∷ 109 ∷ 1 ∷ 0 ∷ 0 ∷ 0 ∷ []

unfoldable pub written : Parts → List ℕ
written p =
    written_preamble
    ++ written_list 1 written_func_type p.types
    ++ written_list 2 written_import p.imports
    ++ written_list 3 short_u32 (map (λ f. f.ftype) p.funcs)
    ++ written_one 4 (λ t. 1 ∷ written_table t) p.table
    ++ written_one 5 (λ m. 1 ∷ written_limits m) p.memory
    ++ written_list 6 written_global p.globals
    ++ written_list 7 written_export p.exports
    ++ written_one 8 short_u32 p.start
    ++ written_list 9 written_element p.elements
    ++ written_list 10 written_func p.funcs
    ++ written_list 11 written_segment p.segments
