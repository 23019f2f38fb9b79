-- How many bytes a writer takes at most for each part of a module.
use Rattle.std.proofs.Common.{ℕ, zero, suc, ◌+◌, ◌*◌, ◌-◌, ◌/◌, ◌%◌, ◌^◌, ◌≤◌, Bool, true, false, cond, ltb, List, [], ◌∷◌, ◌++◌, length, Option, Some, None, arith}
use Rattle.std.specs.Prelude.{flat_map}
use Rattle.std.proofs.lemmas.List.{length-append}
use Rattle.mv_syntax.specs.declared.ops.ValType.{ValType}
use Rattle.mv_syntax.specs.declared.ops.ValType.TheVariants.{I32, I64}
use Rattle.mv_syntax.specs.declared.types.FuncType.{FuncType}
use Rattle.mv_syntax.specs.declared.instr.Instr.{Instr}
use Rattle.mv_syntax.specs.declared.instr.Instr.TheVariants as instr
use Rattle.mv_syntax.specs.declared.module.Import.{Import}
use Rattle.mv_syntax.specs.declared.module.Func.{Func}
use Rattle.mv_syntax.specs.declared.module.Global.{Global}
use Rattle.mv_syntax.specs.declared.module.Export.{Export}
use Rattle.mv_syntax.specs.declared.module.Element.{Element}
use Rattle.mv_syntax.specs.declared.module.Segment.{Segment}
use Rattle.mv_syntax.specs.Types.{same_type}
use Rattle.mv_writer.specs.Written.{short_u32, half, short_signed, short_s32, short_s64, written_vector, behind_size, written_option, count_of, written_type, written_func_type, written_instruction, written_code, written_import, written_global, written_export, written_element, written_segment, joined_to, runs_of, written_run, written_body, written_func}
use Rattle.mv_writer.proofs.ShortForms.{u32_few}

-- ## Numbers

signed_at : (n w v : ℕ) (rest : List ℕ) (s t : Bool) → length rest ≤ n → length (cond s (v ∷ []) (cond t ((128 + v % 128) ∷ rest) ((v + 128 - 2 ^ w) ∷ []))) ≤ suc n
signed_at n w v rest true t le = omega arith
signed_at n w v rest false true le = omega arith
signed_at n w v rest false false le = omega arith

signed_few : (n w v : ℕ) → length (short_signed n w v) ≤ n
signed_few zero w v = omega arith
signed_few (suc n) w v = signed_at n w v (short_signed n (w - 7) (v / 128)) (ltb v (half w)) (ltb (v + half w) (2 ^ w)) (signed_few n (w - 7) (v / 128))

s32_few : (v : ℕ) → length (short_s32 v) ≤ 10
unfolding short_s32
s32_few v = let h : length (short_signed 5 32 v) ≤ 5 = signed_few 5 32 v in omega (arith, h)

s64_few : (v : ℕ) → length (short_s64 v) ≤ 10
unfolding short_s64
s64_few v = signed_few 10 64 v

pub numbers_few : (xs : List ℕ) → length (flat_map short_u32 xs) ≤ 5 * length xs
numbers_few [] = omega arith
numbers_few (x ∷ xs) = omega (arith, length-append (short_u32 x) (flat_map short_u32 xs), u32_few x, numbers_few xs)

sized_few : (t : List ℕ) → length (behind_size t) ≤ 5 + length t
sized_few t = omega (arith, length-append (short_u32 (length t)) t, u32_few (length t))

-- ## Code

abbrev pub label_count : Instr → ℕ
label_count (instr.BrTable ls l) = length ls
label_count i = 0

const_few : (t : ValType) (v : ℕ) → length (written_instruction (instr.Const t v)) ≤ 20
const_few I32 v = omega (arith, s32_few (v % 2 ^ 32))
const_few I64 v = omega (arith, s64_few v)

instr_few : (i : Instr) → length (written_instruction i) ≤ 20 + 5 * label_count i
instr_few instr.Unreachable = omega arith
instr_few instr.Nop = omega arith
instr_few instr.Else = omega arith
instr_few instr.End = omega arith
instr_few instr.Return = omega arith
instr_few instr.Drop = omega arith
instr_few instr.Select = omega arith
instr_few (instr.Block t) = omega arith
instr_few (instr.Loop t) = omega arith
instr_few (instr.If t) = omega arith
instr_few (instr.Br x) = omega (arith, u32_few x)
instr_few (instr.BrIf x) = omega (arith, u32_few x)
instr_few (instr.Call x) = omega (arith, u32_few x)
instr_few (instr.LocalGet x) = omega (arith, u32_few x)
instr_few (instr.LocalSet x) = omega (arith, u32_few x)
instr_few (instr.LocalTee x) = omega (arith, u32_few x)
instr_few (instr.GlobalGet x) = omega (arith, u32_few x)
instr_few (instr.GlobalSet x) = omega (arith, u32_few x)
instr_few (instr.BrTable ls l) = omega (arith, length-append (written_vector short_u32 ls) (short_u32 l), length-append (short_u32 (length ls)) (flat_map short_u32 ls), u32_few (length ls), u32_few l, numbers_few ls)
instr_few (instr.CallIndirect t) = omega (arith, length-append (short_u32 t) (0 ∷ []), u32_few t)
instr_few (instr.Load t n signed a o) = omega (arith, length-append (short_u32 a) (short_u32 o), u32_few a, u32_few o)
instr_few (instr.Store t n a o) = omega (arith, length-append (short_u32 a) (short_u32 o), u32_few a, u32_few o)
instr_few instr.MemorySize = omega arith
instr_few instr.MemoryGrow = omega arith
instr_few (instr.Const t v) = const_few t v
instr_few (instr.Un op) = omega arith
instr_few (instr.Test op) = omega arith
instr_few (instr.Rel r) = omega arith
instr_few (instr.Bin r) = omega arith

abbrev pub code_cost : List Instr → ℕ
code_cost [] = 0
code_cost (i ∷ code) = 20 + 5 * label_count i + code_cost code

code_few : (c : List Instr) → length (written_code c) ≤ code_cost c
code_few [] = omega arith
code_few (i ∷ c) = omega (arith, length-append (written_instruction i) (written_code c), instr_few i, code_few c)

-- ## Parts

types_few : (ts : List ValType) → length (flat_map written_type ts) ≤ length ts
types_few [] = omega arith
types_few (t ∷ ts) = omega (arith, length-append (written_type t) (flat_map written_type ts), types_few ts)

result_few : (r : Option ValType) → length (written_option written_type r) ≤ 1
result_few None = omega arith
result_few (Some t) = omega arith

pub signature_few : (t : FuncType) → length (written_func_type t) ≤ 20 + length t.params
signature_few t = omega (
  arith,
  length-append (written_vector written_type t.params ++ short_u32 (count_of t.result)) (written_option written_type t.result),
  length-append (written_vector written_type t.params) (short_u32 (count_of t.result)),
  length-append (short_u32 (length t.params)) (flat_map written_type t.params),
  u32_few (length t.params),
  u32_few (count_of t.result),
  types_few t.params,
  result_few t.result,
)

pub import_few : (i : Import) → length (written_import i) ≤ 20 + (length i.«module» + length i.name)
import_few i = omega (
  arith,
  length-append (behind_size i.«module» ++ behind_size i.name) (0 ∷ short_u32 i.ftype),
  length-append (behind_size i.«module») (behind_size i.name),
  sized_few i.«module»,
  sized_few i.name,
  u32_few i.ftype,
)

pub export_few : (x : Export) → length (written_export x) ≤ 20 + length x.name
export_few x = omega (arith, length-append (behind_size x.name) (x.kind ∷ short_u32 x.index), sized_few x.name, u32_few x.index)

pub global_few : (g : Global) → length (written_global g) ≤ 20 + code_cost g.init
global_few g = omega (arith, code_few g.init)

pub element_few : (e : Element) → length (written_element e) ≤ 20 + (code_cost e.offset + 5 * length e.funcs)
element_few e = omega (
  arith,
  length-append (written_code e.offset) (written_vector short_u32 e.funcs),
  length-append (short_u32 (length e.funcs)) (flat_map short_u32 e.funcs),
  u32_few (length e.funcs),
  numbers_few e.funcs,
  code_few e.offset,
)

pub segment_few : (s : Segment) → length (written_segment s) ≤ 20 + (code_cost s.offset + length s.bytes)
segment_few s = omega (arith, length-append (written_code s.offset) (behind_size s.bytes), sized_few s.bytes, code_few s.offset)

-- ## Functions

run_few : (n : ℕ) (t : ValType) → length (written_run (n, t)) ≤ 6
run_few n t = omega (arith, length-append (short_u32 n) (written_type t), u32_few n)

joined_few : (n : ℕ) (t : ValType) (runs : List (ℕ × ValType)) → length (flat_map written_run (joined_to n t runs)) ≤ 6 + length (flat_map written_run runs)
joined_few n t [] = omega (arith, length-append (written_run (n, t)) (flat_map written_run []), run_few n t)
joined_few n t (run ∷ runs) = at_one (same_type t run.1)
  where
    at_one : (b : Bool) → length (flat_map written_run (cond b ((n + run.0, t) ∷ runs) ((n, t) ∷ run ∷ runs))) ≤ 6 + length (flat_map written_run (run ∷ runs))
    at_one true = omega (arith, length-append (written_run (n + run.0, t)) (flat_map written_run runs), length-append (written_run run) (flat_map written_run runs), run_few (n + run.0) t)
    at_one false = omega (arith, length-append (written_run (n, t)) (flat_map written_run (run ∷ runs)), run_few n t)

locals_few : (ls : List ValType) → length (flat_map written_run (runs_of ls)) ≤ 6 * length ls
locals_few [] = omega arith
locals_few (t ∷ ls) = omega (arith, joined_few 1 t (runs_of ls), locals_few ls)

-- how many bytes a function takes at most
abbrev pub func_cost : Func → ℕ
func_cost f = 20 + (6 * length f.locals + code_cost f.code)

pub func_few : (f : Func) → length (written_func f) ≤ func_cost f
func_few f = omega (
  arith,
  sized_few (written_body f),
  length-append (written_vector written_run (runs_of f.locals)) (written_code f.code),
  length-append (short_u32 (length (runs_of f.locals))) (flat_map written_run (runs_of f.locals)),
  u32_few (length (runs_of f.locals)),
  locals_few f.locals,
  code_few f.code,
)
