-- Instantiation (WebAssembly Core 1.0, 4.5.4), with what this host asks of a guest's imports and of its entry.
use Rattle.std.specs.Prelude.{ℕ, suc, ◌+◌, Bool, false, ◌&&◌, ◌==◌, List, [], ◌∷◌, Option, Some, None, Result, Ok, Err, length, nat_le, codes, if◌then◌else◌}
use Rattle.std.specs.Str.{bytes_eq}
use Rattle.mv_calls.specs.declared.trap.Trap.TheVariants as trap
use Rattle.mv_syntax.specs.declared.ops.ValType.TheVariants.{I32}
use Rattle.mv_syntax.specs.declared.types.FuncType.{FuncType}
use Rattle.mv_syntax.specs.declared.module.Import.{Import}
use Rattle.mv_syntax.specs.declared.module.Export.{Export}
use Rattle.mv_syntax.specs.declared.module.Element.{Element}
use Rattle.mv_syntax.specs.declared.module.Segment.{Segment}
use Rattle.mv_syntax.specs.declared.fault.StartFault.{StartFault}
use Rattle.mv_syntax.specs.declared.fault.StartFault.TheVariants.{NoEntry, UnknownImport, ImportType, ElementBounds, DataBounds, Trap as StartTraps}
use Rattle.mv_syntax.specs.Sections.{Parts}
use Rattle.mv_validator.specs.Typing.{func_type}
use Rattle.mv_memory.specs.Bytes.{written}
use Rattle.mv_syntax.specs.Types.{same_function_type}
use Rattle.mv_execution.specs.Config.{Config, gap_limit}
use Rattle.mv_execution.specs.Instance.{program_of, constant_of, type_at, new_config, with_element, with_memory}
use Rattle.mv_execution.specs.Run.{Stop, Import as AtImport, Ended, Trapped, Fuel, IsStuck, run, entered, with_new_gap}
use Rattle.mv_execution.specs.Fits.{module_context}
use Rattle.mv_imports.specs.Functions.{either, function_named, is_typed}
use Rattle.mv_start.specs.declared.instance.Entry.{Entry}
use Rattle.mv_start.specs.declared.instance.Entry.TheVariants.{Start, Update}

-- ---- imports and exports

-- what is wrong with an import, the first one is 0
abbrev pub import_fault : List FuncType → ℕ → Import → Option StartFault
import_fault types n i = elim (function_named i.«module» i.name) [
  | None ↦ Some (UnknownImport n)
  | Some function ↦ if is_typed function (type_at types i.ftype) then None else Some (ImportType n)
]

-- the first fault in a list whose items are numbered from here on
abbrev pub first_fault : {A : Type 0} → (ℕ → A → Option StartFault) → ℕ → List A → Option StartFault
first_fault fault n [] = None
first_fault fault n (x ∷ xs) = either (fault n x) (first_fault fault (n + 1) xs)

abbrev pub imports_fault : Parts → Option StartFault
imports_fault p = first_fault (import_fault p.types) 0 p.imports

-- the export with this name; names are unique in a valid module
abbrev pub export_named : List ℕ → List Export → Option Export
export_named name [] = None
export_named name (x ∷ xs) = if bytes_eq x.name name then Some x else export_named name xs

abbrev pub has_type : FuncType → Option FuncType → Bool
has_type t None = false
has_type t (Some u) = same_function_type u t

-- the function that is exported by this name and has this type
abbrev pub entry_of : List ℕ → FuncType → Parts → Option ℕ
entry_of name t p = elim (export_named name p.exports) [
  | None ↦ None
  | Some x ↦ if x.kind == 0 && has_type t (func_type (module_context p) x.index) then Some x.index else None
]

-- [] -> []
abbrev pub nothing_type : FuncType
nothing_type = record { params = []; result = None }

-- [] -> [i32]
abbrev pub number_type : FuncType
number_type = record { params = []; result = Some I32 }

-- the function with which a guest begins
abbrev pub start_entry : Parts → Option ℕ
start_entry p = entry_of (codes "_start") nothing_type p

-- ---- segments

abbrev pub element_fault : ℕ → ℕ → Element → Option StartFault
element_fault size n e = if nat_le (constant_of e.offset + length e.funcs) size then None else Some (ElementBounds n)

abbrev pub data_fault : ℕ → ℕ → Segment → Option StartFault
data_fault size n s = if nat_le (constant_of s.offset + length s.bytes) size then None else Some (DataBounds n)

-- all bounds of elements before all bounds of data
abbrev pub bounds_fault : Parts → Option StartFault
bounds_fault p =
    either
    (first_fault (element_fault (length (new_config p).store.table)) 0 p.elements)
    (first_fault (data_fault (length (new_config p).store.memory.bytes)) 0 p.segments)

-- the functions of an element from an entry of the table on
abbrev pub with_functions : ℕ → List ℕ → Config → Config
with_functions at [] c = c
with_functions at (x ∷ xs) c = with_functions (at + 1) xs (with_element at x c)

abbrev pub with_elements : List Element → Config → Config
with_elements [] c = c
with_elements (e ∷ es) c = with_elements es (with_functions (constant_of e.offset) e.funcs c)

abbrev pub with_bytes : List ℕ → Config → Config
with_bytes bytes c = with_memory (record c.store.memory { bytes = bytes }) c

abbrev pub with_segments : List Segment → Config → Config
with_segments [] c = c
with_segments (s ∷ ss) c = with_segments ss (with_bytes (written c.store.memory.bytes (constant_of s.offset) s.bytes) c)

-- ---- the start function

-- fuel for more instructions than a gap has: a run with it stops for another reason
abbrev pub ample : ℕ
ample = suc gap_limit

-- The gap is 0 again behind the start function. While it runs no import may be called.
abbrev pub begun_by : Config × Stop → Result Config StartFault
begun_by (c, Ended results) = Ok (with_new_gap c)
begun_by (c, Trapped t) = Err (StartTraps t)
begun_by (c, AtImport x) = Err (StartTraps trap.NotNow)
begun_by (c, Fuel) = Err (StartTraps trap.Spent)
begun_by (c, IsStuck) = Err (StartTraps trap.Spent)

abbrev pub start_ran : Parts → Config → Result Config StartFault
start_ran p c = elim p.start [ None ↦ Ok c | Some x ↦ begun_by (run (program_of p) ample (entered (program_of p) x c)) ]

-- ---- the whole

abbrev pub unless_faulty : {A F : Type 0} → Option F → Result A F → Result A F
unless_faulty None r = r
unless_faulty (Some fault) r = Err fault

-- bounds, segments and the start function
abbrev pub filled : Parts → Result Config StartFault
filled p = unless_faulty (bounds_fault p) (start_ran p (with_segments p.segments (with_elements p.elements (new_config p))))

-- an instance without a call, for an update
abbrev pub instance : Parts → Result Config StartFault
instance p = unless_faulty (imports_fault p) (filled p)

abbrev pub entering : Parts → ℕ → Result Config StartFault → Result Config StartFault
entering p x (Ok c) = Ok (entered (program_of p) x c)
entering p x (Err fault) = Err fault

-- an instance that has entered `_start`
abbrev pub started_instance : Parts → Result Config StartFault
started_instance p = unless_faulty (imports_fault p) (elim (start_entry p) [ None ↦ Err NoEntry | Some x ↦ entering p x (filled p) ])

-- for the start of a run, or for an update
abbrev pub instance_for : Entry → Parts → Result Config StartFault
instance_for Start p = started_instance p
instance_for Update p = instance p
