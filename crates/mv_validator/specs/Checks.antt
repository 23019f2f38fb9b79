-- The first fault of a module (docs/FORMATS.md, "Valid modules"): what is checked, in the order of the ids of the sections,
-- and for each what may be wrong.
use Rattle.std.specs.Prelude.{◌≡◌, ℕ, suc, ◌^◌, ◌==◌, ◌⊎◌, Bool, false, List, [], ◌∷◌, ◌++◌, Option, Some, None, length, take, is_some, slice_get, if◌then◌else◌, nat_lt, nat_le, ◌&&◌, ◌||◌, is_none}
use Rattle.std.specs.Str.{bytes_eq}
use Rattle.mv_syntax.specs.declared.ops.ValType.{ValType}
use Rattle.mv_syntax.specs.declared.ops.ValType.TheVariants.{I32}
use Rattle.mv_syntax.specs.declared.fault.ValidFault.{ValidFault}
use Rattle.mv_syntax.specs.declared.fault.ValidKind.{ValidKind}
use Rattle.mv_syntax.specs.declared.fault.ValidKind.TheVariants.{TypeIndex, FuncIndex, NoTable, NoMemory, GlobalIndex, Constant, Limits as LimitsKind, ExportName, StartType}
use Rattle.mv_syntax.specs.declared.types.FuncType.{FuncType}
use Rattle.mv_syntax.specs.declared.types.Limits.{Limits}
use Rattle.mv_syntax.specs.declared.module.Import.{Import}
use Rattle.mv_syntax.specs.declared.module.Func.{Func}
use Rattle.mv_syntax.specs.declared.module.Global.{Global}
use Rattle.mv_syntax.specs.declared.module.Export.{Export}
use Rattle.mv_syntax.specs.declared.module.Element.{Element}
use Rattle.mv_syntax.specs.declared.module.Segment.{Segment}
use Rattle.mv_syntax.specs.declared.instr.Instr.{Instr}
use Rattle.mv_syntax.specs.declared.instr.Instr.TheVariants as instr
use Rattle.mv_syntax.specs.Sections.{Parts}
use Rattle.mv_syntax.specs.Types.{same_type}
use Rattle.mv_validator.specs.Faults.{lacking, unless, first_of, any_lacking, IsFirstFault}
use Rattle.mv_validator.specs.Valid.{type_indices, type_at, context_in, IsTypedFunc, exported_count}

-- what is checked
pub data Check : Type 0 where
  TypeOfImport : (i : Import) → Check
  TypeOfFunc : (f : Func) → Check
  TableLimits : (l : Limits) → Check
  MemoryLimits : (l : Limits) → Check
  GlobalInit : (g : Global) → Check
  -- an export behind so many others
  ExportedAs : (n : ℕ) (x : Export) → Check
  StartOf : (x : ℕ) → Check
  ElementsOf : (e : Element) → Check
  BodyOf : (f : Func) → Check
  DataOf : (s : Segment) → Check

-- one constant of the type
abbrev pub is_constant : ValType → List Instr → Bool
is_constant t (instr.Const u v ∷ instr.End ∷ []) = same_type u t
is_constant t code = false

abbrev pub bounded : ℕ → ℕ → Option ℕ → Bool
bounded range least None = nat_le least range
bounded range least (Some most) = nat_le least range && (nat_le most range && nat_le least most)

-- limits within a range
abbrev pub within : ℕ → Limits → Bool
within range l = bounded range l.min l.max

-- the kind of an export whose index isn't there
abbrev pub kind_of_export : ℕ → ValidKind
kind_of_export kind = if kind == 0 then FuncIndex else if kind == 1 then NoTable else if kind == 2 then NoMemory else GlobalIndex

abbrev pub has_name : List ℕ → List Export → Bool
has_name name [] = false
has_name name (x ∷ xs) = bytes_eq x.name name || has_name name xs

abbrev pub starts : Option FuncType → Option ValidKind
starts None = Some FuncIndex
starts (Some t) = unless StartType (length t.params == 0 && is_none t.result)

-- What is wrong, where that is told without the body of a function. Of two faults the one that stands first in the
-- binary form counts.
abbrev pub fault_of : Parts → Check → Option ValidKind
fault_of p (TypeOfImport i) = lacking TypeIndex (slice_get p.types i.ftype)
fault_of p (TypeOfFunc f) = lacking TypeIndex (slice_get p.types f.ftype)
fault_of p (TableLimits l) = unless LimitsKind (within (2 ^ 32) l)
fault_of p (MemoryLimits l) = unless LimitsKind (within (2 ^ 16) l)
fault_of p (GlobalInit g) = unless Constant (is_constant g.vtype g.init)
fault_of p (ExportedAs n x) = first_of (if has_name x.name (take n p.exports) then Some ExportName else None) (unless (kind_of_export x.kind) (nat_lt x.index (exported_count p x.kind)))
fault_of p (StartOf x) = starts (type_at p x)
fault_of p (ElementsOf e) = first_of (unless NoTable (is_some p.table)) (first_of (unless Constant (is_constant I32 e.offset)) (any_lacking FuncIndex (type_indices p) e.funcs))
fault_of p (BodyOf f) = None
fault_of p (DataOf s) = first_of (unless NoMemory (is_some p.memory)) (unless Constant (is_constant I32 s.offset))

-- nothing is wrong
abbrev pub Passes : Parts → Check → Type 0
Passes p (BodyOf f) = IsTypedFunc p f
Passes p c = fault_of p c ≡ None

-- the first faulty instruction of a body, and why
pub record BodyFails (p : Parts) (f : Func) (at : ℕ) (kind : ValidKind) : Type 0 where
  pub ftype : FuncType
  pub declared_as : slice_get p.types f.ftype ≡ Some ftype
  pub first : IsFirstFault (context_in p ftype f.locals) f.code at kind

-- this is wrong, at this instruction, or at 0
abbrev pub Fails : Parts → Check → ℕ → ValidKind → Type 0
Fails p (BodyOf f) at kind = BodyFails p f at kind
Fails p c at kind = (at ≡ 0) × (fault_of p c ≡ Some kind)

-- a check with the section and the item that it is about
pub record Numbered : Type 0 where
  pub part : ℕ
  pub item : ℕ
  pub check : Check

abbrev pub numbered : {A : Type 0} → ℕ → (ℕ → A → Check) → ℕ → List A → List Numbered
numbered part make n [] = []
numbered part make n (x ∷ xs) = record { part = part; item = n; check = make n x } ∷ numbered part make (suc n) xs

abbrev pub at_most_one : {A : Type 0} → ℕ → (A → Check) → Option A → List Numbered
at_most_one part make None = []
at_most_one part make (Some x) = record { part = part; item = 0; check = make x } ∷ []

abbrev pub import_checks : Parts → List Numbered
import_checks p = numbered 2 (λ n i. TypeOfImport i) 0 p.imports

abbrev pub function_checks : Parts → List Numbered
function_checks p = numbered 3 (λ n f. TypeOfFunc f) 0 p.funcs

abbrev pub size_checks : Parts → List Numbered
size_checks p = at_most_one 4 TableLimits p.table ++ at_most_one 5 MemoryLimits p.memory

abbrev pub global_checks : Parts → List Numbered
global_checks p = numbered 6 (λ n g. GlobalInit g) 0 p.globals

abbrev pub export_checks : Parts → List Numbered
export_checks p = numbered 7 (λ n x. ExportedAs n x) 0 p.exports

abbrev pub start_checks : Parts → List Numbered
start_checks p = at_most_one 8 StartOf p.start

abbrev pub element_checks : Parts → List Numbered
element_checks p = numbered 9 (λ n e. ElementsOf e) 0 p.elements

abbrev pub body_checks : Parts → List Numbered
body_checks p = numbered 10 (λ n f. BodyOf f) 0 p.funcs

abbrev pub data_checks : Parts → List Numbered
data_checks p = numbered 11 (λ n s. DataOf s) 0 p.segments

-- those in front of the bodies
abbrev pub declaration_checks : Parts → List Numbered
declaration_checks p = import_checks p ++ (function_checks p ++ (size_checks p ++ (global_checks p ++ (export_checks p ++ (start_checks p ++ element_checks p)))))

-- all checks of a module, in their order
abbrev pub checks : Parts → List Numbered
checks p = declaration_checks p ++ (body_checks p ++ data_checks p)

abbrev pub AllPass : Parts → List Numbered → Type 0
AllPass p [] = Unit {0}
AllPass p (c ∷ cs) = Passes p c.check × AllPass p cs

pub record IsFaultOf (p : Parts) (c : Numbered) (f : ValidFault) : Type 0 where
  pub part : f.part ≡ c.part
  pub item : f.item ≡ c.item
  pub fails : Fails p c.check f.at f.kind

-- the fault is that of the first check that fails
abbrev pub FirstFails : Parts → List Numbered → ValidFault → Type 0
FirstFails p [] f = ⊥
FirstFails p (c ∷ cs) f = IsFaultOf p c f ⊎ (Passes p c.check × FirstFails p cs f)

-- the first fault of the module
abbrev pub IsFirstFaultOf : Parts → ValidFault → Type 0
IsFirstFaultOf p f = FirstFails p (checks p) f

-- what was found by some of the checks
abbrev pub Tells : Parts → List Numbered → Option ValidFault → Type 0
Tells p cs None = AllPass p cs
Tells p cs (Some f) = FirstFails p cs f
