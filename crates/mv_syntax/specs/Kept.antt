-- What a module that has a spelling keeps: its code is closed, each instruction could be spelled, its names are UTF-8, and
-- its numbers are under the limits of this host.
use Rattle.std.specs.Prelude.{◌≡◌, ℕ, ◌*◌, ◌^◌, ◌<◌, ◌≤◌, Bool, true, false, List, length, IfSome, ◌⊎◌}
use Rattle.std.specs.List.{AllByRecursion}
use Rattle.std.specs.Str.{is_utf8}
use Rattle.mv_syntax.specs.declared.ops.ValType.{ValType}
use Rattle.mv_syntax.specs.declared.ops.ValType.TheVariants.{I32, I64}
use Rattle.mv_syntax.specs.declared.types.FuncType.{FuncType}
use Rattle.mv_syntax.specs.declared.instr.Instr.{Instr}
use Rattle.mv_syntax.specs.declared.instr.Instr.TheVariants as instr
use Rattle.mv_syntax.specs.declared.module.Import.{Import}
use Rattle.mv_syntax.specs.declared.module.Func.{Func}
use Rattle.mv_syntax.specs.declared.module.Export.{Export}
use Rattle.mv_syntax.specs.Types.{bit_width}
use Rattle.mv_syntax.specs.Tree.{IsClosedCode}
use Rattle.mv_syntax.specs.Sections.{Parts}

-- how many bytes a load or a store of this type moves (WebAssembly Core 1.0, 2.4.4)
abbrev pub IsWidth : ValType → ℕ → Type 0
IsWidth I32 n = (n ≡ 1) ⊎ ((n ≡ 2) ⊎ (n ≡ 4))
IsWidth I64 n = (n ≡ 1) ⊎ ((n ≡ 2) ⊎ ((n ≡ 4) ⊎ (n ≡ 8)))

-- a load of the whole width has no sign of its own
pub record IsLoad (t : ValType) (n : ℕ) (signed : Bool) : Type 0 where
  pub width : IsWidth t n
  pub whole : 8 * n ≡ bit_width t → signed ≡ false

-- some bytes spell the instruction, as far as its numbers go
abbrev pub IsSpellable : Instr → Type 0
IsSpellable (instr.Const t v) = v < 2 ^ bit_width t
IsSpellable (instr.Load t n signed align offset) = IsLoad t n signed
IsSpellable (instr.Store t n align offset) = IsWidth t n
IsSpellable i = Unit {0}

-- the code of a body, or of a constant
pub record IsSoundCode (code : List Instr) : Type 0 where
  pub closed : IsClosedCode code
  pub spellable : AllByRecursion IsSpellable code

abbrev pub IsText : List ℕ → Type 0
IsText text = is_utf8 text ≡ true

abbrev pub IsSoundType : FuncType → Type 0
IsSoundType t = length t.params ≤ 1000

pub record IsSoundImport (i : Import) : Type 0 where
  pub module_is : IsText i.«module»
  pub name_is : IsText i.name

pub record IsSoundFunc (f : Func) : Type 0 where
  pub locals_are : length f.locals ≤ 10000
  pub code_is : IsSoundCode f.code

-- of a function, a table, a memory or a global
pub record IsSoundExport (x : Export) : Type 0 where
  pub name_is : IsText x.name
  pub kind_is : x.kind ≤ 3

pub record Keeps (p : Parts) : Type 0 where
  pub types : AllByRecursion IsSoundType p.types
  pub imports : AllByRecursion IsSoundImport p.imports
  pub funcs : AllByRecursion IsSoundFunc p.funcs
  pub table : IfSome p.table (λ l. l.min ≤ 65536)
  pub memory : IfSome p.memory (λ l. l.min ≤ 1024)
  pub globals : AllByRecursion (λ g. IsSoundCode g.init) p.globals
  pub exports : AllByRecursion IsSoundExport p.exports
  pub elements : AllByRecursion (λ e. IsSoundCode e.offset) p.elements
  pub segments : AllByRecursion (λ s. IsSoundCode s.offset) p.segments
