-- Which parts are those of a module: they keep what a module keeps, their numbers and bytes are in range, and what is written
-- of them is short enough for each count and each size to be a number of 32 bits.
use Rattle.std.specs.Prelude.{ℕ, ◌^◌, ◌<◌, List, length, IfSome}
use Rattle.std.specs.List.{AllByRecursion}
use Rattle.mv_syntax.specs.declared.types.Limits.{Limits}
use Rattle.mv_syntax.specs.declared.instr.Instr.{Instr}
use Rattle.mv_syntax.specs.declared.instr.Instr.TheVariants as instr
use Rattle.mv_syntax.specs.declared.module.Import.{Import}
use Rattle.mv_syntax.specs.declared.module.Func.{Func}
use Rattle.mv_syntax.specs.declared.module.Export.{Export}
use Rattle.mv_syntax.specs.declared.module.Element.{Element}
use Rattle.mv_syntax.specs.declared.module.Segment.{Segment}
use Rattle.mv_syntax.specs.Sections.{Parts}
use Rattle.mv_syntax.specs.Modules.{AreBytes}
use Rattle.mv_syntax.specs.Kept.{Keeps}
use Rattle.mv_writer.specs.Written.{written}

-- numbers of 32 bits (WebAssembly Core 1.0, 2.2.2)
abbrev pub AreU32 : List ℕ → Type 0
AreU32 xs = AllByRecursion (λ x. x < 2 ^ 32) xs

-- its indices, its alignment and its offset
abbrev pub InstrInRange : Instr → Type 0
InstrInRange (instr.Br l) = l < 2 ^ 32
InstrInRange (instr.BrIf l) = l < 2 ^ 32
InstrInRange (instr.BrTable ls l) = AreU32 ls × (l < 2 ^ 32)
InstrInRange (instr.Call f) = f < 2 ^ 32
InstrInRange (instr.CallIndirect t) = t < 2 ^ 32
InstrInRange (instr.LocalGet x) = x < 2 ^ 32
InstrInRange (instr.LocalSet x) = x < 2 ^ 32
InstrInRange (instr.LocalTee x) = x < 2 ^ 32
InstrInRange (instr.GlobalGet x) = x < 2 ^ 32
InstrInRange (instr.GlobalSet x) = x < 2 ^ 32
InstrInRange (instr.Load t n signed align offset) = (align < 2 ^ 32) × (offset < 2 ^ 32)
InstrInRange (instr.Store t n align offset) = (align < 2 ^ 32) × (offset < 2 ^ 32)
InstrInRange i = Unit {0}

abbrev pub CodeInRange : List Instr → Type 0
CodeInRange code = AllByRecursion InstrInRange code

pub record ImportInRange (i : Import) : Type 0 where
  pub module_is : AreBytes i.«module»
  pub name_is : AreBytes i.name
  pub type_is : i.ftype < 2 ^ 32

pub record FuncInRange (f : Func) : Type 0 where
  pub type_is : f.ftype < 2 ^ 32
  pub code_is : CodeInRange f.code

abbrev pub LimitsInRange : Limits → Type 0
LimitsInRange l = IfSome l.max (λ n. n < 2 ^ 32)

pub record ExportInRange (x : Export) : Type 0 where
  pub name_is : AreBytes x.name
  pub index_is : x.index < 2 ^ 32

pub record ElementInRange (e : Element) : Type 0 where
  pub offset_is : CodeInRange e.offset
  pub funcs_are : AreU32 e.funcs

pub record SegmentInRange (s : Segment) : Type 0 where
  pub offset_is : CodeInRange s.offset
  pub bytes_are : AreBytes s.bytes

pub record InRange (p : Parts) : Type 0 where
  pub imports : AllByRecursion ImportInRange p.imports
  pub funcs : AllByRecursion FuncInRange p.funcs
  pub table : IfSome p.table LimitsInRange
  pub memory : IfSome p.memory LimitsInRange
  pub globals : AllByRecursion (λ g. CodeInRange g.init) p.globals
  pub exports : AllByRecursion ExportInRange p.exports
  pub start : IfSome p.start (λ f. f < 2 ^ 32)
  pub elements : AllByRecursion ElementInRange p.elements
  pub segments : AllByRecursion SegmentInRange p.segments

pub record IsWritable (p : Parts) : Type 0 where
  pub kept : Keeps p
  pub in_range : InRange p
  pub size : length (written p) < 2 ^ 32
