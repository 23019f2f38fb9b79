-- The lists of a module are counted by numbers of 32 bits, since some bytes spell it.
use Rattle.std.specs.Prelude.{◌^◌, ◌<◌, length}
use Rattle.std.specs.List.{AllByRecursion}
use Rattle.mv_syntax.specs.declared.module.Func.{Func}
use Rattle.mv_syntax.specs.Sections.{Parts}

abbrev pub IsShort : Func → Type 0
IsShort f = length f.code < 2 ^ 32

pub record AreCounted (p : Parts) : Type 0 where
  pub types : length p.types < 2 ^ 32
  pub imports : length p.imports < 2 ^ 32
  pub funcs : length p.funcs < 2 ^ 32
  pub globals : length p.globals < 2 ^ 32
  pub exports : length p.exports < 2 ^ 32
  pub elements : length p.elements < 2 ^ 32
  pub segments : length p.segments < 2 ^ 32
  pub bodies : AllByRecursion IsShort p.funcs
