-- A function that is not ended.
use Rattle.std.specs.Prelude.{ℕ, Bool, List}
use Rattle.mv_syntax.specs.declared.ops.ValType.{ValType}
use Rattle.mv_syntax.specs.declared.instr.Instr.{Instr}

-- its code so far, and the blocks that are open, the innermost first: whether an `else` may come
pub record Body : Type 0 where
  pub ftype : ℕ
  pub locals : List ValType
  pub code : List Instr
  pub opens : List Bool
