-- Configurations of the machine (WebAssembly Core 1.0, 4.2). Bodies are trees, so a configuration has no place in any code.
use Rattle.std.specs.Prelude.{ℕ, ◌+◌, List, [], ◌∷◌, Option, length}
use Rattle.mv_syntax.specs.declared.types.FuncType.{FuncType}
use Rattle.mv_syntax.specs.Tree.{Tree}
use Rattle.mv_memory.specs.Memory.{Contents}

-- ---- what a run doesn't change (4.2.5 and 4.2.6)

-- The code of a function: how many locals it has beside its parameters, and its body.
pub record Body : Type 0 where
  pub locals : ℕ
  pub tree : Tree

-- A function with its body, or without one where it is imported.
pub record Function : Type 0 where
  pub ftype : FuncType
  pub body : Option Body

-- The types and functions of a module, the imported functions first.
pub record Program : Type 0 where
  pub types : List FuncType
  pub functions : List Function

-- ---- what a run changes

-- The store (4.2.3): the memory, the globals, and for each entry of the table the function that it holds, or none.
pub record Store : Type 0 where
  pub memory : Contents
  pub globals : List ℕ
  pub table : List (Option ℕ)

-- A block that was entered and not left (a label, 4.2.12): how many operands a branch to it carries, how many operands
-- lie below it, what is left of it, and, of a loop, the body that a branch begins again.
pub record OpenBlock : Type 0 where
  pub arity : ℕ
  pub height : ℕ
  pub rest : Tree
  pub again : Option Tree

-- A call that has not returned (an activation, 4.2.12): how many results it gives, its locals with the parameters first,
-- its operands with the newest first, and its open blocks with the innermost first. The last of these is its body.
pub record Frame : Type 0 where
  pub results : ℕ
  pub locals : List ℕ
  pub operands : List ℕ
  pub blocks : List OpenBlock

pub record Config : Type 0 where
  pub store : Store
  -- the calls that have not returned, the newest first
  pub frames : List Frame
  -- an imported function that was called and not yet answered; its arguments lie on the newest frame's operands
  pub waiting : Option ℕ
  -- where no call is left, what the last one gave
  pub given : List ℕ
  -- how many instructions have counted since the gap was last set to 0
  pub gap : ℕ

-- ---- the limits of this host

-- how many calls may be open
abbrev pub frame_limit : ℕ
frame_limit = 1024

-- how many operands all frames may have together
abbrev pub operand_limit : ℕ
operand_limit = 65536

-- how far the gap may rise
abbrev pub gap_limit : ℕ
gap_limit = 50000000

-- the operands of all frames
abbrev pub operand_count : List Frame → ℕ
operand_count [] = 0
operand_count (f ∷ fs) = length f.operands + operand_count fs
