-- Beginnings and ends of blocks of a frame.
use Rattle.std.specs.Prelude.{Bool, true, false, List, [], ◌∷◌, Option, Some, None}
use Rattle.mv_syntax.specs.declared.instr.Instr.{Instr}
use Rattle.mv_syntax.specs.declared.instr.Instr.TheVariants.{Block, Loop, If, Else, End, Call, CallIndirect, Load, Store}
use Rattle.mv_syntax.specs.Tree.{Tree, done}
use Rattle.mv_execution.specs.Config.{Store as TreeStore, OpenBlock, Frame}
use Rattle.mv_execution.specs.Rows.{Stuck, Next, began, advanced}
use Rattle.mv_syntax.specs.Expressions.{is_plain}

-- the block in front of what is left of the innermost one begins
abbrev pub began_block : Frame → Option Frame
began_block f = elim f.blocks [ [] ↦ None | b ∷ outer ↦ began b.rest b outer f ]

-- A list of instructions that is at its end leaves its block. This is not counted.
abbrev pub closed_in : Tree → List OpenBlock → Frame → Option Frame
closed_in done outer f = Some (record f { blocks = outer })
closed_in t outer f = None

abbrev pub closed : Frame → Option Frame
closed f = elim f.blocks [ [] ↦ None | b ∷ outer ↦ closed_in b.rest outer f ]

-- an instruction that calls nothing, and neither reads nor writes bytes of the memory
abbrev pub acts : Instr → Bool
acts (Call x) = false
acts (CallIndirect x) = false
acts (Load t n signed align offset) = false
acts (Store t n align offset) = false
acts i = is_plain i

-- an instruction that reads or writes bytes of the memory
abbrev pub is_access : Instr → Bool
is_access (Load t n signed align offset) = true
is_access (Store t n align offset) = true
is_access i = false

-- the first instruction of what is left of the innermost block
abbrev pub advanced_frame : TreeStore → Frame → Next
advanced_frame s f = elim f.blocks [ [] ↦ Stuck | b ∷ outer ↦ advanced b.rest b outer s f ]

-- an instruction that begins a block
abbrev pub starts_block : Instr → Bool
starts_block (Block t) = true
starts_block (Loop t) = true
starts_block (If t) = true
starts_block i = false
