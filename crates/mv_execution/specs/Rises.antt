-- How many operands an instruction leaves that calls nothing (WebAssembly Core 1.0, 4.4): some leave one more than they find,
-- and the others no more. So only those few can lead past a limit on operands.
use Rattle.std.specs.Prelude.{Bool, true, false, ◌≡◌, ◌≤◌, ◌+◌, length}
use Rattle.mv_syntax.specs.declared.instr.Instr.{Instr}
use Rattle.mv_syntax.specs.declared.instr.Instr.TheVariants as instr
use Rattle.mv_syntax.specs.Tree.{Tree, done, plain, block, loop, choice}
use Rattle.mv_execution.specs.Config.{Frame}

-- takes nothing and gives one value
abbrev pub leaves_more : Instr → Bool
leaves_more (instr.Const t v) = true
leaves_more (instr.LocalGet x) = true
leaves_more (instr.GlobalGet x) = true
leaves_more instr.MemorySize = true
leaves_more i = false

-- from the operands of the one frame to those of the other: one more, or no more than there were
abbrev pub Leaves : Bool → Frame → Frame → Type 0
Leaves true f next = length next.operands ≡ length f.operands + 1
Leaves false f next = length next.operands ≤ length f.operands

-- the same of the first instruction of a tree; a block begins with the operands that are there, and an `if` takes one
abbrev pub LeavesFirst : Tree → Frame → Frame → Type 0
LeavesFirst done f next = Unit {0}
LeavesFirst (plain i rest) f next = Leaves (leaves_more i) f next
LeavesFirst (block t body rest) f next = length next.operands ≡ length f.operands
LeavesFirst (loop t body rest) f next = length next.operands ≡ length f.operands
LeavesFirst (choice t first second rest) f next = length next.operands + 1 ≡ length f.operands
