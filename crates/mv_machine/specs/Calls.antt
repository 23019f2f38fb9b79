-- Calls and returns of the newest call, over trees, and at which instruction it stands in the code.
use Rattle.std.specs.Prelude.{Bool, true, false, ◌≡◌, ℕ, ◌+◌, ◌<◌, ◌≤◌, List, [], ◌∷◌, ◌++◌, Option, Some, None, length, reverse, slice_get, take, if◌then◌else◌}
use Rattle.mv_syntax.specs.Expressions.{is_plain}
use Rattle.std.specs.Option.{option_map}
use Rattle.mv_syntax.specs.declared.instr.Instr.{Instr}
use Rattle.mv_syntax.specs.declared.instr.Instr.TheVariants.{Call, CallIndirect}
use Rattle.mv_syntax.specs.declared.module.Func.{Func}
use Rattle.mv_syntax.specs.Sections.{Parts}
use Rattle.mv_syntax.specs.Tree.{Tree, plain}
use Rattle.mv_execution.specs.Config.{Program, OpenBlock, Frame, Config}
use Rattle.mv_execution.specs.Rows.{Out, Stuck}
use Rattle.mv_execution.specs.Step.{without_operands, called}
use Rattle.mv_execution.specs.Run.{is_none}
use Rattle.mv_frames.specs.declared.frame.Frame.{Frame as FlatFrame}
use Rattle.mv_frames.specs.Blocks.{closed}
use Rattle.mv_machine.specs.declared.state.State.{State}
use Rattle.mv_machine.specs.States.{code_at}

-- ---- over trees

-- the newest call leaves a block
abbrev pub closed_in_newest : Config → List Frame → Option Config
closed_in_newest c [] = None
closed_in_newest c (f ∷ fs) = option_map (λ g. record c { frames = g ∷ fs }) (closed f)

abbrev pub closed_newest : Config → Option Config
closed_newest c = closed_in_newest c c.frames

-- The newest call, which has no open block, gives its results to the one before it; those of the last call are kept.
abbrev pub returned_from : Config → List Frame → Option Config
returned_from c [] = None
returned_from c (f ∷ []) =
    if is_none f.blocks then Some (record c { frames = []; given = take f.results f.operands }) else None
returned_from c (f ∷ g ∷ fs) =
    if is_none f.blocks then Some (record c { frames = record g { operands = take f.results f.operands ++ g.operands } ∷ fs }) else None

abbrev pub returned_newest : Config → Option Config
returned_newest c = returned_from c c.frames

abbrev pub tree_behind : Tree → Tree
tree_behind (plain i rest) = rest
tree_behind t = t

abbrev pub blocks_behind : List OpenBlock → List OpenBlock
blocks_behind [] = []
blocks_behind (b ∷ outer) = record b { rest = tree_behind b.rest } ∷ outer

-- behind the instruction in front of what is left of the innermost block
abbrev pub frame_behind : Frame → Frame
frame_behind f = record f { blocks = blocks_behind f.blocks }

-- a call of this function by the newest call, behind the instruction and without so many operands that lie over the arguments
abbrev pub call_above_in : Program → ℕ → ℕ → Config → List Frame → Out Config
call_above_in program x above c [] = Stuck
call_above_in program x above c (f ∷ fs) = called program x c fs (without_operands above (frame_behind f))

abbrev pub call_above : Program → ℕ → ℕ → Config → Out Config
call_above program x above c = call_above_in program x above c c.frames

-- ---- in the code

abbrev pub calls_nothing : Instr → Bool
calls_nothing (Call x) = false
calls_nothing (CallIndirect y) = false
calls_nothing i = true

-- the newest call stands at an instruction of which this holds
abbrev pub IsAtIn : (Instr → FlatFrame → Type 0) → List Func → List FlatFrame → Type 0
IsAtIn P funcs [] = ⊥
IsAtIn P funcs (f ∷ fs) = (i : Instr) × (slice_get (code_at funcs f.func) f.at ≡ Some i) × P i f

abbrev pub IsAt : (Instr → FlatFrame → Type 0) → Parts → State → Type 0
IsAt P p s = IsAtIn P p.funcs (reverse s.frames.items)

-- at an instruction that calls nothing
abbrev pub IsAtPlain : Parts → State → Type 0
IsAtPlain = IsAt (λ i f. calls_nothing i ≡ true)

-- at an instruction that begins and ends no list, with so many operands at least
abbrev pub IsAtCall : ℕ → Parts → State → Type 0
IsAtCall above = IsAt (λ i f. (is_plain i ≡ true) × (above ≤ length f.operands.items))

-- at a call through the table
abbrev pub IsAtIndirect : ℕ → Parts → State → Type 0
IsAtIndirect y = IsAt (λ i f. i ≡ CallIndirect y)

-- the module has a function with this index
abbrev pub HasFunction : Parts → ℕ → Type 0
HasFunction p x = x < length p.imports + length p.funcs
