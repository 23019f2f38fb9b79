-- Levels and the surroundings of a body, as contracts see them.
use Rattle.std.specs.Prelude.{◌++◌, List, map, reverse}
use Rattle.mv_syntax.specs.declared.ops.ValType.{ValType}
use Rattle.mv_validator.specs.declared.control_frame.ControlFrame.{ControlFrame as FlatFrame}
use Rattle.mv_validator.specs.declared.instr_type.InstrType.{InstrType}
use Rattle.mv_validator.specs.Types.{operands_of}
use Rattle.mv_validator.specs.ControlFrames.{ControlFrame}

abbrev pub frame_of : FlatFrame → ControlFrame
frame_of l = record { kind = l.kind; result = l.result; operands = reverse l.operands.items; unreachable = l.unreachable }

-- the frames, of which the newest is last
abbrev pub frames_of : List FlatFrame → List ControlFrame
frames_of ls = map frame_of (reverse ls)

-- what is taken, the newest first, and given
abbrev pub type_told : InstrType → List ValType × List ValType
type_told s = (operands_of s.top ++ operands_of s.below, operands_of s.gives)
