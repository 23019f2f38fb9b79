-- The configuration over trees for which the machine's state stands, and what holds of a state at every moment.
use Rattle.std.specs.Prelude.{◌≡◌, ℕ, ◌+◌, ◌<◌, ◌≤◌, List, [], ◌∷◌, Option, Some, None, length, map, reverse, slice_get, vec_len, vec_capacity}
use Rattle.mv_syntax.specs.declared.ops.ValType.{ValType}
use Rattle.mv_syntax.specs.declared.instr.Instr.{Instr}
use Rattle.mv_syntax.specs.declared.types.FuncType.{FuncType}
use Rattle.mv_syntax.specs.declared.module.Func.{Func}
use Rattle.mv_syntax.specs.Sections.{Parts}
use Rattle.mv_validator.specs.Typing.{func_type}
use Rattle.mv_execution.specs.Values.{arity_of}
use Rattle.mv_execution.specs.Config.{Frame, Config, frame_limit, operand_limit, operand_count, gap_limit}
use Rattle.mv_execution.specs.Instance.{program_of}
use Rattle.mv_execution.specs.Fits.{FitsProgram, FitsConfig, module_context}
use Rattle.mv_frames.specs.declared.frame.Frame.{Frame as FlatFrame}
use Rattle.mv_frames.specs.Frames.{frame_of, IsPlaced}
use Rattle.mv_frames.specs.Stores.{store_of}
use Rattle.mv_machine.specs.declared.state.State.{State}

-- ---- calls

abbrev pub code_or : Option Func → List Instr
code_or None = []
code_or (Some f) = f.code

-- the code of the module's own function with this number, where there is one
abbrev pub code_at : List Func → ℕ → List Instr
code_at funcs n = code_or (slice_get funcs n)

abbrev pub call_of : List Func → FlatFrame → Frame
call_of funcs f = frame_of (code_at funcs f.func) f

-- the calls that have not returned, the newest first
abbrev pub calls_of : List Func → List FlatFrame → List Frame
calls_of funcs fs = map (call_of funcs) (reverse fs)

-- each call is at a place of its function's code
abbrev pub ArePlacedIn : List Func → List FlatFrame → Type 0
ArePlacedIn funcs [] = Unit {0}
ArePlacedIn funcs (f ∷ fs) = (f.func < length funcs) × IsPlaced (code_at funcs f.func) f × ArePlacedIn funcs fs

-- how many blocks and calls are open
abbrev pub open_count : List FlatFrame → ℕ
open_count [] = 0
open_count (f ∷ fs) = length f.labels.items + 1 + open_count fs

-- ---- the configuration

-- a value, or none
abbrev pub values_of : Option ℕ → List ℕ
values_of None = []
values_of (Some v) = v ∷ []

abbrev pub config_of : Parts → State → Config
config_of p s = record { store = store_of s.store; frames = calls_of p.funcs s.frames.items; waiting = s.waiting; given = values_of s.given; gap = s.gap }

-- ---- what holds at every moment

-- the operands of these calls
abbrev pub operands_in : List FlatFrame → ℕ
operands_in [] = 0
operands_in (f ∷ fs) = length f.operands.items + operands_in fs

-- A call of an import without parameters that waits has a place for its result on the newest call's operands, so that the
-- answer takes no memory. A call with parameters leaves theirs.
abbrev pub KeepsPlace : FuncType → List FlatFrame → Type 0
KeepsPlace t [] = Unit {0}
KeepsPlace t (f ∷ fs) = t.params ≡ [] → vec_len f.operands < vec_capacity f.operands

-- with its result for its arguments a call that waits has no more operands than there may be
abbrev pub IsAnswerable : Parts → Option ℕ → List FlatFrame → Type 0
IsAnswerable p None fs = Unit {0}
IsAnswerable p (Some x) fs = (t : FuncType) → func_type (module_context p) x ≡ Some t → KeepsPlace t fs × (operands_in fs + arity_of t.result ≤ operand_limit + length t.params)

-- nothing was given while a call is open
abbrev pub IsGivenLast : Option ℕ → List FlatFrame → Type 0
IsGivenLast given [] = Unit {0}
IsGivenLast given (f ∷ fs) = given ≡ None

-- The state stands for a typed configuration of the module, its calls are at places of their code, it counts their operands,
-- and no limit is passed.
pub record IsFine (p : Parts) (s : State) : Type 0 where
  pub program : FitsProgram (module_context p) (program_of p)
  -- what the function gives that was entered
  pub gives : List ValType
  pub typed : FitsConfig (module_context p) gives (config_of p s)
  pub placed : ArePlacedIn p.funcs (reverse s.frames.items)
  pub counted : s.operands ≡ operand_count (calls_of p.funcs s.frames.items)
  pub operands : s.operands ≤ operand_limit
  pub frames : length s.frames.items ≤ frame_limit
  pub gap : s.gap ≤ gap_limit
  pub answerable : IsAnswerable p s.waiting (reverse s.frames.items)
  pub given : IsGivenLast s.given (reverse s.frames.items)
