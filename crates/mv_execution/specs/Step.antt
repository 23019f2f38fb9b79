-- The step of a configuration: the first instruction of the newest call (WebAssembly Core 1.0, 4.4).
use Rattle.std.specs.Prelude.{ℕ, ◌+◌, List, [], ◌∷◌, ◌++◌, Option, Some, None, length, drop, take, reverse, replicate, slice_get, nat_le, nat_lt, if◌then◌else◌}
use Rattle.mv_syntax.specs.Types.{same_function_type}
use Rattle.mv_calls.specs.declared.trap.Trap.TheVariants as trap
use Rattle.mv_syntax.specs.declared.ops.ValType.TheVariants.{I32}
use Rattle.mv_syntax.specs.declared.types.FuncType.{FuncType}
use Rattle.mv_syntax.specs.declared.instr.Instr.TheVariants as instr
use Rattle.mv_syntax.specs.Tree.{Tree, plain}
use Rattle.mv_execution.specs.Values.{arity_of}
use Rattle.mv_execution.specs.Config.{Body, Function, Program, OpenBlock, Frame, Config, frame_limit, operand_limit, operand_count}
use Rattle.mv_execution.specs.Rows.{Out, Goes, Traps, Stuck, Next, popping, advanced}

-- an instruction that would leave so many operands over all frames traps past the limit
abbrev pub within_limit : ℕ → Config → Out Config
within_limit count next = if nat_lt operand_limit count then Traps trap.Operands else Goes next

-- what an instruction of the newest call made of the store and of its frame
abbrev pub went : Config → List Frame → Next → Out Config
went c fs (Goes next) = within_limit (operand_count (next.1 ∷ fs)) (record c { store = next.0; frames = next.1 ∷ fs })
went c fs (Traps t) = Traps t
went c fs Stuck = Stuck

-- ---- calls (4.4.7)

-- the frame of a call with these arguments, the first one first; further locals are zero
abbrev pub entry_frame : FuncType → Body → List ℕ → Frame
entry_frame t body arguments = record {
  results = arity_of t.result;
  locals = arguments ++ replicate body.locals 0;
  operands = [];
  blocks = record { arity = arity_of t.result; height = 0; rest = body.tree; again = None } ∷ [];
}

abbrev pub without_operands : ℕ → Frame → Frame
without_operands n f = record f { operands = drop n f.operands }

-- The arguments become locals of the new frame. An imported function waits for its answer, whose place has to be there.
abbrev pub begun : ℕ → FuncType → Config → List Frame → Frame → Option Body → Out Config
begun x t c fs f None =
    within_limit (operand_count (without_operands (length t.params) f ∷ fs) + arity_of t.result) (record c { frames = f ∷ fs; waiting = Some x })
begun x t c fs f (Some body) =
    Goes (record c { frames = entry_frame t body (reverse (take (length t.params) f.operands)) ∷ without_operands (length t.params) f ∷ fs })

-- a function called by the newest frame, the frame behind the instruction already
abbrev pub invoked : ℕ → Function → Config → List Frame → Frame → Out Config
invoked x function c fs f =
    if nat_lt (length f.operands) (length function.ftype.params) then Stuck else
    if nat_le frame_limit (length (f ∷ fs)) then Traps trap.Frames else
    begun x function.ftype c fs f function.body

abbrev pub called : Program → ℕ → Config → List Frame → Frame → Out Config
called program x c fs f = elim (slice_get program.functions x) [ None ↦ Stuck | Some function ↦ invoked x function c fs f ]

-- through the table, where the function has to be of this type
abbrev pub called_as : Program → FuncType → ℕ → Config → List Frame → Frame → Out Config
called_as program t x c fs f =
    elim (slice_get program.functions x) [
      | None ↦ Stuck
      | Some function ↦
          if same_function_type function.ftype t then invoked x function c fs f else Traps trap.IndirectType
    ]

abbrev pub called_entry : Program → FuncType → Option (Option ℕ) → Config → List Frame → Frame → Out Config
called_entry program t None c fs f = Traps trap.TableIndex
called_entry program t (Some None) c fs f = Traps trap.EmptyElement
called_entry program t (Some (Some x)) c fs f = called_as program t x c fs f

abbrev pub called_indirect : Program → ℕ → Config → List Frame → Frame → Out Config
called_indirect program y c fs f =
    elim (slice_get program.types y) [
      | None ↦ Stuck
      | Some t ↦
          popping I32 f (λ i g. called_entry program t (slice_get c.store.table i) c fs g)
    ]

-- ---- the step

-- one row an instruction that calls, and one for all others
abbrev pub row : Program → Tree → OpenBlock → List OpenBlock → Config → List Frame → Frame → Out Config
row program (plain (instr.Call x) rest) b outer c fs f = called program x c fs (record f { blocks = record b { rest = rest } ∷ outer })
row program (plain (instr.CallIndirect y) rest) b outer c fs f = called_indirect program y c fs (record f { blocks = record b { rest = rest } ∷ outer })
row program t b outer c fs f = went c fs (advanced t b outer c.store f)

abbrev pub counted : Config → Config
counted c = record c { gap = c.gap + 1 }

abbrev pub step_of : Program → Config → List Frame → Out Config
step_of program c [] = Stuck
step_of program c (f ∷ fs) = elim f.blocks [ [] ↦ Stuck | b ∷ outer ↦ row program b.rest b outer c fs f ]

-- One counted instruction. After a trap the configuration is as before, but for the count.
abbrev pub step : Program → Config → Out Config
step program c = step_of program (counted c) c.frames
