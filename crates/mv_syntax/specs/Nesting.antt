-- How a reader keeps the open blocks of a body (WebAssembly Core 1.0, 5.4.1), one instruction after another.
use Rattle.std.specs.Prelude.{Bool, true, false, List, [], ◌∷◌, Result, Ok, Err, Option, Some, None}
use Rattle.mv_syntax.specs.declared.fault.ReadKind.{ReadKind}
use Rattle.mv_syntax.specs.declared.fault.ReadKind.TheVariants.{Kind}
use Rattle.mv_syntax.specs.declared.instr.Instr.{Instr}
use Rattle.mv_syntax.specs.declared.instr.Instr.TheVariants as instr

-- an `else` closes the first list of an `if`, and a second one has no form
abbrev pub parts : List Bool → Result (Option (List Bool)) ReadKind
parts (true ∷ opens) = Ok (Some (false ∷ opens))
parts (false ∷ opens) = Err Kind
parts [] = Err Kind

abbrev pub ends : List Bool → Option (List Bool)
ends [] = None
ends (_ ∷ opens) = Some opens

-- The blocks that are open, the innermost first: whether an `else` may come. After an instruction they are these, or
-- the body is closed, or no form allows the instruction.
abbrev pub nest : List Bool → Instr → Result (Option (List Bool)) ReadKind
nest opens (instr.Block t) = Ok (Some (false ∷ opens))
nest opens (instr.Loop t) = Ok (Some (false ∷ opens))
nest opens (instr.If t) = Ok (Some (true ∷ opens))
nest opens instr.Else = parts opens
nest opens instr.End = Ok (ends opens)
nest opens _ = Ok (Some opens)
