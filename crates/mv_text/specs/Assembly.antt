-- What a line does, and what a text is read as: the parts of a module, or the first fault (docs/FORMATS.md, "Assembler text").
-- The first faulty line counts, and on it the first kind in the order of the table.
use Rattle.std.specs.Prelude.{ℕ, ◌+◌, ◌^◌, nat_lt, Bool, true, false, List, [], ◌∷◌, ◌++◌, length, Option, Some, None, is_some, Result, Ok, Err, if◌then◌else◌}
use Rattle.mv_syntax.specs.declared.ops.ValType.{ValType}
use Rattle.mv_syntax.specs.declared.fault.ReadKind.{ReadKind}
use Rattle.mv_syntax.specs.declared.instr.Instr.{Instr}
use Rattle.mv_syntax.specs.declared.instr.Instr.TheVariants.{End}
use Rattle.mv_syntax.specs.declared.module.Func.{Func as Function}
use Rattle.mv_syntax.specs.Nesting.{nest}
use Rattle.mv_syntax.specs.Sections.{Parts, nothing_yet}
use Rattle.mv_scan.specs.declared.token.Token.{Token}
use Rattle.mv_scan.specs.Lines.{lines_of}
use Rattle.mv_statements.specs.declared.fault.TextFault.{TextFault}
use Rattle.mv_statements.specs.declared.fault.TextKind.{TextKind}
use Rattle.mv_statements.specs.declared.fault.TextKind.TheVariants as kinds
use Rattle.mv_statements.specs.declared.statement.Statement.{Statement}
use Rattle.mv_statements.specs.declared.statement.Statement.TheVariants as statements
use Rattle.mv_statements.specs.declared.statement.Reading.{Reading}
use Rattle.mv_statements.specs.declared.statement.Reading.TheVariants.{Unknown, Known}
use Rattle.mv_statements.specs.Statements.{reading_of}
use Rattle.mv_text.specs.Comments.{words_on}
use Rattle.mv_text.specs.States.{Body}
use Rattle.mv_text.specs.declared.state.State.{State}

-- ## Parts

-- what a directive outside functions adds, behind what is there
abbrev pub added : Statement → Parts → Parts
added (statements.Signature t) p = record p { types = p.types ++ t ∷ [] }
added (statements.Import i) p = record p { imports = p.imports ++ i ∷ [] }
added (statements.Table limits) p = record p { table = Some limits }
added (statements.Memory limits) p = record p { memory = Some limits }
added (statements.Global g) p = record p { globals = p.globals ++ g ∷ [] }
added (statements.Export x) p = record p { exports = p.exports ++ x ∷ [] }
added (statements.Start f) p = record p { start = Some f }
added (statements.Element e) p = record p { elements = p.elements ++ e ∷ [] }
added (statements.Segment s) p = record p { segments = p.segments ++ s ∷ [] }
added statement p = p

abbrev pub with_function : Function → Parts → Parts
with_function f p = record p { funcs = p.funcs ++ f ∷ [] }

-- ## One line

-- what may not stand outside functions: an instruction, `endfunc`, or a second table, memory or start
abbrev pub is_misplaced_outside : Parts → Statement → Bool
is_misplaced_outside p (statements.Instr i) = true
is_misplaced_outside p statements.EndFunc = true
is_misplaced_outside p (statements.Table limits) = is_some p.table
is_misplaced_outside p (statements.Memory limits) = is_some p.memory
is_misplaced_outside p (statements.Start f) = is_some p.start
is_misplaced_outside p statement = false

abbrev pub is_misplaced_inside : Statement → Bool
is_misplaced_inside (statements.Instr i) = false
is_misplaced_inside statements.EndFunc = false
is_misplaced_inside statement = true

abbrev pub is_misplaced_in : Option Body → Parts → Statement → Bool
is_misplaced_in None p statement = is_misplaced_outside p statement
is_misplaced_in (Some f) p statement = is_misplaced_inside statement

abbrev pub is_misplaced : State → Statement → Bool
is_misplaced s statement = is_misplaced_in s.inside s.parts statement

-- the first kind of those that show before blocks are looked at
abbrev pub kind_before : Bool → Option TextKind → Option TextKind
kind_before misplaced (Some kinds.Word) = Some kinds.Word
kind_before true fault = Some kinds.Place
kind_before false fault = fault

-- the blocks that are open behind an instruction; none where it has no place among these
abbrev pub stays_open : Result (Option (List Bool)) ReadKind → Option (List Bool)
stays_open (Ok (Some opens)) = Some opens
stays_open (Ok None) = None
stays_open (Err reason) = None

abbrev pub new_body : ℕ → List ValType → Body
new_body t locals = record { ftype = t; locals = locals; code = []; opens = [] }

-- the function with its last `end`
abbrev pub ended : Body → Function
ended f = record { ftype = f.ftype; locals = f.locals; code = f.code ++ End ∷ [] }

abbrev pub outside : Parts → State
outside p = record { parts = p; inside = None }

abbrev pub within : Parts → Body → State
within p f = record { parts = p; inside = Some f }

abbrev pub with_instr : Parts → Body → Instr → Option (List Bool) → Result State TextKind
with_instr p f i None = Err kinds.Nest
with_instr p f i (Some opens) = Ok (within p (record f { code = f.code ++ i ∷ []; opens = opens }))

abbrev pub end_func : Parts → Body → List Bool → Result State TextKind
end_func p f [] = Ok (outside (with_function (ended f) p))
end_func p f (open_ ∷ opens) = Err kinds.Nest

abbrev pub place_outside : Parts → Statement → Result State TextKind
place_outside p (statements.Func t locals) = Ok (within p (new_body t locals))
place_outside p statement = Ok (outside (added statement p))

abbrev pub place_inside : Parts → Body → Statement → Result State TextKind
place_inside p f (statements.Instr i) = with_instr p f i (stays_open (nest f.opens i))
place_inside p f statements.EndFunc = end_func p f f.opens
place_inside p f statement = Err kinds.Place

abbrev pub place_in : Option Body → Parts → Statement → Result State TextKind
place_in None p statement = place_outside p statement
place_in (Some f) p statement = place_inside p f statement

abbrev pub place : State → Statement → Result State TextKind
place s statement = place_in s.inside s.parts statement

abbrev pub unless_faulty : Option TextKind → Result State TextKind → Result State TextKind
unless_faulty None next = next
unless_faulty (Some kind) next = Err kind

abbrev pub judged : State → Reading → Result State TextKind
judged s Unknown = Err kinds.Word
judged s (Known statement fault) = unless_faulty (kind_before (is_misplaced s statement) fault) (place s statement)

-- what the words of a line do; a line without words does nothing
abbrev pub step : State → List Token → Result State TextKind
step s [] = Ok s
step s (word ∷ words) = judged s (reading_of (word ∷ words))

-- ## The whole text

abbrev pub fault_at : ℕ → TextKind → TextFault
fault_at at kind = record { line = at; kind = kind }

abbrev pub stepped : {T : Type 0} → ℕ → Result State TextKind → (State → Result T TextFault) → Result T TextFault
stepped at (Ok next) f = f next
stepped at (Err kind) f = Err (fault_at at kind)

-- a function that is not ended has its fault on the line after the last
abbrev pub finished_in : Option Body → Parts → ℕ → Result Parts TextFault
finished_in None p at = Ok p
finished_in (Some f) p at = Err (fault_at at kinds.Unended)

abbrev pub finished : State → ℕ → Result Parts TextFault
finished s at = finished_in s.inside s.parts at

abbrev pub assembled_from : State → ℕ → List (List ℕ) → Result Parts TextFault
assembled_from s at [] = finished s at
assembled_from s at (line ∷ lines) = stepped at (step s (words_on line)) (λ next. assembled_from next (at + 1) lines)

abbrev pub nothing : State
nothing = outside nothing_yet.parts

-- the parts, or the first fault
abbrev pub assembled : List ℕ → Result Parts TextFault
assembled text = if nat_lt (2 ^ 24) (length text) then Err (fault_at 1 kinds.Size) else assembled_from nothing 1 (lines_of text)
