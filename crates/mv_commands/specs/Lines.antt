-- The status and the line of each ending (docs/GUIDE.md, "Statuses"; docs/FORMATS.md, "Fault lines").
use Rattle.std.specs.Prelude.{◌≡◌, ℕ, List, [], ◌∷◌, ◌++◌, codes, decimal, Option, Some, None, ◌⊎◌}
use Rattle.mv_syntax.specs.declared.fault.StartFault.{StartFault}
use Rattle.mv_syntax.specs.declared.fault.StartFault.TheVariants as start
use Rattle.mv_syntax.specs.declared.fault.BornFault.{BornFault}
use Rattle.mv_syntax.specs.declared.fault.BornFault.TheVariants as born
use Rattle.mv_statements.specs.declared.fault.TextKind.{TextKind}
use Rattle.mv_statements.specs.declared.fault.TextKind.TheVariants as text_kind
use Rattle.mv_record.specs.declared.fault.RecordKind.{RecordKind}
use Rattle.mv_record.specs.declared.fault.RecordKind.TheVariants as record_kind
use Rattle.mv_load.specs.declared.figures.Figures.{Figures}
use Rattle.mv_orders.specs.Reply.{stage_name}
use Rattle.mv_show.specs.Lines.{log_text}
use Rattle.mv_show.specs.Names.{trap_text, read_kind_text, valid_kind_text, rule_kind_text}
use Rattle.mv_history.specs.declared.log.How.{How}
use Rattle.mv_history.specs.declared.log.How.TheVariants as how
use Rattle.mv_rehearse.specs.Runs.{end_status}
use Rattle.mv_rehearse.specs.declared.outcome.ExitStatus.{ExitStatus}
use Rattle.mv_rehearse.specs.declared.outcome.ExitStatus.TheVariants as exit
use Rattle.mv_outside.specs.Causes.{Rose}
use Rattle.mv_outside.specs.Told.{told_more, AddsPart}
use Rattle.mv_schedule.specs.declared.fault.ScheduleFault.{ScheduleFault}
use Rattle.mv_schedule.specs.declared.fault.ScheduleFault.TheVariants.{Letter, Limit}
use Rattle.mv_commands.specs.declared.ending.Finding.{Finding}
use Rattle.mv_commands.specs.declared.ending.Finding.TheVariants.{Refused, Valid, BadRules, Rules, BadSchedule, BadLog, BadText}
use Rattle.mv_commands.specs.declared.ending.LoadEnding.{LoadEnding}
use Rattle.mv_commands.specs.declared.ending.LoadEnding.TheVariants.{Ended as LoadEnded, Refused as LoadRefused}
use Rattle.mv_commands.specs.declared.ending.Ending.{Ending}
use Rattle.mv_commands.specs.declared.ending.Ending.TheVariants.{BadWords, NoMemory, Told, NoFile, Found, Ran, LogFailed, LogNotMade, Audited, Shown, Assembled, NotWritten, Loaded}

-- ## Names

abbrev pub record_kind_text : RecordKind → List ℕ
record_kind_text record_kind.Magic = codes "Magic"
record_kind_text record_kind.Cut = codes "Cut"
record_kind_text record_kind.Code = codes "Code"
record_kind_text record_kind.Length = codes "Length"
record_kind_text record_kind.Suit = codes "Suit"
record_kind_text record_kind.Limit = codes "Limit"

abbrev pub text_kind_text : TextKind → List ℕ
text_kind_text text_kind.Size = codes "Size"
text_kind_text text_kind.Word = codes "Word"
text_kind_text text_kind.Place = codes "Place"
text_kind_text text_kind.Count = codes "Count"
text_kind_text text_kind.Quote = codes "Quote"
text_kind_text text_kind.Number = codes "Number"
text_kind_text text_kind.Nest = codes "Nest"
text_kind_text text_kind.Unended = codes "Unended"

-- ## Lines

abbrev pub line_feed : List ℕ
line_feed = 10 ∷ []

abbrev pub numbers_text : List ℕ → List ℕ
numbers_text [] = []
numbers_text (n ∷ ns) = codes " " ++ (decimal n ++ numbers_text ns)

-- a file's fault: its kind, and where it stands
abbrev pub fault_text : List ℕ → List ℕ → List ℕ → List ℕ
fault_text path kind numbers = codes "mv: " ++ (path ++ (codes ": " ++ (kind ++ (numbers_text numbers ++ line_feed))))

abbrev pub start_fault_text : List ℕ → StartFault → List ℕ
start_fault_text path start.NoEntry = fault_text path (codes "NoEntry") []
start_fault_text path (start.UnknownImport import) = fault_text path (codes "UnknownImport") (import ∷ [])
start_fault_text path (start.ImportType import) = fault_text path (codes "ImportType") (import ∷ [])
start_fault_text path (start.ElementBounds segment) = fault_text path (codes "ElementBounds") (segment ∷ [])
start_fault_text path (start.DataBounds segment) = fault_text path (codes "DataBounds") (segment ∷ [])
start_fault_text path (start.Trap t) = fault_text path (trap_text t) []

-- the last four are no faults of a guest that starts
abbrev pub refusal_text : List ℕ → BornFault → List ℕ
refusal_text path (born.Read fault) = fault_text path (read_kind_text fault.kind) (fault.place ∷ [])
refusal_text path (born.Valid fault) = fault_text path (valid_kind_text fault.kind) (fault.part ∷ fault.item ∷ fault.at ∷ [])
refusal_text path (born.Start fault) = start_fault_text path fault
refusal_text path born.NoTransform = fault_text path (codes "NoTransform") []
refusal_text path born.NoResume = fault_text path (codes "NoResume") []
refusal_text path (born.Transform t) = fault_text path (trap_text t) []
refusal_text path (born.Code code) = fault_text path (codes "Code") (code ∷ [])

abbrev pub schedule_fault_text : List ℕ → ScheduleFault → List ℕ
schedule_fault_text path (Letter place) = fault_text path (codes "Letter") (place ∷ [])
schedule_fault_text path Limit = fault_text path (codes "Limit") (0 ∷ [])

abbrev pub finding_text : List ℕ → Finding → List ℕ
finding_text path (Refused fault) = refusal_text path fault
finding_text path Valid = codes "valid" ++ line_feed
finding_text path (BadRules fault) = fault_text path (rule_kind_text fault.kind) (fault.line ∷ [])
finding_text path (Rules count) = codes "rules " ++ (decimal count ++ line_feed)
finding_text path (BadSchedule fault) = schedule_fault_text path fault
finding_text path (BadLog fault) = fault_text path (record_kind_text fault.kind) (fault.place ∷ [])
finding_text path (BadText fault) = fault_text path (text_kind_text fault.kind) (fault.line ∷ [])

-- the end line of a run
abbrev pub end_text : How → List ℕ
end_text (how.Ended code) = codes "ended " ++ (decimal code ++ line_feed)
end_text (how.Trapped t) = codes "trapped " ++ (trap_text t ++ line_feed)
end_text how.Halted = codes "halted" ++ line_feed
end_text how.Cut = codes "cut" ++ line_feed
end_text how.KernelFault = codes "kernel fault" ++ line_feed
end_text how.LogLimit = codes "log limit" ++ line_feed
end_text how.Memory = codes "no memory" ++ line_feed

-- the answer of an audit
abbrev pub audit_text : Option ℕ → List ℕ
audit_text None = codes "yes" ++ line_feed
audit_text (Some entry) = codes "no " ++ (decimal entry ++ line_feed)

abbrev pub missing_text : List ℕ → List ℕ
missing_text path = codes "mv: file " ++ (path ++ line_feed)

abbrev pub no_memory_text : List ℕ
no_memory_text = codes "no memory" ++ line_feed

-- a line of a name and a number
abbrev pub figure_text : List ℕ → ℕ → List ℕ
figure_text name number = name ++ (32 ∷ (decimal number ++ line_feed))

-- the figures of a load's log, and that it is legal
abbrev pub figures_text : Figures → List ℕ
figures_text f =
    figure_text (codes "calls") f.calls ++ (figure_text (codes "bytes") f.bytes ++ (figure_text (codes "forks") f.forks ++ (figure_text (codes "promotes") f.promotes
    ++ (codes "stage " ++ (stage_name f.stage ++ (line_feed ++ (codes "audit yes" ++ line_feed)))))))

abbrev pub load_text : LoadEnding → List ℕ
load_text (LoadEnded h figures) = figures_text figures
load_text (LoadRefused fault) = refusal_text (codes "old") fault

-- the line that says an ending; of a log that is shown there is a line for each entry, and what the program says of itself is any
-- text
abbrev pub IsLine : Ending → List ℕ → Type 0
IsLine BadWords text = text ≡ codes "mv: bad words" ++ line_feed
IsLine NoMemory text = text ≡ no_memory_text
IsLine Told text = Unit {0}
IsLine (NoFile path) text = text ≡ missing_text path
IsLine (Found path finding) text = text ≡ finding_text path finding
IsLine (Ran h) text = text ≡ end_text h
IsLine (LogFailed path h) text = text ≡ missing_text path
IsLine (LogNotMade h) text = text ≡ no_memory_text
IsLine (Audited illegal) text = text ≡ audit_text illegal
IsLine (Shown entries) text = text ≡ log_text entries.list
IsLine (Assembled bytes) text = text ≡ codes "bytes " ++ (decimal bytes ++ line_feed)
IsLine (NotWritten path) text = text ≡ missing_text path
IsLine (Loaded loaded) text = text ≡ load_text loaded

-- ## Fixed lines

-- For private clauses. The end line of a run has no number and no name in it,
abbrev pub IsFixedEnd : How → Type 0
IsFixedEnd (how.Ended code) = ⊥
IsFixedEnd (how.Trapped trap) = ⊥
IsFixedEnd h = Unit {0}

-- nor has the line of what a file is found to be,
abbrev pub IsFixedFinding : Finding → Type 0
IsFixedFinding Valid = Unit {0}
IsFixedFinding finding = ⊥

-- nor that of an ending: it is the same each time.
abbrev pub IsFixed : Ending → Type 0
IsFixed BadWords = Unit {0}
IsFixed NoMemory = Unit {0}
IsFixed Told = Unit {0}
IsFixed (LogNotMade h) = Unit {0}
IsFixed (Audited None) = Unit {0}
IsFixed (Ran h) = IsFixedEnd h
IsFixed (Found path finding) = IsFixedFinding finding
IsFixed ending = ⊥

-- ## Statuses

abbrev pub finding_status : Finding → ExitStatus
finding_status (Refused fault) = exit.BadFile
finding_status Valid = exit.Success
finding_status (BadRules fault) = exit.BadFile
finding_status (Rules count) = exit.Success
finding_status (BadSchedule fault) = exit.BadFile
finding_status (BadLog fault) = exit.BadFile
finding_status (BadText fault) = exit.BadFile

abbrev pub audit_status : Option ℕ → ExitStatus
audit_status None = exit.Success
audit_status (Some entry) = exit.IllegalLog

abbrev pub loaded_status : LoadEnding → ExitStatus
loaded_status (LoadEnded h figures) = end_status h
loaded_status (LoadRefused fault) = exit.BadFile

abbrev pub status_of : Ending → ExitStatus
status_of BadWords = exit.BadWords
status_of NoMemory = exit.NoMemory
status_of Told = exit.Success
status_of (NoFile path) = exit.FileFault
status_of (Found path finding) = finding_status finding
status_of (Ran h) = end_status h
status_of (LogFailed path h) = exit.FileFault
status_of (LogNotMade h) = exit.NoMemory
status_of (Audited illegal) = audit_status illegal
status_of (Shown entries) = exit.Success
status_of (Assembled bytes) = exit.Success
status_of (NotWritten path) = exit.FileFault
status_of (Loaded loaded) = loaded_status loaded

-- An ending shows by its status and its whole line; or by a fault of printing where the sink failed, with a part of the line; or
-- by want of memory, with nothing.
abbrev pub Shows : Ending → Option (List ℕ) × Option (List ℕ) → ℕ × ℕ → ExitStatus → Type 0
Shows ending printed faults status =
    (line : List ℕ) × IsLine ending line × (((status ≡ status_of ending) × (printed.1 ≡ told_more printed.0 line))
    ⊎ (((status ≡ exit.PrintFault) × Rose faults.0 faults.1 × AddsPart printed.0 line printed.1)
    ⊎ ((status ≡ exit.NoMemory) × (printed.1 ≡ printed.0))))
