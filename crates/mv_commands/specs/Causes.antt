-- What holds where a command line comes to an ending, and which ending comes (docs/GUIDE.md, "Statuses").
use Rattle.std.specs.Prelude.{◌≡◌, ◌≤◌, ◌⊎◌, ℕ, List, [], ◌∷◌, Option, Some, None, length, slice_get, Ok, Err}
use Rattle.mv_calls.specs.declared.calls.Item.{Item}
use Rattle.mv_outside.specs.Began.{Began}
use Rattle.mv_outside.specs.Causes.{Rose}
use Rattle.mv_outside.specs.Files.{ChangesOnly, FileMap, HasFile}
use Rattle.mv_outside.specs.Told.{told_more}
use Rattle.mv_load.specs.Figures.{figures_of}
use Rattle.mv_load.specs.Files.{guest_file}
use Rattle.mv_load.specs.Loads.{IsLoad, IsRehearsal, load_args}
use Rattle.mv_load.specs.declared.guests.Demo.TheVariants as demo
use Rattle.mv_history.specs.Ends.{EndsBy}
use Rattle.mv_history.specs.World.{AreLegal, begun, outside, texts}
use Rattle.mv_history.specs.declared.log.Entry.{Entry}
use Rattle.mv_history.specs.declared.log.How.{How}
use Rattle.mv_history.specs.declared.log.How.TheVariants as how
use Rattle.mv_history.specs.declared.log.Log.{Log}
use Rattle.mv_core.specs.Found.{AreFilesKept}
use Rattle.mv_rehearse.specs.Runs.{DidCalls, IsLegalRun, OrdersAnswered, end_status}
use Rattle.mv_rehearse.specs.declared.beats.Beat.{Beat}
use Rattle.mv_rehearse.specs.declared.outcome.ExitStatus.{ExitStatus}
use Rattle.mv_rehearse.specs.declared.outcome.ExitStatus.TheVariants as exit
use Rattle.mv_guest.specs.Standing.{Standing}
use Rattle.mv_transform.specs.Births.{behaviour, started}
use Rattle.mv_words.specs.Commands.{Says}
use Rattle.mv_words.specs.declared.command.Command.{Command}
use Rattle.mv_words.specs.declared.command.Command.TheVariants as ask
use Rattle.mv_record.specs.Fitting.{IsFile}
use Rattle.mv_inspect.specs.Audits.{AreInThrees, IsAudited}
use Rattle.mv_inspect.specs.Logs.{HasLog}
use Rattle.mv_inspect.specs.Told.{FileIs, IsMissing, StandsAt}
use Rattle.mv_commands.specs.Lines.{Shows, audit_status, finding_status}
use Rattle.mv_commands.specs.Named.{FoundAt, GoesOn, IsAssembly, IsText, Starts, StopsAt, files_of}
use Rattle.mv_schedule.specs.Schedules.{schedule_of}
use Rattle.mv_commands.specs.declared.ending.Finding.{Finding}
use Rattle.mv_commands.specs.declared.ending.LoadEnding.{LoadEnding}
use Rattle.mv_commands.specs.declared.ending.LoadEnding.TheVariants.{Ended as LoadEnded, Refused as LoadRefused}
use Rattle.mv_commands.specs.declared.ending.Ending.{Ending}
use Rattle.mv_commands.specs.declared.ending.Ending.TheVariants.{BadWords, NoMemory, Told, NoFile, Found, Ran, LogFailed, LogNotMade, Audited, Shown, Assembled, NotWritten, Loaded}

-- what kernel, console and files tell at a moment, and how often each has failed
pub record Seen : Type 0 where
  pub done : Option (List Item)
  pub coming : Option (List (Option (List ℕ)))
  pub said : Option (List ℕ)
  pub files : Option FileMap
  pub kernel_faults : ℕ
  pub console_faults : ℕ
  pub file_faults : ℕ

abbrev pub seen_of : {K C F : Type 0} → (K → Option (List Item)) → (K → ℕ) → (C → Option (List (Option (List ℕ)))) → (C → Option (List ℕ)) → (C → ℕ) → (F → Option FileMap) → (F → ℕ) → K → C → F → Seen
seen_of done kernel_faults coming said console_faults content file_faults kernel console files =
    record { done = done kernel; coming = coming console; said = said console; files = content files; kernel_faults = kernel_faults kernel; console_faults = console_faults console; file_faults = file_faults files }

-- ## No guest ran

-- the log of no run
pub record IsEmptyLog (log : Log) : Type 0 where
  pub entries : log.entries.list ≡ []
  pub updates : log.updates.list ≡ []
  pub bytes : log.start.«module» ≡ []
  pub args : log.start.args ≡ []

pub record NoGuest (before after : Seen) (log : Log) : Type 0 where
  pub entries : log.entries.list ≡ []
  pub updates : log.updates.list ≡ []
  pub bytes : log.start.«module» ≡ []
  pub args : log.start.args ≡ []
  pub done : after.done ≡ before.done
  pub coming : after.coming ≡ before.coming
  pub said : after.said ≡ before.said
  pub files : after.files ≡ before.files
  pub kernel_faults : after.kernel_faults ≡ before.kernel_faults
  pub console_faults : after.console_faults ≡ before.console_faults
  pub file_faults : before.file_faults ≤ after.file_faults

-- ## A guest ran

-- the run begins with what was there before the command, but that the files may have failed since
pub record IsBegun (before : Seen) (log : Log) (began : Began) : Type 0 where
  pub start : began.start ≡ log.start.«module»
  pub args : began.args ≡ log.start.args
  pub done : began.done ≡ before.done
  pub coming : began.coming ≡ before.coming
  pub said : began.said ≡ before.said
  pub files : began.files ≡ before.files
  pub kernel_faults : began.kernel_faults ≡ before.kernel_faults
  pub console_faults : began.console_faults ≡ before.console_faults
  pub file_faults : before.file_faults ≤ began.files_faults

-- A guest of the file OLD with these arguments ran, and its log ended so. The log is legal, and the calls done are the log's.
pub record IsRun (old : List ℕ) (args : List (List ℕ)) (before after : Seen) (began : Began) (log : Log) (h : How) : Type 0 where
  pub module_is : StandsAt before.files old log.start.«module»
  pub args_are : log.start.args ≡ old ∷ args
  pub begins : IsBegun before log began
  pub legal : IsLegalRun behaviour began log
  pub did : DidCalls began log.entries.list after.done after.kernel_faults
  pub files : AreFilesKept began.files began.files_faults log.entries.list log.updates.list after.files after.file_faults
  pub ends : EndsBy log.entries.list h

-- without orders, up to its end
pub record RanAlone (old : List ℕ) (args : List (List ℕ)) (before after : Seen) (log : Log) (h : How) : Type 0 where
  pub began : Began
  pub is_run : IsRun old args before after began log h
  pub no_texts : texts log.entries.list ≡ []
  pub no_updates : log.updates.list ≡ []
  pub coming : after.coming ≡ before.coming
  pub said : after.said ≡ before.said
  pub whole : EndsBy log.entries.list how.Cut → ⊥

-- by the beats of a schedule, over a feed of this capacity, with an operator who was asked for orders
pub record RanBy (old schedule : List ℕ) (args : List (List ℕ)) (ring : ℕ) (before after : Seen) (log : Log) (h : How) : Type 0 where
  pub began : Began
  pub is_run : IsRun old args before after began log h
  pub text : List ℕ
  pub schedule_is : StandsAt before.files schedule text
  pub beats : List Beat
  pub beats_are : schedule_of text ≡ Ok beats
  pub rehearsed : IsRehearsal behaviour began ring beats log
  pub orders : OrdersAnswered began log.entries.list after.coming after.said after.console_faults

-- on two threads, up to its end, with an operator who was asked for orders
pub record RanServed (old : List ℕ) (args : List (List ℕ)) (before after : Seen) (log : Log) (h : How) : Type 0 where
  pub began : Began
  pub is_run : IsRun old args before after began log h
  pub orders : OrdersAnswered began log.entries.list after.coming after.said after.console_faults
  pub whole : EndsBy log.entries.list how.Cut → ⊥

-- a guest ran for the command
abbrev pub RunOf : Command → Seen → Seen → Log → How → Type 0
RunOf (ask.Run old args) before after log h = RanAlone old args before after log h
RunOf (ask.Rehearse old schedule args ring path) before after log h = RanBy old schedule args ring before after log h
RunOf (ask.Serve old args ring path) before after log h = RanServed old args before after log h
RunOf command before after log h = ⊥

-- ## The file of the log

-- the file that the command writes, if there is one: where it wants its log, or the module of a text
abbrev pub output_of : Command → Option (List ℕ)
output_of (ask.Rehearse old schedule args ring path) = path
output_of (ask.Serve old args ring path) = path
output_of (ask.Assemble text to) = Some to
output_of command = None

-- nothing changed but files
pub record FilesAlone (mid after : Seen) : Type 0 where
  pub done : after.done ≡ mid.done
  pub coming : after.coming ≡ mid.coming
  pub said : after.said ≡ mid.said
  pub kernel_faults : after.kernel_faults ≡ mid.kernel_faults
  pub console_faults : after.console_faults ≡ mid.console_faults
  pub file_faults : mid.file_faults ≤ after.file_faults

-- the file of this path is the log's, and every other file is as it was
pub record HasLogFile (path : List ℕ) (mid : Option FileMap) (log : Log) (now : Option FileMap) : Type 0 where
  pub text : List ℕ
  pub is_file : IsFile text log.start.args log.entries.list
  pub stands : HasFile now path text
  pub others : ChangesOnly mid path now

-- the log is in the file of this path, or no file is wanted
abbrev pub IsKept : Option (List ℕ) → Seen → Log → Seen → Type 0
IsKept None mid log after = after ≡ mid
IsKept (Some path) mid log after = FilesAlone mid after × HasLogFile path mid.files log after.files

-- between the end of the run and that of the command the log was written where it is wanted, or that failed, or there was no
-- memory for it
abbrev pub Keeps : Option (List ℕ) → Seen → Log → Seen → Ending → Type 0
Keeps wanted mid log after (Ran h) = IsKept wanted mid log after
Keeps wanted mid log after (LogFailed path h) = (wanted ≡ Some path) × FilesAlone mid after × ChangesOnly mid.files path after.files × Rose mid.file_faults after.file_faults
Keeps wanted mid log after (LogNotMade h) = ((path : List ℕ) × (wanted ≡ Some path)) × FilesAlone mid after × (after.files ≡ mid.files)
Keeps wanted mid log after ending = ⊥

-- a guest ran for the command, its log ended so, and the ending says what became of the log's file
abbrev pub RanFor : Command → Seen → Seen → Log → How → Ending → Type 0
RanFor command before after log h ending = (mid : Seen) × RunOf command before mid log h × Keeps (output_of command) mid log after ending

-- ## The cause of an ending

abbrev pub IsAbout : Command → Type 0
IsAbout ask.Help = Unit {0}
IsAbout ask.Version = Unit {0}
IsAbout command = ⊥

abbrev pub RunsGuest : Command → Type 0
RunsGuest (ask.Run old args) = Unit {0}
RunsGuest (ask.Rehearse old schedule args ring log) = Unit {0}
RunsGuest (ask.Serve old args ring log) = Unit {0}
RunsGuest command = ⊥

abbrev pub IsAudit : Command → Type 0
IsAudit (ask.Audit log old updates) = Unit {0}
IsAudit command = ⊥

abbrev pub IsShow : Command → Type 0
IsShow (ask.Show log) = Unit {0}
IsShow command = ⊥

-- the command audits, and the files give this answer
abbrev pub AuditOf : Command → Option FileMap → Option ℕ → Type 0
AuditOf (ask.Audit log old updates) told answer = IsAudited told log old updates answer
AuditOf command told answer = ⊥

-- the command shows a log, and these are the entries of its file
abbrev pub ShowOf : Command → Option FileMap → List Entry → Type 0
ShowOf (ask.Show log) told entries = (text : List ℕ) × StandsAt told log text × ((args : List (List ℕ)) × HasLog text args entries)
ShowOf command told entries = ⊥

-- ## A text was assembled

-- no guest ran, and no file changed but this one
pub record WroteAlone (to : List ℕ) (before after : Seen) (log : Log) : Type 0 where
  pub entries : log.entries.list ≡ []
  pub updates : log.updates.list ≡ []
  pub bytes : log.start.«module» ≡ []
  pub args : log.start.args ≡ []
  pub done : after.done ≡ before.done
  pub coming : after.coming ≡ before.coming
  pub said : after.said ≡ before.said
  pub kernel_faults : after.kernel_faults ≡ before.kernel_faults
  pub console_faults : after.console_faults ≡ before.console_faults
  pub file_faults : before.file_faults ≤ after.file_faults
  pub others : ChangesOnly before.files to after.files

-- the second file is that of the module that the text in the first spells, and has so many bytes
pub record IsOutput (told : Option FileMap) (from : List ℕ) (now : Option FileMap) (to : List ℕ) (bytes : ℕ) : Type 0 where
  pub text : List ℕ
  pub stands : StandsAt told from text
  pub file : List ℕ
  pub is_assembly : IsAssembly text file
  pub has_file : HasFile now to file
  pub size : bytes ≡ length file

-- the command assembles, and P holds of the paths of its text and its module
abbrev pub AssemblyOf : Command → (List ℕ → List ℕ → Type 0) → Type 0
AssemblyOf (ask.Assemble from to) P = P from to
AssemblyOf command P = ⊥

abbrev pub Anything : List ℕ → List ℕ → Type 0
Anything from to = Unit {0}

abbrev pub IsAssemble : Command → Type 0
IsAssemble command = AssemblyOf command Anything

-- the text was assembled and its module written, or couldn't be
abbrev pub Assembles : Seen → Seen → Log → ℕ → List ℕ → List ℕ → Type 0
Assembles before after log bytes from to = IsOutput before.files from after.files to bytes × WroteAlone to before after log

abbrev pub FailsToWrite : Seen → Seen → Log → List ℕ → List ℕ → List ℕ → Type 0
FailsToWrite before after log path from to = (path ≡ to) × FileIs before.files from IsText × Rose before.file_faults after.file_faults × WroteAlone to before after log

-- ## A load

-- The rehearsal of a load of so many connections ended so, and these are the figures of its log, which is legal; or no guest starts
-- of its module, and there is no log.
abbrev pub LoadsAs : Log → LoadEnding → ℕ → Type 0
LoadsAs log (LoadEnded h figures) connections = IsLoad connections log × EndsBy log.entries.list h × (figures ≡ figures_of log.entries.list)
LoadsAs log (LoadRefused fault) connections = IsEmptyLog log × (started (guest_file demo.Old) load_args ≡ Err fault)

-- the command asks for a load, and P holds of how many connections it has
abbrev pub LoadOf : Command → (ℕ → Type 0) → Type 0
LoadOf (ask.Load connections) P = P connections
LoadOf command P = ⊥

abbrev pub AnyNumber : ℕ → Type 0
AnyNumber connections = Unit {0}

abbrev pub IsLoadCommand : Command → Type 0
IsLoadCommand command = LoadOf command AnyNumber

-- the capacity that a command gives is one of a feed, the files of updates come in threes, and a load has 1 to 10,000 connections
abbrev pub IsFeasible : Command → Type 0
IsFeasible (ask.Rehearse old schedule args ring log) = (4 ≤ ring) × (ring ≤ 4096)
IsFeasible (ask.Serve old args ring log) = (4 ≤ ring) × (ring ≤ 4096)
IsFeasible (ask.Audit log old updates) = AreInThrees updates
IsFeasible (ask.Load connections) = (1 ≤ connections) × (connections ≤ 10000)
IsFeasible command = Unit {0}

-- which commands there are: each, or each that starts no thread
abbrev pub Known : Type 1
Known = Command → Type 0

abbrev pub IsAny : Known
IsAny command = Unit {0}

abbrev pub IsOnOneThread : Known
IsOnOneThread (ask.Serve old args ring log) = ⊥
IsOnOneThread command = Unit {0}

-- of this command
abbrev pub CauseOf : Command → Seen → Seen → Log → Ending → Type 0
CauseOf command before after log BadWords = ⊥
CauseOf command before after log NoMemory = NoGuest before after log
CauseOf command before after log Told = IsAbout command × NoGuest before after log
CauseOf command before after log (NoFile path) =
    StopsAt command before.files path (λ n. IsMissing before.files path ⊎ Rose before.file_faults after.file_faults) × NoGuest before after log
CauseOf command before after log (Found path finding) =
    StopsAt command before.files path (λ n. FileIs before.files path (λ text. FoundAt command before.files n text finding)) × NoGuest before after log
CauseOf command before after log (Ran h) = RanFor command before after log h (Ran h)
CauseOf command before after log (LogFailed path h) = RanFor command before after log h (LogFailed path h)
CauseOf command before after log (LogNotMade h) = RanFor command before after log h (LogNotMade h)
CauseOf command before after log (Audited illegal) = AuditOf command before.files illegal × NoGuest before after log
CauseOf command before after log (Shown entries) = ShowOf command before.files entries.list × NoGuest before after log
CauseOf command before after log (Assembled bytes) = AssemblyOf command (Assembles before after log bytes)
CauseOf command before after log (NotWritten path) = AssemblyOf command (FailsToWrite before after log path)
CauseOf command before after log (Loaded loaded) = LoadOf command (LoadsAs log loaded) × (after ≡ before)

-- of these words, over the commands that there are; where memory was wanted before they were read, nobody knows what they say
abbrev pub HasCause : Known → List (List ℕ) → Seen → Seen → Log → Ending → Type 0
HasCause Is words before after log BadWords = ((command : Command) → Is command → Says words command → ⊥) × NoGuest before after log
HasCause Is words before after log NoMemory = NoGuest before after log
HasCause Is words before after log ending = (command : Command) × Is command × Says words command × CauseOf command before after log ending

-- the status: an ending has its cause, and shows
abbrev pub HasStatus : Known → List (List ℕ) → Seen → Seen → Log → Option (List ℕ) × Option (List ℕ) → ℕ × ℕ → ExitStatus → Type 0
HasStatus Is words before after log printed sink_faults status =
    (ending : Ending) × HasCause Is words before after log ending × Shows ending printed sink_faults status

-- ## The other way round

-- the sink failed, or memory was wanted
abbrev pub Otherwise : ℕ × ℕ → ExitStatus → Type 0
Otherwise sink_faults status = ((status ≡ exit.PrintFault) × Rose sink_faults.0 sink_faults.1) ⊎ (status ≡ exit.NoMemory)

-- a call on the files failed, or the above
abbrev pub Fails : Seen → Seen → ℕ × ℕ → ExitStatus → Type 0
Fails before after sink_faults status = ((status ≡ exit.FileFault) × Rose before.file_faults after.file_faults) ⊎ Otherwise sink_faults status

-- each file of the command is there, and it goes on past it
abbrev pub AllGoOn : Command → Option FileMap → Type 0
AllGoOn command told = (n : ℕ) (path : List ℕ) → slice_get (files_of command) n ≡ Some path → FileIs told path (GoesOn command told n)

-- Which status comes, by what the words and the told files are, unless something fails or memory is wanted.
pub record IsExact (Is : Known) (words : List (List ℕ)) (before after : Seen) (log : Log) (sink_faults : ℕ × ℕ) (status : ExitStatus) : Type 0 where
  pub bad_words : ((command : Command) → Is command → Says words command → ⊥) → (status ≡ exit.BadWords) ⊎ Otherwise sink_faults status
  pub told : (command : Command) → Is command → Says words command → IsAbout command → (status ≡ exit.Success) ⊎ Otherwise sink_faults status
  pub missing : (command : Command) (files : FileMap) (path : List ℕ) → Is command → Says words command → before.files ≡ Some files →
      StopsAt command before.files path (λ n. files path ≡ None) → (status ≡ exit.FileFault) ⊎ Otherwise sink_faults status
  pub found : (command : Command) (files : FileMap) (path : List ℕ) (finding : Finding) → Is command → Says words command → before.files ≡ Some files →
      StopsAt command before.files path (λ n. FileIs before.files path (λ text. FoundAt command before.files n text finding)) →
      (status ≡ finding_status finding) ⊎ Fails before after sink_faults status
  pub audited : (command : Command) (files : FileMap) → Is command → Says words command → IsAudit command → before.files ≡ Some files → AllGoOn command before.files →
      ((answer : Option ℕ) × AuditOf command before.files answer × (status ≡ audit_status answer)) ⊎ Fails before after sink_faults status
  pub assembled : (command : Command) (files : FileMap) → Is command → Says words command → IsAssemble command → before.files ≡ Some files → AllGoOn command before.files →
      (status ≡ exit.Success) ⊎ Fails before after sink_faults status
  pub loaded : (command : Command) → Is command → Says words command → IsLoadCommand command → Starts load_args (guest_file demo.Old) →
      ((h : How) × EndsBy log.entries.list h × (status ≡ end_status h)) ⊎ Otherwise sink_faults status
  pub shown : (command : Command) (files : FileMap) → Is command → Says words command → IsShow command → before.files ≡ Some files → AllGoOn command before.files →
      (status ≡ exit.Success) ⊎ Fails before after sink_faults status
  pub ran : (command : Command) (files : FileMap) → Is command → Says words command → RunsGuest command → before.files ≡ Some files →
      AllGoOn command before.files →
      ((h : How) × EndsBy log.entries.list h × (status ≡ end_status h)) ⊎ Fails before after sink_faults status

-- ## The calls

abbrev pub AsksLoad : List (List ℕ) → Type 0
AsksLoad words = (command : Command) × Says words command × IsLoadCommand command

-- The calls that the kernel did are exactly the log's. The log of a load is that of a kernel of its own: then this one did none.
pub record DidTheLog (words : List (List ℕ)) (before after : Option (List Item)) (log : Log) : Type 0 where
  pub done : (AsksLoad words → ⊥) → after ≡ told_more before (outside log.entries.list)
  pub load : AsksLoad words → after ≡ before

-- ## The log

-- it has no entry, or is a legal log of the guest that its start gives
abbrev pub IsLegal : Log → Type 0
IsLegal log =
    (log.entries.list ≡ []) ⊎ ((first : Standing) × (started log.start.«module» log.start.args ≡ Ok first) × AreLegal behaviour log.updates.list (begun first) log.entries.list)

-- ## The files

-- the words name this path for the log, or for the module of a text
abbrev pub NamesOutput : List (List ℕ) → List ℕ → Type 0
NamesOutput words path = (command : Command) × Says words command × (output_of command ≡ Some path)

-- each file is as before, but the one that the command writes
abbrev pub KeepsFiles : List (List ℕ) → Option FileMap → Option FileMap → Type 0
KeepsFiles words None now = now ≡ None
KeepsFiles words (Some before) now = (files : FileMap) × (now ≡ Some files) × ((path : List ℕ) → (NamesOutput words path → ⊥) → files path ≡ before path)
