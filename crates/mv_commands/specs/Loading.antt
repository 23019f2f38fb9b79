-- For private clauses: what a guest's file is found to be, and what a command comes to before its line is printed.
use Rattle.std.specs.Prelude.{◌≡◌, ◌⊎◌, ℕ, List, Option, Some, None, Ok, Err}
use Rattle.mv_outside.specs.Causes.{Rose}
use Rattle.mv_outside.specs.Files.{FileMap}
use Rattle.mv_core.specs.Sound.{IsNewRun}
use Rattle.mv_transform.specs.Births.{behaviour, started}
use Rattle.mv_inspect.specs.Told.{FileIs, IsMissing, StandsAt}
use Rattle.mv_inspect.specs.declared.auditing.Inspected.{Inspected}
use Rattle.mv_inspect.specs.declared.auditing.Inspected.TheVariants as inspected
use Rattle.mv_inspect.specs.declared.listing.Listed.{Listed}
use Rattle.mv_inspect.specs.declared.listing.Listed.TheVariants as listed
use Rattle.mv_commands.specs.Named.{IsAssembly, IsNoText}
use Rattle.mv_schedule.specs.Schedules.{schedule_of}
use Rattle.mv_commands.specs.declared.assembling.Made.{Made}
use Rattle.mv_commands.specs.declared.assembling.Made.TheVariants as made
use Rattle.mv_commands.specs.declared.ending.Finding.{Finding}
use Rattle.mv_commands.specs.declared.ending.Finding.TheVariants as finding
use Rattle.mv_commands.specs.declared.ending.Ending.{Ending}
use Rattle.mv_commands.specs.declared.ending.Ending.TheVariants as ending
use Rattle.mv_commands.specs.declared.loading.Loaded.{Loaded}
use Rattle.mv_commands.specs.declared.loading.Loaded.TheVariants as loaded
use Rattle.mv_commands.specs.declared.loading.Planned.{Planned}
use Rattle.mv_commands.specs.declared.loading.Planned.TheVariants as planned
use Rattle.mv_commands.specs.declared.judging.Judged.{Judged}
use Rattle.mv_commands.specs.declared.judging.Judged.TheVariants as judged

-- what the file of a guest with these arguments is found to be
abbrev pub IsLoaded : Option FileMap → List ℕ → List (List ℕ) → ℕ → ℕ → Loaded → Type 0
IsLoaded told path args faults faults_now loaded.NoFile = IsMissing told path ⊎ Rose faults faults_now
IsLoaded told path args faults faults_now loaded.NoMemory = Unit {0}
IsLoaded told path args faults faults_now (loaded.Refused fault) = FileIs told path (λ text. started text args ≡ Err fault)
IsLoaded told path args faults faults_now (loaded.Starts guest log) =
    IsNewRun behaviour guest log × (log.start.args ≡ args) × StandsAt told path log.start.«module»

-- what a text that was read is found to be
abbrev pub IsStarted : List ℕ → List (List ℕ) → Loaded → Type 0
IsStarted text args loaded.NoFile = ⊥
IsStarted text args loaded.NoMemory = Unit {0}
IsStarted text args (loaded.Refused fault) = started text args ≡ Err fault
IsStarted text args (loaded.Starts guest log) = IsNewRun behaviour guest log × (log.start.args ≡ args) × (log.start.«module» ≡ text)

-- what the file of a schedule is found to be
abbrev pub IsPlanned : Option FileMap → List ℕ → ℕ → ℕ → Planned → Type 0
IsPlanned told path faults faults_now planned.NoFile = IsMissing told path ⊎ Rose faults faults_now
IsPlanned told path faults faults_now planned.NoMemory = Unit {0}
IsPlanned told path faults faults_now (planned.Refused fault) = FileIs told path (λ text. schedule_of text ≡ Err fault)
IsPlanned told path faults faults_now (planned.Beats beats) = (text : List ℕ) × StandsAt told path text × (schedule_of text ≡ Ok beats.items)

-- what a text that was read is found to be
abbrev pub IsPlannedOf : List ℕ → Planned → Type 0
IsPlannedOf text planned.NoFile = ⊥
IsPlannedOf text planned.NoMemory = Unit {0}
IsPlannedOf text (planned.Refused fault) = schedule_of text ≡ Err fault
IsPlannedOf text (planned.Beats beats) = schedule_of text ≡ Ok beats.items

-- which findings say what a text is
abbrev pub Meaning : Type 1
Meaning = List ℕ → Finding → Type 0

-- what the file of this path is found to be
abbrev pub IsJudged : Meaning → Option FileMap → List ℕ → ℕ → ℕ → Judged → Type 0
IsJudged Says told path faults faults_now judged.NoFile = IsMissing told path ⊎ Rose faults faults_now
IsJudged Says told path faults faults_now judged.NoMemory = Unit {0}
IsJudged Says told path faults faults_now (judged.Found finding) = FileIs told path (λ text. Says text finding)

abbrev pub IsJudgedOf : Meaning → List ℕ → Judged → Type 0
IsJudgedOf Says text judged.NoFile = ⊥
IsJudgedOf Says text judged.NoMemory = Unit {0}
IsJudgedOf Says text (judged.Found finding) = Says text finding

-- the ending of a command that judges this file
abbrev pub ending_by : List ℕ → Judged → Ending
ending_by path judged.NoFile = ending.NoFile path
ending_by path judged.NoMemory = ending.NoMemory
ending_by path (judged.Found finding) = ending.Found path finding

-- the ending of an audit, and of a log that is to be shown
abbrev pub audit_ending_by : List ℕ → List ℕ → Inspected → Ending
audit_ending_by log old (inspected.NoFile path) = ending.NoFile path
audit_ending_by log old inspected.NoMemory = ending.NoMemory
audit_ending_by log old (inspected.BadLog fault) = ending.Found log (finding.BadLog fault)
audit_ending_by log old (inspected.BadModule fault) = ending.Found old (finding.Refused fault)
audit_ending_by log old inspected.Legal = ending.Audited None
audit_ending_by log old (inspected.Illegal entry) = ending.Audited (Some entry)

abbrev pub show_ending_by : List ℕ → Listed → Ending
show_ending_by log listed.NoFile = ending.NoFile log
show_ending_by log listed.NoMemory = ending.NoMemory
show_ending_by log (listed.Refused fault) = ending.Found log (finding.BadLog fault)
show_ending_by log (listed.Log args entries) = ending.Shown entries

-- what the file of an assembler text is found to be
abbrev pub IsMade : Option FileMap → List ℕ → ℕ → ℕ → Made → Type 0
IsMade told path faults faults_now made.NoFile = IsMissing told path ⊎ Rose faults faults_now
IsMade told path faults faults_now made.NoMemory = Unit {0}
IsMade told path faults faults_now (made.Refused found) = FileIs told path (λ text. IsNoText text found)
IsMade told path faults faults_now (made.Module file) = (text : List ℕ) × StandsAt told path text × IsAssembly text file.items

-- what a text that was read is found to be
abbrev pub IsMadeOf : List ℕ → Made → Type 0
IsMadeOf text made.NoFile = ⊥
IsMadeOf text made.NoMemory = Unit {0}
IsMadeOf text (made.Refused found) = IsNoText text found
IsMadeOf text (made.Module file) = IsAssembly text file.items
