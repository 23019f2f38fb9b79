-- The files that a command names, and what they are found to be.
use Rattle.std.specs.Prelude.{◌≡◌, ◌⊎◌, ℕ, zero, suc, List, [], ◌∷◌, length, Option, Ok, Err}
use Rattle.mv_syntax.specs.declared.fault.ReadFault.{ReadFault}
use Rattle.mv_syntax.specs.declared.fault.ValidFault.{ValidFault}
use Rattle.mv_syntax.specs.declared.fault.BornFault.TheVariants as born
use Rattle.mv_syntax.specs.Sections.{Parts}
use Rattle.mv_syntax.specs.Modules.{Spells, module_at}
use Rattle.mv_validator.specs.Valid.{IsValid}
use Rattle.mv_validator.specs.Checks.{IsFirstFaultOf}
use Rattle.mv_rules.specs.declared.fault.RuleFault.{RuleFault}
use Rattle.mv_rules.specs.declared.rule.Rule.{Rule}
use Rattle.mv_rules.specs.RulesText.{rules_in}
use Rattle.mv_rulecheck.specs.Atoms.{AreKept, IsFirstUnkept}
use Rattle.mv_outside.specs.Files.{FileMap}
use Rattle.mv_record.specs.File.{log_of}
use Rattle.mv_text.specs.Assembly.{assembled}
use Rattle.mv_writer.specs.Written.{written}
use Rattle.mv_inspect.specs.Audits.{AuditGoes, HasSomeLog, NotStarted, audit_files}
use Rattle.mv_inspect.specs.Told.{StopsAmong}
use Rattle.mv_guest.specs.Standing.{Standing}
use Rattle.mv_transform.specs.Births.{started}
use Rattle.mv_rehearse.specs.declared.beats.Beat.{Beat}
use Rattle.mv_words.specs.declared.command.Command.{Command}
use Rattle.mv_words.specs.declared.command.Command.TheVariants as ask
use Rattle.mv_schedule.specs.Schedules.{schedule_of}
use Rattle.mv_commands.specs.declared.ending.Finding.{Finding}
use Rattle.mv_commands.specs.declared.ending.Finding.TheVariants.{Refused, Valid, BadRules, Rules, BadSchedule, BadLog, BadText}

-- ## What a text is

-- it spells no module, and this is its first fault
abbrev pub HasFault : List ℕ → ReadFault → Type 0
HasFault text fault = module_at text ≡ Err fault

-- it spells a module, whose first fault is this
pub record IsInvalid (text : List ℕ) (fault : ValidFault) : Type 0 where
  pub parts : Parts
  pub spelled : Spells text parts
  pub fails : IsFirstFaultOf parts fault

-- it spells a valid module
pub record IsValidFile (text : List ℕ) : Type 0 where
  pub parts : Parts
  pub spelled : Spells text parts
  pub valid : IsValid parts

abbrev pub SaysOfModule : List ℕ → Finding → Type 0
SaysOfModule text (Refused (born.Read fault)) = HasFault text fault
SaysOfModule text (Refused (born.Valid fault)) = IsInvalid text fault
SaysOfModule text Valid = IsValidFile text
SaysOfModule text finding = ⊥

-- it is no rules file, or its first rule that doesn't keep what is read has this fault
abbrev pub HasRuleFault : List ℕ → RuleFault → Type 0
HasRuleFault text fault = (rules_in text ≡ Err fault) ⊎ ((rules : List Rule) × (rules_in text ≡ Ok rules) × IsFirstUnkept rules fault)

-- it has this number of rules, each of which keeps what is read
abbrev pub HasRules : List ℕ → ℕ → Type 0
HasRules text count = (rules : List Rule) × (rules_in text ≡ Ok rules) × AreKept rules × (count ≡ length rules)

abbrev pub SaysOfRules : List ℕ → Finding → Type 0
SaysOfRules text (BadRules fault) = HasRuleFault text fault
SaysOfRules text (Rules count) = HasRules text count
SaysOfRules text finding = ⊥

-- no guest with these arguments starts of it
abbrev pub IsRefused : List (List ℕ) → List ℕ → Finding → Type 0
IsRefused args text (Refused fault) = started text args ≡ Err fault
IsRefused args text finding = ⊥

abbrev pub Starts : List (List ℕ) → List ℕ → Type 0
Starts args text = (s : Standing) × (started text args ≡ Ok s)

abbrev pub IsNoSchedule : List ℕ → Finding → Type 0
IsNoSchedule text (BadSchedule fault) = schedule_of text ≡ Err fault
IsNoSchedule text finding = ⊥

abbrev pub IsSchedule : List ℕ → Type 0
IsSchedule text = (beats : List Beat) × (schedule_of text ≡ Ok beats)

-- it is the file of no log
abbrev pub IsNoLog : List ℕ → Finding → Type 0
IsNoLog text (BadLog fault) = log_of text ≡ Err fault
IsNoLog text finding = ⊥

-- no guest with the arguments of the log in the file of this path starts of it
abbrev pub IsRefusedBy : Option FileMap → List ℕ → List ℕ → Finding → Type 0
IsRefusedBy told log text (Refused fault) = NotStarted told log text fault
IsRefusedBy told log text finding = ⊥

-- the text is that of a valid module, whose shortest spelling is this file
pub record IsAssembly (text file : List ℕ) : Type 0 where
  pub parts : Parts
  pub is : assembled text ≡ Ok parts
  pub valid : IsValid parts
  pub file_is : file ≡ written parts

abbrev pub IsText : List ℕ → Type 0
IsText text = (file : List ℕ) × IsAssembly text file

-- it is no assembler text, or the module that it is has this first fault
abbrev pub IsNoText : List ℕ → Finding → Type 0
IsNoText text (BadText fault) = assembled text ≡ Err fault
IsNoText text (Refused (born.Valid fault)) = (parts : Parts) × (assembled text ≡ Ok parts) × IsFirstFaultOf parts fault
IsNoText text finding = ⊥

-- ## The files of a command, in the order in which they are read and judged

abbrev pub files_of : Command → List (List ℕ)
files_of (ask.Run old args) = old ∷ []
files_of (ask.Rehearse old schedule args ring log) = old ∷ schedule ∷ []
files_of (ask.Serve old args ring log) = old ∷ []
files_of (ask.Check path) = path ∷ []
files_of (ask.Rules forward) = forward ∷ []
files_of (ask.Audit log old updates) = audit_files log old updates
files_of (ask.Show log) = log ∷ []
files_of (ask.Assemble text to) = text ∷ []
files_of (ask.Load connections) = []
files_of ask.Help = []
files_of ask.Version = []

-- the command ends by what its file with this number is found to be
abbrev pub FoundAt : Command → Option FileMap → ℕ → List ℕ → Finding → Type 0
FoundAt (ask.Run old args) told n text finding = IsRefused (old ∷ args) text finding
FoundAt (ask.Rehearse old schedule args ring log) told zero text finding = IsRefused (old ∷ args) text finding
FoundAt (ask.Rehearse old schedule args ring log) told (suc n) text finding = IsNoSchedule text finding
FoundAt (ask.Serve old args ring log) told n text finding = IsRefused (old ∷ args) text finding
FoundAt (ask.Check path) told n text finding = SaysOfModule text finding
FoundAt (ask.Rules forward) told n text finding = SaysOfRules text finding
FoundAt (ask.Audit log old updates) told zero text finding = IsNoLog text finding
FoundAt (ask.Audit log old updates) told (suc zero) text finding = IsRefusedBy told log text finding
FoundAt (ask.Audit log old updates) told (suc (suc n)) text finding = ⊥
FoundAt (ask.Show log) told n text finding = IsNoLog text finding
FoundAt (ask.Assemble from to) told n text finding = IsNoText text finding
FoundAt (ask.Load connections) told n text finding = ⊥
FoundAt ask.Help told n text finding = ⊥
FoundAt ask.Version told n text finding = ⊥

-- the command goes on past its file with this number
abbrev pub GoesOn : Command → Option FileMap → ℕ → List ℕ → Type 0
GoesOn (ask.Run old args) told n text = Starts (old ∷ args) text
GoesOn (ask.Rehearse old schedule args ring log) told zero text = Starts (old ∷ args) text
GoesOn (ask.Rehearse old schedule args ring log) told (suc n) text = IsSchedule text
GoesOn (ask.Serve old args ring log) told n text = Starts (old ∷ args) text
GoesOn (ask.Check path) told n text = ⊥
GoesOn (ask.Rules forward) told n text = ⊥
GoesOn (ask.Audit log old updates) told n text = AuditGoes told log n text
GoesOn (ask.Show log) told n text = HasSomeLog text
GoesOn (ask.Assemble from to) told n text = IsText text
GoesOn (ask.Load connections) told n text = ⊥
GoesOn ask.Help told n text = ⊥
GoesOn ask.Version told n text = ⊥

-- ## Where a command ends

-- the command goes on past the files before this one, and P holds of its number
abbrev pub StopsAt : Command → Option FileMap → List ℕ → (ℕ → Type 0) → Type 0
StopsAt command told path P = StopsAmong (files_of command) (GoesOn command told) told path P
