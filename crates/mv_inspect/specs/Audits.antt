-- What an audit of a log file answers.
use Rattle.std.specs.Prelude.{◌≡◌, ◌⊎◌, ℕ, zero, suc, List, [], ◌∷◌, ◌++◌, Option, Some, None, Ok, Err, if◌then◌else◌}
use Rattle.std.specs.Str.{bytes_eq}
use Rattle.mv_syntax.specs.declared.fault.BornFault.{BornFault}
use Rattle.mv_outside.specs.Causes.{Rose}
use Rattle.mv_outside.specs.Files.{FileMap}
use Rattle.mv_history.specs.Answers.{none_word}
use Rattle.mv_history.specs.World.{World, AreLegal, IsFirstIllegal, begun}
use Rattle.mv_history.specs.declared.log.Entry.{Entry}
use Rattle.mv_history.specs.declared.updates.Update.{Update}
use Rattle.mv_core.specs.Found.{AreRead}
use Rattle.mv_guest.specs.Standing.{Standing}
use Rattle.mv_transform.specs.Births.{behaviour, started}
use Rattle.mv_record.specs.File.{log_of}
use Rattle.mv_inspect.specs.Told.{IsMissing, StandsAt, FileIs, StopsAmong}
use Rattle.mv_inspect.specs.Logs.{HasLog, HasRecord}
use Rattle.mv_inspect.specs.declared.auditing.Inspected.{Inspected}
use Rattle.mv_inspect.specs.declared.auditing.Inspected.TheVariants as inspected

-- ## The files of an audit

-- the files of updates come in threes: module, forward rules, reverse rules
abbrev pub AreInThrees : List (List ℕ) → Type 0
AreInThrees [] = Unit {0}
AreInThrees (m ∷ []) = ⊥
AreInThrees (m ∷ f ∷ []) = ⊥
AreInThrees (m ∷ f ∷ r ∷ names) = AreInThrees names

-- the file of the rules that a word names: none where it is the word for no rules
abbrev pub rules_file : List ℕ → List (List ℕ)
rules_file name = if bytes_eq name none_word then [] else name ∷ []

-- the files of one update
abbrev pub three_files : List ℕ → List ℕ → List ℕ → List (List ℕ)
three_files m f r = m ∷ (rules_file f ++ rules_file r)

abbrev pub update_files : List (List ℕ) → List (List ℕ)
update_files (m ∷ f ∷ r ∷ names) = three_files m f r ++ update_files names
update_files names = []

-- the files of an audit, in the order in which they are read
abbrev pub audit_files : List ℕ → List ℕ → List (List ℕ) → List (List ℕ)
audit_files log old names = log ∷ old ∷ update_files names

-- the files of the updates that are named so
abbrev pub AreNamed : Option FileMap → List (List ℕ) → List Update → Type 0
AreNamed told (m ∷ f ∷ r ∷ names) updates = (here : Update) × (more : List Update) × (updates ≡ here ∷ more) × AreRead told m f r here × AreNamed told names more
AreNamed told names updates = updates ≡ []

-- ## What the files are

abbrev pub HasSomeLog : List ℕ → Type 0
HasSomeLog text = (args : List (List ℕ)) × (entries : List Entry) × HasLog text args entries

-- no guest with the log's arguments starts of the text
abbrev pub NotStarted : Option FileMap → List ℕ → List ℕ → BornFault → Type 0
NotStarted told log text fault = (args : List (List ℕ)) × (entries : List Entry) × HasRecord told log args entries × (started text args ≡ Err fault)

-- a guest with the log's arguments starts of the text
abbrev pub StartsWith : Option FileMap → List ℕ → List ℕ → Type 0
StartsWith told log text = (args : List (List ℕ)) × (entries : List Entry) × (s : Standing) × HasRecord told log args entries × (started text args ≡ Ok s)

-- the audit goes on past its file with this number; the files of updates are read, and not judged
abbrev pub AuditGoes : Option FileMap → List ℕ → ℕ → List ℕ → Type 0
AuditGoes told log zero text = HasSomeLog text
AuditGoes told log (suc zero) text = StartsWith told log text
AuditGoes told log (suc (suc n)) text = Unit {0}

-- ## The answer

-- none: the log is legal over the module's behaviour; some number: its entry of that number is the first that may not come
abbrev pub IsAuditAnswer : List Update → World Standing → List Entry → Option ℕ → Type 0
IsAuditAnswer updates w entries None = AreLegal behaviour updates w entries
IsAuditAnswer updates w entries (Some i) = IsFirstIllegal behaviour updates w entries i

-- the files give this answer
pub record IsAudited (told : Option FileMap) (log old : List ℕ) (names : List (List ℕ)) (answer : Option ℕ) : Type 0 where
  pub text : List ℕ
  pub log_is : StandsAt told log text
  pub args : List (List ℕ)
  pub entries : List Entry
  pub has_log : HasLog text args entries
  pub bytes : List ℕ
  pub module_is : StandsAt told old bytes
  pub updates : List Update
  pub updates_are : AreNamed told names updates
  pub first : Standing
  pub starts : started bytes args ≡ Ok first
  pub answer_is : IsAuditAnswer updates (begun first) entries answer

-- what an audit answers; the counts are those of the files' faults, before and after
abbrev pub IsInspected : Option FileMap → List ℕ → List ℕ → List (List ℕ) → ℕ → ℕ → Inspected → Type 0
IsInspected told log old names faults faults_now (inspected.NoFile path) =
    StopsAmong (audit_files log old names) (AuditGoes told log) told path (λ n. IsMissing told path ⊎ Rose faults faults_now)
IsInspected told log old names faults faults_now inspected.NoMemory = Unit {0}
IsInspected told log old names faults faults_now (inspected.BadLog fault) = FileIs told log (λ text. log_of text ≡ Err fault)
IsInspected told log old names faults faults_now (inspected.BadModule fault) = FileIs told log HasSomeLog × FileIs told old (λ text. NotStarted told log text fault)
IsInspected told log old names faults faults_now inspected.Legal = IsAudited told log old names None
IsInspected told log old names faults faults_now (inspected.Illegal entry) = IsAudited told log old names (Some entry)
