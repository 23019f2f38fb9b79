-- The causes of endings exclude one another, so the status is told by the words and the files.
use Rattle.std.proofs.Common.{◌≡◌, ◌<◌, ◌≤◌, ℕ, zero, suc, [], ◌∷◌, List, refl, sym, ap, ap₂, ◌∙◌, subst, Option, Some, None, Result, Ok, Err, arith, ◌⊎◌, inl, inr}
use Rattle.std.specs.Prelude.{slice_get}
use Rattle.mv_syntax.specs.declared.fault.BornFault.{BornFault}
use Rattle.mv_syntax.specs.declared.fault.BornFault.TheVariants as born
use Rattle.mv_syntax.specs.Sections.{Parts}
use Rattle.mv_syntax.proofs.ModuleLaws.{module_complete}
use Rattle.mv_validator.specs.Checks.{IsFirstFaultOf}
use Rattle.mv_validator.proofs.Laws.{fault-invalid}
use Rattle.mv_rules.specs.declared.rule.Rule.{Rule}
use Rattle.mv_rules.specs.declared.fault.RuleFault.{RuleFault}
use Rattle.mv_rulecheck.specs.Atoms.{IsKept, IsUnkept, AreKept, IsFirstUnkept}
use Rattle.mv_outside.specs.Began.{Began}
use Rattle.mv_outside.specs.Causes.{Rose}
use Rattle.mv_outside.specs.Files.{FileMap}
use Rattle.mv_history.specs.Ends.{EndsBy}
use Rattle.mv_load.specs.Files.{guest_file}
use Rattle.mv_load.specs.Loads.{load_args}
use Rattle.mv_load.specs.declared.guests.Demo.TheVariants as demo
use Rattle.mv_history.specs.declared.log.How.{How}
use Rattle.mv_history.specs.declared.log.Log.{Log}
use Rattle.mv_rehearse.specs.Runs.{end_status}
use Rattle.mv_rehearse.specs.declared.outcome.ExitStatus.{ExitStatus}
use Rattle.mv_rehearse.specs.declared.outcome.ExitStatus.TheVariants as exit
use Rattle.mv_transform.specs.Births.{started}
use Rattle.mv_words.specs.Commands.{Says}
use Rattle.mv_words.specs.declared.command.Command.{Command}
use Rattle.mv_words.specs.declared.command.Command.TheVariants as ask
use Rattle.mv_words.proofs.OneReading.{one_reading}
use Rattle.mv_commands.specs.Lines.{Shows, status_of, audit_status, finding_status, loaded_status}
use Rattle.mv_history.specs.declared.log.Entry.{Entry}
use Rattle.mv_record.specs.File.{log_of}
use Rattle.mv_inspect.specs.Audits.{HasSomeLog, StartsWith}
use Rattle.mv_inspect.specs.Logs.{HasRecord}
use Rattle.mv_inspect.specs.Told.{FileIs, IsMissing}
use Rattle.mv_commands.specs.Named.{FoundAt, GoesOn, StopsAt, SaysOfModule, SaysOfRules, HasRuleFault, HasRules, IsRefused, IsRefusedBy, IsNoSchedule, IsSchedule, IsNoLog, Starts, files_of}
use Rattle.mv_commands.specs.Causes.{Known, Seen, CauseOf, HasCause, HasStatus, IsAbout, RunsGuest, RunOf, RanFor, IsRun, IsAudit, IsShow, AuditOf, ShowOf, Keeps, output_of, AssemblyOf, Assembles, FailsToWrite, IsAssemble, IsLoadCommand, LoadOf, LoadsAs, AllGoOn, Otherwise, Fails, IsExact}
use Rattle.mv_syntax.specs.declared.fault.ValidFault.{ValidFault}
use Rattle.mv_text.specs.Assembly.{assembled}
use Rattle.mv_commands.specs.Named.{IsAssembly, IsNoText, IsText}
use Rattle.mv_commands.proofs.Comings.{assembly_is, load_is, rose_since}
use Rattle.mv_commands.proofs.Updates.{named_there}
use Rattle.mv_commands.specs.declared.ending.Finding.{Finding}
use Rattle.mv_commands.specs.declared.ending.Finding.TheVariants.{Refused, Valid, BadRules, Rules, BadSchedule, BadLog, BadText}
use Rattle.mv_commands.specs.declared.ending.LoadEnding.{LoadEnding}
use Rattle.mv_commands.specs.declared.ending.LoadEnding.TheVariants.{Ended as LoadEnded, Refused as LoadRefused}
use Rattle.mv_commands.specs.declared.ending.Ending.{Ending}
use Rattle.mv_commands.specs.declared.ending.Ending.TheVariants as ending_is

-- ## What was shown

-- the status is the ending's, or the sink failed, or memory was wanted
shown : (ending : Ending) (printed : Option (List ℕ) × Option (List ℕ)) (faults : ℕ × ℕ) (status : ExitStatus) → Shows ending printed faults status → (status ≡ status_of ending) ⊎ Otherwise faults status
shown ending printed faults status shows = elim shows.2 [
  | inl whole ↦ inl whole.0
  | inr (inl part) ↦ inr (inl (part.0, part.1))
  | inr (inr none) ↦ inr (inr none.0)
]

-- ## What texts are

ok_not_err : {A E : Type 0} (r : Result A E) (a : A) (e : E) → r ≡ Ok a → r ≡ Err e → ⊥
ok_not_err r a e first second = cc

same_ok : {A E : Type 0} (r : Result A E) (a b : A) → r ≡ Ok a → r ≡ Ok b → a ≡ b
same_ok r a b first second = cc

-- a valid module has no fault
valid_not_faulty : (text : List ℕ) (f : BornFault) → SaysOfModule text Valid → SaysOfModule text (Refused f) → ⊥
valid_not_faulty text (born.Read fault) valid refused = ok_not_err _ _ _ (module_complete text valid.parts valid.spelled) refused
valid_not_faulty text (born.Valid fault) valid refused =
    let same : refused.parts ≡ valid.parts = same_ok _ _ _ (module_complete text _ refused.spelled) (module_complete text _ valid.spelled) in
    fault-invalid valid.parts fault (subst (λ (p : Parts). IsFirstFaultOf p fault) same refused.fails) valid.valid
valid_not_faulty text (born.Start fault) valid refused = absurd refused
valid_not_faulty text born.NoTransform valid refused = absurd refused
valid_not_faulty text born.NoResume valid refused = absurd refused
valid_not_faulty text (born.Transform trap) valid refused = absurd refused
valid_not_faulty text (born.Code code) valid refused = absurd refused

module_status : (text : List ℕ) (e f : Finding) → SaysOfModule text e → SaysOfModule text f → finding_status e ≡ finding_status f
module_status text (Refused a) (Refused b) first second = refl
module_status text (Refused a) Valid first second = absurd (valid_not_faulty text a second first)
module_status text Valid (Refused b) first second = absurd (valid_not_faulty text b first second)
module_status text Valid Valid first second = refl
module_status text (Refused a) (BadRules b) first second = absurd second
module_status text (Refused a) (Rules b) first second = absurd second
module_status text (Refused a) (BadSchedule b) first second = absurd second
module_status text Valid (BadRules b) first second = absurd second
module_status text Valid (Rules b) first second = absurd second
module_status text Valid (BadSchedule b) first second = absurd second
module_status text (BadRules a) f first second = absurd first
module_status text (Rules a) f first second = absurd first
module_status text (BadSchedule a) f first second = absurd first
module_status text (BadLog a) f first second = absurd first
module_status text (BadText a) f first second = absurd first
module_status text (Refused a) (BadLog b) first second = absurd second
module_status text (Refused a) (BadText b) first second = absurd second
module_status text Valid (BadLog b) first second = absurd second
module_status text Valid (BadText b) first second = absurd second

kept_or_unkept : (rule : Rule) (fault : RuleFault) → IsKept rule → IsUnkept rule fault → ⊥
kept_or_unkept rule fault kept (inl reads) = reads.0 kept.reads
kept_or_unkept rule fault kept (inr accepts) = accepts.1 kept.accepts

all_or_first : (rules : List Rule) (fault : RuleFault) → AreKept rules → IsFirstUnkept rules fault → ⊥
all_or_first [] fault kept first = absurd first
all_or_first (rule ∷ rules) fault kept (inl unkept) = kept_or_unkept rule fault kept.0 unkept
all_or_first (rule ∷ rules) fault kept (inr later) = all_or_first rules fault kept.1 later.1

rules_not_faulty : (text : List ℕ) (fault : RuleFault) (count : ℕ) → HasRuleFault text fault → HasRules text count → ⊥
rules_not_faulty text fault count (inl err) has = ok_not_err _ _ _ has.1 err
rules_not_faulty text fault count (inr unkept) has =
    all_or_first has.0 fault has.2 (subst (λ (rs : List Rule). IsFirstUnkept rs fault) (same_ok _ _ _ unkept.1 has.1) unkept.2)

rules_status : (text : List ℕ) (e f : Finding) → SaysOfRules text e → SaysOfRules text f → finding_status e ≡ finding_status f
rules_status text (BadRules a) (BadRules b) first second = refl
rules_status text (BadRules a) (Rules b) first second = absurd (rules_not_faulty text a b first second)
rules_status text (Rules a) (BadRules b) first second = absurd (rules_not_faulty text b a second first)
rules_status text (Rules a) (Rules b) first second = refl
rules_status text (BadRules a) (Refused b) first second = absurd second
rules_status text (BadRules a) Valid first second = absurd second
rules_status text (BadRules a) (BadSchedule b) first second = absurd second
rules_status text (Rules a) (Refused b) first second = absurd second
rules_status text (Rules a) Valid first second = absurd second
rules_status text (Rules a) (BadSchedule b) first second = absurd second
rules_status text (Refused a) f first second = absurd first
rules_status text Valid f first second = absurd first
rules_status text (BadSchedule a) f first second = absurd first
rules_status text (BadLog a) f first second = absurd first
rules_status text (BadText a) f first second = absurd first
rules_status text (BadRules a) (BadLog b) first second = absurd second
rules_status text (BadRules a) (BadText b) first second = absurd second
rules_status text (Rules a) (BadLog b) first second = absurd second
rules_status text (Rules a) (BadText b) first second = absurd second

refused_status : (args : List (List ℕ)) (text : List ℕ) (e f : Finding) → IsRefused args text e → IsRefused args text f → finding_status e ≡ finding_status f
refused_status args text (Refused a) (Refused b) first second = refl
refused_status args text (Refused a) Valid first second = absurd second
refused_status args text (Refused a) (BadRules b) first second = absurd second
refused_status args text (Refused a) (Rules b) first second = absurd second
refused_status args text (Refused a) (BadSchedule b) first second = absurd second
refused_status args text Valid f first second = absurd first
refused_status args text (BadRules a) f first second = absurd first
refused_status args text (Rules a) f first second = absurd first
refused_status args text (BadSchedule a) f first second = absurd first
refused_status args text (BadLog a) f first second = absurd first
refused_status args text (BadText a) f first second = absurd first
refused_status args text (Refused a) (BadLog b) first second = absurd second
refused_status args text (Refused a) (BadText b) first second = absurd second

schedule_status : (text : List ℕ) (e f : Finding) → IsNoSchedule text e → IsNoSchedule text f → finding_status e ≡ finding_status f
schedule_status text (BadSchedule a) (BadSchedule b) first second = refl
schedule_status text (BadSchedule a) (Refused b) first second = absurd second
schedule_status text (BadSchedule a) Valid first second = absurd second
schedule_status text (BadSchedule a) (BadRules b) first second = absurd second
schedule_status text (BadSchedule a) (Rules b) first second = absurd second
schedule_status text (Refused a) f first second = absurd first
schedule_status text Valid f first second = absurd first
schedule_status text (BadRules a) f first second = absurd first
schedule_status text (Rules a) f first second = absurd first
schedule_status text (BadLog a) f first second = absurd first
schedule_status text (BadText a) f first second = absurd first
schedule_status text (BadSchedule a) (BadLog b) first second = absurd second
schedule_status text (BadSchedule a) (BadText b) first second = absurd second

log_status : (text : List ℕ) (e f : Finding) → IsNoLog text e → IsNoLog text f → finding_status e ≡ finding_status f
log_status text (BadLog a) (BadLog b) first second = refl
log_status text (BadLog a) (Refused b) first second = absurd second
log_status text (BadLog a) Valid first second = absurd second
log_status text (BadLog a) (BadRules b) first second = absurd second
log_status text (BadLog a) (Rules b) first second = absurd second
log_status text (BadLog a) (BadSchedule b) first second = absurd second
log_status text (BadLog a) (BadText b) first second = absurd second
log_status text (Refused a) f first second = absurd first
log_status text Valid f first second = absurd first
log_status text (BadRules a) f first second = absurd first
log_status text (Rules a) f first second = absurd first
log_status text (BadSchedule a) f first second = absurd first
log_status text (BadText a) f first second = absurd first

start_status : (told : Option FileMap) (log text : List ℕ) (e f : Finding) → IsRefusedBy told log text e → IsRefusedBy told log text f → finding_status e ≡ finding_status f
start_status told log text (Refused a) (Refused b) first second = refl
start_status told log text (Refused a) Valid first second = absurd second
start_status told log text (Refused a) (BadRules b) first second = absurd second
start_status told log text (Refused a) (Rules b) first second = absurd second
start_status told log text (Refused a) (BadSchedule b) first second = absurd second
start_status told log text (Refused a) (BadLog b) first second = absurd second
start_status told log text (Refused a) (BadText b) first second = absurd second
start_status told log text Valid f first second = absurd first
start_status told log text (BadRules a) f first second = absurd first
start_status told log text (Rules a) f first second = absurd first
start_status told log text (BadSchedule a) f first second = absurd first
start_status told log text (BadLog a) f first second = absurd first
start_status told log text (BadText a) f first second = absurd first

text_not_valid : (text file : List ℕ) (fault : ValidFault) → IsAssembly text file → (parts : Parts) × (assembled text ≡ Ok parts) × IsFirstFaultOf parts fault → ⊥
text_not_valid text file fault first second =
    fault-invalid first.parts fault (subst (λ (p : Parts). IsFirstFaultOf p fault) (same_ok _ _ _ second.1 first.is) second.2) first.valid

text_not_bad : (text : List ℕ) (f : Finding) → IsNoText text f → IsText text → ⊥
text_not_bad text (BadText fault) first second = ok_not_err _ _ _ second.1.is first
text_not_bad text (Refused (born.Valid fault)) first second = text_not_valid text second.0 fault second.1 first
text_not_bad text (Refused (born.Read fault)) first second = absurd first
text_not_bad text (Refused (born.Start fault)) first second = absurd first
text_not_bad text (Refused born.NoTransform) first second = absurd first
text_not_bad text (Refused born.NoResume) first second = absurd first
text_not_bad text (Refused (born.Transform trap)) first second = absurd first
text_not_bad text (Refused (born.Code code)) first second = absurd first
text_not_bad text Valid first second = absurd first
text_not_bad text (BadRules fault) first second = absurd first
text_not_bad text (Rules count) first second = absurd first
text_not_bad text (BadSchedule fault) first second = absurd first
text_not_bad text (BadLog fault) first second = absurd first

-- what is no text has the status of what is refused
text_is_bad : (text : List ℕ) (f : Finding) → IsNoText text f → finding_status f ≡ exit.BadFile
text_is_bad text (BadText fault) is = refl
text_is_bad text (Refused fault) is = refl
text_is_bad text (BadRules fault) is = refl
text_is_bad text (BadSchedule fault) is = refl
text_is_bad text (BadLog fault) is = refl
text_is_bad text Valid is = absurd is
text_is_bad text (Rules count) is = absurd is

text_status : (text : List ℕ) (e f : Finding) → IsNoText text e → IsNoText text f → finding_status e ≡ finding_status f
text_status text e f first second = text_is_bad text e first ∙ sym (text_is_bad text f second)

-- one status for what a file is found to be
one_status : (command : Command) (told : Option FileMap) (n : ℕ) (text : List ℕ) (e f : Finding) → FoundAt command told n text e → FoundAt command told n text f → finding_status e ≡ finding_status f
one_status (ask.Run old args) told n text e f first second = refused_status (old ∷ args) text e f first second
one_status (ask.Rehearse old schedule args ring to) told zero text e f first second = refused_status (old ∷ args) text e f first second
one_status (ask.Rehearse old schedule args ring to) told (suc n) text e f first second = schedule_status text e f first second
one_status (ask.Serve old args ring to) told n text e f first second = refused_status (old ∷ args) text e f first second
one_status (ask.Check path) told n text e f first second = module_status text e f first second
one_status (ask.Rules forward) told n text e f first second = rules_status text e f first second
one_status (ask.Audit from old updates) told zero text e f first second = log_status text e f first second
one_status (ask.Audit from old updates) told (suc zero) text e f first second = start_status told from text e f first second
one_status (ask.Audit from old updates) told (suc (suc n)) text e f first second = absurd first
one_status (ask.Show from) told n text e f first second = log_status text e f first second
one_status (ask.Assemble from to) told n text e f first second = text_status text e f first second
one_status (ask.Load connections) told n text e f first second = absurd first
one_status ask.Help told n text e f first second = absurd first
one_status ask.Version told n text e f first second = absurd first

refused_not_starts : (args : List (List ℕ)) (text : List ℕ) (f : Finding) → IsRefused args text f → Starts args text → ⊥
refused_not_starts args text (Refused a) first second = ok_not_err _ _ _ second.1 first
refused_not_starts args text Valid first second = first
refused_not_starts args text (BadRules a) first second = first
refused_not_starts args text (Rules a) first second = first
refused_not_starts args text (BadSchedule a) first second = first
refused_not_starts args text (BadLog a) first second = first
refused_not_starts args text (BadText a) first second = first

schedule_not_bad : (text : List ℕ) (f : Finding) → IsNoSchedule text f → IsSchedule text → ⊥
schedule_not_bad text (BadSchedule a) first second = ok_not_err _ _ _ second.1 first
schedule_not_bad text (Refused a) first second = first
schedule_not_bad text Valid first second = first
schedule_not_bad text (BadRules a) first second = first
schedule_not_bad text (Rules a) first second = first
schedule_not_bad text (BadLog a) first second = first
schedule_not_bad text (BadText a) first second = first

log_not_bad : (text : List ℕ) (f : Finding) → IsNoLog text f → HasSomeLog text → ⊥
log_not_bad text (BadLog a) first second = ok_not_err _ _ _ second.2 first
log_not_bad text (Refused a) first second = first
log_not_bad text Valid first second = first
log_not_bad text (BadRules a) first second = first
log_not_bad text (Rules a) first second = first
log_not_bad text (BadSchedule a) first second = first
log_not_bad text (BadText a) first second = first

-- ## Files that are told

abbrev no_texts : List (List ℕ)
no_texts = []

abbrev some_text : List ℕ → Option (List ℕ)
some_text text = Some text

same_text : (a b : List ℕ) → some_text a ≡ some_text b → a ≡ b
same_text a b e = cc

some_not_none : (o : Option (List ℕ)) (text : List ℕ) → o ≡ Some text → o ≡ None → ⊥
some_not_none o text first second = cc

-- a file that is there isn't missing
not_gone : (told : Option FileMap) (files : FileMap) (path : List ℕ) (P : List ℕ → Type 0) → told ≡ Some files → FileIs told path P → files path ≡ None → ⊥
not_gone told files path P e is gone = let there = is files e in some_not_none _ _ there.1 gone

-- two things said of a file are said of one text
both_of : (told : Option FileMap) (files : FileMap) (path : List ℕ) (P Q : List ℕ → Type 0) → told ≡ Some files → FileIs told path P → FileIs told path Q → (text : List ℕ) × P text × Q text
both_of told files path P Q e first second =
    let one = first files e in
    let two = second files e in
    (one.0, one.2, subst Q (same_text _ _ (sym two.1 ∙ one.1)) two.2)

same_path : (o : Option (List ℕ)) (a b : List ℕ) → o ≡ Some a → o ≡ Some b → a ≡ b
same_path o a b first second = same_text a b (sym first ∙ second)

-- a module starts with the arguments of the log that is told, or doesn't
abbrev args_of : List (List ℕ) × List Entry → List (List ℕ)
args_of log = log.0

starts_or_not : (told : Option FileMap) (files : FileMap) (from text : List ℕ) (f : Finding) → told ≡ Some files → IsRefusedBy told from text f → StartsWith told from text → ⊥
starts_or_not told files from text (Refused fault) e first second =
    let one : first.2.0 ≡ second.3.0 = same_text _ _ (sym (first.2.1 files e) ∙ second.3.1 files e) in
    let logs = same_ok (log_of second.3.0) (first.0, first.1) (second.0, second.1) (ap log_of (sym one) ∙ first.2.2) second.3.2 in
    ok_not_err (started text second.0) second.2 fault second.4 (ap (started text) (sym (ap args_of logs)) ∙ first.3)
starts_or_not told files from text Valid e first second = first
starts_or_not told files from text (BadRules a) e first second = first
starts_or_not told files from text (Rules a) e first second = first
starts_or_not told files from text (BadSchedule a) e first second = first
starts_or_not told files from text (BadLog a) e first second = first
starts_or_not told files from text (BadText a) e first second = first

-- a file by which a command ends isn't one past which it goes on
ends_not_on : (command : Command) (told : Option FileMap) (files : FileMap) (n : ℕ) (text : List ℕ) (f : Finding) → told ≡ Some files → FoundAt command told n text f → GoesOn command told n text → ⊥
ends_not_on (ask.Run old args) told files n text f e first second = refused_not_starts (old ∷ args) text f first second
ends_not_on (ask.Rehearse old schedule args ring to) told files zero text f e first second = refused_not_starts (old ∷ args) text f first second
ends_not_on (ask.Rehearse old schedule args ring to) told files (suc n) text f e first second = schedule_not_bad text f first second
ends_not_on (ask.Serve old args ring to) told files n text f e first second = refused_not_starts (old ∷ args) text f first second
ends_not_on (ask.Check path) told files n text f e first second = second
ends_not_on (ask.Rules forward) told files n text f e first second = second
ends_not_on (ask.Audit from old updates) told files zero text f e first second = log_not_bad text f first second
ends_not_on (ask.Audit from old updates) told files (suc zero) text f e first second = starts_or_not told files from text f e first second
ends_not_on (ask.Audit from old updates) told files (suc (suc n)) text f e first second = first
ends_not_on (ask.Show from) told files n text f e first second = log_not_bad text f first second
ends_not_on (ask.Assemble from to) told files n text f e first second = text_not_bad text f first second
ends_not_on (ask.Load connections) told files n text f e first second = second
ends_not_on ask.Help told files n text f e first second = second
ends_not_on ask.Version told files n text f e first second = second

-- ## Which of two places comes first

data Order (a b : ℕ) : Type 0 where
  before : a < b → Order a b
  same : a ≡ b → Order a b
  behind : b < a → Order a b

order : (a b : ℕ) → Order a b
order zero zero = same refl
order zero (suc b) = before (omega arith)
order (suc a) zero = behind (omega arith)
order (suc a) (suc b) = elim (order a b) [
  | before less ↦ before (omega (arith, less))
  | same e ↦ same (ap suc e)
  | behind less ↦ behind (omega (arith, less))
]

-- ## Which commands do what

data Kind : Type 0 where
  for_guests : Kind
  for_files : Kind
  for_audits : Kind
  for_shows : Kind
  for_assembly : Kind
  for_loads : Kind
  for_help : Kind

abbrev kind_of : Command → Kind
kind_of (ask.Run old args) = for_guests
kind_of (ask.Rehearse old schedule args ring to) = for_guests
kind_of (ask.Serve old args ring to) = for_guests
kind_of (ask.Check path) = for_files
kind_of (ask.Rules forward) = for_files
kind_of (ask.Audit from old updates) = for_audits
kind_of (ask.Show from) = for_shows
kind_of (ask.Assemble from to) = for_assembly
kind_of (ask.Load connections) = for_loads
kind_of ask.Help = for_help
kind_of ask.Version = for_help

tells_not_runs : (k : Kind) → k ≡ for_help → k ≡ for_guests → ⊥
tells_not_runs k first second = cc

tells_not_audits : (k : Kind) → k ≡ for_help → k ≡ for_audits → ⊥
tells_not_audits k first second = cc

tells_not_shows : (k : Kind) → k ≡ for_help → k ≡ for_shows → ⊥
tells_not_shows k first second = cc

runs_not_audits : (k : Kind) → k ≡ for_guests → k ≡ for_audits → ⊥
runs_not_audits k first second = cc

runs_not_shows : (k : Kind) → k ≡ for_guests → k ≡ for_shows → ⊥
runs_not_shows k first second = cc

audits_not_shows : (k : Kind) → k ≡ for_audits → k ≡ for_shows → ⊥
audits_not_shows k first second = cc

kind_not : (k a b : Kind) → (a ≡ b → ⊥) → k ≡ a → k ≡ b → ⊥
kind_not k a b differ first second = differ (sym first ∙ second)

help_is_other : for_help ≡ for_assembly → ⊥
help_is_other e = cc

guests_are_other : for_guests ≡ for_assembly → ⊥
guests_are_other e = cc

audits_are_other : for_audits ≡ for_assembly → ⊥
audits_are_other e = cc

shows_are_other : for_shows ≡ for_assembly → ⊥
shows_are_other e = cc

help_is_no_load : for_help ≡ for_loads → ⊥
help_is_no_load e = cc

guests_are_no_load : for_guests ≡ for_loads → ⊥
guests_are_no_load e = cc

audits_are_no_load : for_audits ≡ for_loads → ⊥
audits_are_no_load e = cc

shows_are_no_load : for_shows ≡ for_loads → ⊥
shows_are_no_load e = cc

assembly_is_no_load : for_assembly ≡ for_loads → ⊥
assembly_is_no_load e = cc

about_tells : (command : Command) → IsAbout command → kind_of command ≡ for_help
about_tells ask.Help about = refl
about_tells (ask.Assemble from to) about = absurd about
about_tells (ask.Load connections) about = absurd about
about_tells ask.Version about = refl
about_tells (ask.Run old args) about = absurd about
about_tells (ask.Rehearse old schedule args ring to) about = absurd about
about_tells (ask.Serve old args ring to) about = absurd about
about_tells (ask.Check path) about = absurd about
about_tells (ask.Rules forward) about = absurd about
about_tells (ask.Audit from old updates) about = absurd about
about_tells (ask.Show from) about = absurd about

guest_runs : (command : Command) → RunsGuest command → kind_of command ≡ for_guests
guest_runs (ask.Run old args) guest = refl
guest_runs (ask.Rehearse old schedule args ring to) guest = refl
guest_runs (ask.Serve old args ring to) guest = refl
guest_runs (ask.Check path) guest = absurd guest
guest_runs (ask.Rules forward) guest = absurd guest
guest_runs (ask.Assemble from to) guest = absurd guest
guest_runs (ask.Load connections) guest = absurd guest
guest_runs (ask.Audit from old updates) guest = absurd guest
guest_runs (ask.Show from) guest = absurd guest
guest_runs ask.Help guest = absurd guest
guest_runs ask.Version guest = absurd guest

is_audit : (command : Command) → IsAudit command → kind_of command ≡ for_audits
is_audit (ask.Audit from old updates) audit = refl
is_audit (ask.Run old args) audit = absurd audit
is_audit (ask.Rehearse old schedule args ring to) audit = absurd audit
is_audit (ask.Serve old args ring to) audit = absurd audit
is_audit (ask.Check path) audit = absurd audit
is_audit (ask.Rules forward) audit = absurd audit
is_audit (ask.Assemble from to) audit = absurd audit
is_audit (ask.Load connections) audit = absurd audit
is_audit (ask.Show from) audit = absurd audit
is_audit ask.Help audit = absurd audit
is_audit ask.Version audit = absurd audit

is_show : (command : Command) → IsShow command → kind_of command ≡ for_shows
is_show (ask.Show from) show = refl
is_show (ask.Run old args) show = absurd show
is_show (ask.Rehearse old schedule args ring to) show = absurd show
is_show (ask.Serve old args ring to) show = absurd show
is_show (ask.Check path) show = absurd show
is_show (ask.Rules forward) show = absurd show
is_show (ask.Assemble from to) show = absurd show
is_show (ask.Load connections) show = absurd show
is_show (ask.Audit from old updates) show = absurd show
is_show ask.Help show = absurd show
is_show ask.Version show = absurd show

ran_runs : (command : Command) (seen mid : Seen) (log : Log) (h : How) → RunOf command seen mid log h → kind_of command ≡ for_guests
ran_runs (ask.Run old args) seen mid log h ran = refl
ran_runs (ask.Rehearse old schedule args ring to) seen mid log h ran = refl
ran_runs (ask.Serve old args ring to) seen mid log h ran = refl
ran_runs (ask.Check path) seen mid log h ran = absurd ran
ran_runs (ask.Rules forward) seen mid log h ran = absurd ran
ran_runs (ask.Audit from old updates) seen mid log h ran = absurd ran
ran_runs (ask.Show from) seen mid log h ran = absurd ran
ran_runs (ask.Assemble from to) seen mid log h ran = absurd ran
ran_runs (ask.Load connections) seen mid log h ran = absurd ran
ran_runs ask.Help seen mid log h ran = absurd ran
ran_runs ask.Version seen mid log h ran = absurd ran

audited_audits : (command : Command) (told : Option FileMap) (answer : Option ℕ) → AuditOf command told answer → kind_of command ≡ for_audits
audited_audits (ask.Audit from old updates) told answer audited = refl
audited_audits (ask.Run old args) told answer audited = absurd audited
audited_audits (ask.Rehearse old schedule args ring to) told answer audited = absurd audited
audited_audits (ask.Serve old args ring to) told answer audited = absurd audited
audited_audits (ask.Check path) told answer audited = absurd audited
audited_audits (ask.Rules forward) told answer audited = absurd audited
audited_audits (ask.Show from) told answer audited = absurd audited
audited_audits (ask.Assemble from to) told answer audited = absurd audited
audited_audits (ask.Load connections) told answer audited = absurd audited
audited_audits ask.Help told answer audited = absurd audited
audited_audits ask.Version told answer audited = absurd audited

shown_shows : (command : Command) (told : Option FileMap) (entries : List Entry) → ShowOf command told entries → kind_of command ≡ for_shows
shown_shows (ask.Show from) told entries shown = refl
shown_shows (ask.Run old args) told entries shown = absurd shown
shown_shows (ask.Rehearse old schedule args ring to) told entries shown = absurd shown
shown_shows (ask.Serve old args ring to) told entries shown = absurd shown
shown_shows (ask.Check path) told entries shown = absurd shown
shown_shows (ask.Rules forward) told entries shown = absurd shown
shown_shows (ask.Audit from old updates) told entries shown = absurd shown
shown_shows (ask.Assemble from to) told entries shown = absurd shown
shown_shows (ask.Load connections) told entries shown = absurd shown
shown_shows ask.Help told entries shown = absurd shown
shown_shows ask.Version told entries shown = absurd shown

no_more : (n : ℕ) (path : List ℕ) → slice_get no_texts n ≡ Some path → ⊥
no_more n path named = cc

no_files : (command : Command) (n : ℕ) (path : List ℕ) → IsAbout command → slice_get (files_of command) n ≡ Some path → ⊥
no_files ask.Help n path about named = no_more n path named
no_files ask.Version n path about named = no_more n path named
no_files (ask.Run old args) n path about named = about
no_files (ask.Rehearse old schedule args ring to) n path about named = about
no_files (ask.Serve old args ring to) n path about named = about
no_files (ask.Check p) n path about named = about
no_files (ask.Rules forward) n path about named = about
no_files (ask.Audit from old updates) n path about named = about
no_files (ask.Show from) n path about named = about
no_files (ask.Assemble from to) n path about named = about
no_files (ask.Load connections) n path about named = about

-- ## A command that came to its end went on past all its files

-- the guest's file is one of which it starts
first_goes : (seen mid : Seen) (log : Log) (old : List ℕ) (args : List (List ℕ)) (began : Began) (h : How) → IsRun old args seen mid began log h → FileIs seen.files old (Starts (old ∷ args))
first_goes seen mid log old args began h ran files e =
    let begun : started log.start.«module» (old ∷ args) ≡ Ok ran.legal.first = ap₂ started ran.legal.same_module (sym ran.args_are ∙ ran.legal.same_args) ∙ ran.legal.started in
    (log.start.«module», ran.module_is files e, (ran.legal.first, begun))

one_goes : (told : Option FileMap) (P : List ℕ → Type 0) (path : List ℕ) (n : ℕ) (other : List ℕ) → FileIs told path P → slice_get (path ∷ no_texts) n ≡ Some other → FileIs told other P
one_goes told P path zero other goes named = subst (λ (p : List ℕ). FileIs told p P) (same_text path other named) goes
one_goes told P path (suc n) other goes named = absurd (no_more n other named)

ran_goes : (command : Command) (seen mid : Seen) (log : Log) (h : How) → RunOf command seen mid log h → AllGoOn command seen.files
ran_goes (ask.Run old args) seen mid log h ran = λ n path named. one_goes seen.files (Starts (old ∷ args)) old n path (first_goes seen mid log old args ran.began h ran.is_run) named
ran_goes (ask.Serve old args ring to) seen mid log h ran = λ n path named. one_goes seen.files (Starts (old ∷ args)) old n path (first_goes seen mid log old args ran.began h ran.is_run) named
ran_goes (ask.Rehearse old schedule args ring to) seen mid log h ran = goes
  where
    goes : AllGoOn (ask.Rehearse old schedule args ring to) seen.files
    goes zero path named = subst (λ (p : List ℕ). FileIs seen.files p (Starts (old ∷ args))) (same_text old path named) (first_goes seen mid log old args ran.began h ran.is_run)
    goes (suc n) path named = one_goes seen.files IsSchedule schedule n path (λ files e. (ran.text, ran.schedule_is files e, (ran.beats, ran.beats_are))) named
ran_goes (ask.Check p) seen mid log h ran = absurd ran
ran_goes (ask.Rules forward) seen mid log h ran = absurd ran
ran_goes (ask.Audit from old updates) seen mid log h ran = absurd ran
ran_goes (ask.Show from) seen mid log h ran = absurd ran
ran_goes (ask.Assemble from to) seen mid log h ran = absurd ran
ran_goes (ask.Load connections) seen mid log h ran = absurd ran
ran_goes ask.Help seen mid log h ran = absurd ran
ran_goes ask.Version seen mid log h ran = absurd ran

ran_ends : (command : Command) (seen mid : Seen) (log : Log) (h : How) → RunOf command seen mid log h → EndsBy log.entries.list h
ran_ends (ask.Run old args) seen mid log h ran = ran.is_run.ends
ran_ends (ask.Rehearse old schedule args ring to) seen mid log h ran = ran.is_run.ends
ran_ends (ask.Serve old args ring to) seen mid log h ran = ran.is_run.ends
ran_ends (ask.Check p) seen mid log h ran = absurd ran
ran_ends (ask.Rules forward) seen mid log h ran = absurd ran
ran_ends (ask.Audit from old updates) seen mid log h ran = absurd ran
ran_ends (ask.Show from) seen mid log h ran = absurd ran
ran_ends (ask.Assemble from to) seen mid log h ran = absurd ran
ran_ends (ask.Load connections) seen mid log h ran = absurd ran
ran_ends ask.Help seen mid log h ran = absurd ran
ran_ends ask.Version seen mid log h ran = absurd ran

-- the files may have failed before the run ended
run_later : (old : List ℕ) (args : List (List ℕ)) (seen mid : Seen) (began : Began) (log : Log) (h : How) → IsRun old args seen mid began log h → seen.file_faults ≤ mid.file_faults
run_later old args seen mid began log h ran = let first = ran.begins.file_faults in let second = ran.files.later in omega (arith, first, second)

ran_later : (command : Command) (seen mid : Seen) (log : Log) (h : How) → RunOf command seen mid log h → seen.file_faults ≤ mid.file_faults
ran_later (ask.Run old args) seen mid log h ran = run_later old args seen mid ran.began log h ran.is_run
ran_later (ask.Rehearse old schedule args ring to) seen mid log h ran = run_later old args seen mid ran.began log h ran.is_run
ran_later (ask.Serve old args ring to) seen mid log h ran = run_later old args seen mid ran.began log h ran.is_run
ran_later (ask.Check p) seen mid log h ran = absurd ran
ran_later (ask.Rules forward) seen mid log h ran = absurd ran
ran_later (ask.Audit from old updates) seen mid log h ran = absurd ran
ran_later (ask.Show from) seen mid log h ran = absurd ran
ran_later (ask.Assemble from to) seen mid log h ran = absurd ran
ran_later (ask.Load connections) seen mid log h ran = absurd ran
ran_later ask.Help seen mid log h ran = absurd ran
ran_later ask.Version seen mid log h ran = absurd ran

-- the file of the log that was audited or shown is one
log_goes : (told : Option FileMap) (from : List ℕ) (args : List (List ℕ)) (entries : List Entry) → HasRecord told from args entries → FileIs told from HasSomeLog
log_goes told from args entries has files e = (has.0, has.1 files e, (args, entries, has.2))

audited_goes : (command : Command) (told : Option FileMap) (answer : Option ℕ) → AuditOf command told answer → AllGoOn command told
audited_goes (ask.Audit from old updates) told answer audited = goes
  where
    record_is : HasRecord told from audited.args audited.entries
    record_is = (audited.text, audited.log_is, audited.has_log)

    begins : FileIs told old (StartsWith told from)
    begins files e = (audited.bytes, audited.module_is files e, (audited.args, audited.entries, audited.first, record_is, audited.starts))

    goes : AllGoOn (ask.Audit from old updates) told
    goes zero path named = subst (λ (p : List ℕ). FileIs told p HasSomeLog) (same_text from path named) (log_goes told from audited.args audited.entries record_is)
    goes (suc zero) path named = subst (λ (p : List ℕ). FileIs told p (StartsWith told from)) (same_text old path named) begins
    goes (suc (suc n)) path named = named_there told updates audited.updates audited.updates_are n path named
audited_goes (ask.Run old args) told answer audited = absurd audited
audited_goes (ask.Rehearse old schedule args ring to) told answer audited = absurd audited
audited_goes (ask.Serve old args ring to) told answer audited = absurd audited
audited_goes (ask.Check path) told answer audited = absurd audited
audited_goes (ask.Rules forward) told answer audited = absurd audited
audited_goes (ask.Show from) told answer audited = absurd audited
audited_goes (ask.Assemble from to) told answer audited = absurd audited
audited_goes (ask.Load connections) told answer audited = absurd audited
audited_goes ask.Help told answer audited = absurd audited
audited_goes ask.Version told answer audited = absurd audited

shown_goes : (command : Command) (told : Option FileMap) (entries : List Entry) → ShowOf command told entries → AllGoOn command told
shown_goes (ask.Show from) told entries was = λ n path named. one_goes told HasSomeLog from n path (λ files e. (was.0, was.1 files e, (was.2.0, entries, was.2.1))) named
shown_goes (ask.Run old args) told entries shown = absurd shown
shown_goes (ask.Rehearse old schedule args ring to) told entries shown = absurd shown
shown_goes (ask.Serve old args ring to) told entries shown = absurd shown
shown_goes (ask.Check path) told entries shown = absurd shown
shown_goes (ask.Rules forward) told entries shown = absurd shown
shown_goes (ask.Audit from old updates) told entries shown = absurd shown
shown_goes (ask.Assemble from to) told entries shown = absurd shown
shown_goes (ask.Load connections) told entries shown = absurd shown
shown_goes ask.Help told entries shown = absurd shown
shown_goes ask.Version told entries shown = absurd shown

-- a text that was assembled is one
assembled_goes : (command : Command) (told : Option FileMap) (P : List ℕ → List ℕ → Type 0) → AssemblyOf command P → ((from to : List ℕ) → P from to → FileIs told from IsText) → AllGoOn command told
assembled_goes command told P holds there =
    let a = assembly_is command P holds in
    subst (λ (c : Command). AllGoOn c told) (sym a.2) (λ n path named. one_goes told IsText a.0 n path (there a.0 a.1 a.3) named)

assembled_kind : (command : Command) (P : List ℕ → List ℕ → Type 0) → AssemblyOf command P → kind_of command ≡ for_assembly
assembled_kind command P holds = let a = assembly_is command P holds in ap kind_of a.2

-- a load reads no file
load_kind : (command : Command) (P : ℕ → Type 0) → LoadOf command P → kind_of command ≡ for_loads
load_kind command P holds = let l = load_is command P holds in ap kind_of l.1

load_names_none : (command : Command) (P : ℕ → Type 0) → LoadOf command P → (n : ℕ) (path : List ℕ) → slice_get (files_of command) n ≡ Some path → ⊥
load_names_none command P holds n path named =
    let l = load_is command P holds in
    no_more n path (subst (λ (c : Command). slice_get (files_of c) n ≡ Some path) l.1 named)

output_goes : (seen after : Seen) (log : Log) (bytes : ℕ) (from to : List ℕ) → Assembles seen after log bytes from to → FileIs seen.files from IsText
output_goes seen after log bytes from to made files e = (made.0.text, made.0.stands files e, (made.0.file, made.0.is_assembly))

-- ## Every ending against what the words and the files say

-- the command came to its end: a guest ran, a log was audited or shown, a text was assembled, or a load was rehearsed
data Done (command : Command) (seen after : Seen) (log : Log) (ending : Ending) : Type 0 where
  ran : (h : How) → ending ≡ ending_is.Ran h → RanFor command seen after log h ending → Done command seen after log ending
  unkept : (path : List ℕ) (h : How) → ending ≡ ending_is.LogFailed path h → RanFor command seen after log h ending → Done command seen after log ending
  unmade : (h : How) → ending ≡ ending_is.LogNotMade h → RanFor command seen after log h ending → Done command seen after log ending
  audited : (answer : Option ℕ) → ending ≡ ending_is.Audited answer → AuditOf command seen.files answer → Done command seen after log ending
  made : (bytes : ℕ) → ending ≡ ending_is.Assembled bytes → AssemblyOf command (Assembles seen after log bytes) → Done command seen after log ending
  unwritten : (path : List ℕ) → ending ≡ ending_is.NotWritten path → AssemblyOf command (FailsToWrite seen after log path) → Done command seen after log ending
  loads : (loaded : LoadEnding) → ending ≡ ending_is.Loaded loaded → LoadOf command (LoadsAs log loaded) → Done command seen after log ending
  shown_by : (entries : List Entry) → status_of ending ≡ exit.Success → ShowOf command seen.files entries → Done command seen after log ending

done_goes : (command : Command) (seen after : Seen) (log : Log) (ending : Ending) → Done command seen after log ending → AllGoOn command seen.files
done_goes command seen after log ending (ran h e was) = ran_goes command seen was.0 log h was.1
done_goes command seen after log ending (unkept path h e was) = ran_goes command seen was.0 log h was.1
done_goes command seen after log ending (unmade h e was) = ran_goes command seen was.0 log h was.1
done_goes command seen after log ending (audited answer is was) = audited_goes command seen.files answer was
done_goes command seen after log ending (made bytes e was) = assembled_goes command seen.files _ was (output_goes seen after log bytes)
done_goes command seen after log ending (unwritten path e was) = assembled_goes command seen.files _ was (λ from to fails. fails.1)
done_goes command seen after log ending (loads loaded e was) = λ n path named. absurd (load_names_none command _ was n path named)
done_goes command seen after log ending (shown_by entries is was) = shown_goes command seen.files entries was

done_not_about : (command : Command) (seen after : Seen) (log : Log) (ending : Ending) → Done command seen after log ending → IsAbout command → ⊥
done_not_about command seen after log ending (ran h e was) about = tells_not_runs (kind_of command) (about_tells command about) (ran_runs command seen was.0 log h was.1)
done_not_about command seen after log ending (unkept path h e was) about = tells_not_runs (kind_of command) (about_tells command about) (ran_runs command seen was.0 log h was.1)
done_not_about command seen after log ending (unmade h e was) about = tells_not_runs (kind_of command) (about_tells command about) (ran_runs command seen was.0 log h was.1)
done_not_about command seen after log ending (audited answer is was) about = tells_not_audits (kind_of command) (about_tells command about) (audited_audits command seen.files answer was)
done_not_about command seen after log ending (made bytes e was) about = kind_not (kind_of command) for_help for_assembly help_is_other (about_tells command about) (assembled_kind command _ was)
done_not_about command seen after log ending (unwritten path e was) about = kind_not (kind_of command) for_help for_assembly help_is_other (about_tells command about) (assembled_kind command _ was)
done_not_about command seen after log ending (loads loaded e was) about = kind_not (kind_of command) for_help for_loads help_is_no_load (about_tells command about) (load_kind command _ was)
done_not_about command seen after log ending (shown_by entries is was) about = tells_not_shows (kind_of command) (about_tells command about) (shown_shows command seen.files entries was)

module _ (Is : Known) (words : List (List ℕ)) (seen after : Seen) (log : Log) (sink : ℕ × ℕ) (status : ExitStatus) where
  memory_is : (status ≡ exit.NoMemory) ⊎ Otherwise sink status → Otherwise sink status
  memory_is (inl none) = inr none
  memory_is (inr other) = other

  -- ---- the words

  bad_words_is : (ending : Ending) → HasCause Is words seen after log ending → (status ≡ status_of ending) ⊎ Otherwise sink status → ((command : Command) → Is command → Says words command → ⊥) → (status ≡ exit.BadWords) ⊎ Otherwise sink status
  bad_words_is ending_is.BadWords cause shows none = shows
  bad_words_is ending_is.NoMemory cause shows none = inr (memory_is shows)
  bad_words_is ending_is.Told cause shows none = absurd (none cause.0 cause.1 cause.2)
  bad_words_is (ending_is.NoFile path) cause shows none = absurd (none cause.0 cause.1 cause.2)
  bad_words_is (ending_is.Found path finding) cause shows none = absurd (none cause.0 cause.1 cause.2)
  bad_words_is (ending_is.Ran h) cause shows none = absurd (none cause.0 cause.1 cause.2)
  bad_words_is (ending_is.LogFailed path h) cause shows none = absurd (none cause.0 cause.1 cause.2)
  bad_words_is (ending_is.LogNotMade h) cause shows none = absurd (none cause.0 cause.1 cause.2)
  bad_words_is (ending_is.Audited illegal) cause shows none = absurd (none cause.0 cause.1 cause.2)
  bad_words_is (ending_is.Shown entries) cause shows none = absurd (none cause.0 cause.1 cause.2)
  bad_words_is (ending_is.Assembled bytes) cause shows none = absurd (none cause.0 cause.1 cause.2)
  bad_words_is (ending_is.NotWritten path) cause shows none = absurd (none cause.0 cause.1 cause.2)
  bad_words_is (ending_is.Loaded loaded) cause shows none = absurd (none cause.0 cause.1 cause.2)

  -- the cause is one of this command
  of_command : (command : Command) (ending : Ending) → Says words command → (found : (c : Command) × Is c × Says words c × CauseOf c seen after log ending) → CauseOf command seen after log ending
  of_command command ending says found = subst (λ (c : Command). CauseOf c seen after log ending) (one_reading words found.0 command found.2 says) found.3

  -- ---- each ending is one of four

  -- a file ended the command, or it came to its end, or memory was wanted, or the program told of itself
  data Case (command : Command) (ending : Ending) : Type 0 where
    gone : (path : List ℕ) → ending ≡ ending_is.NoFile path → StopsAt command seen.files path (λ n. IsMissing seen.files path ⊎ Rose seen.file_faults after.file_faults) → Case command ending
    found : (path : List ℕ) (finding : Finding) → ending ≡ ending_is.Found path finding → StopsAt command seen.files path (λ n. FileIs seen.files path (λ text. FoundAt command seen.files n text finding)) → Case command ending
    done : Done command seen after log ending → Case command ending
    wanted : ending ≡ ending_is.NoMemory → Case command ending
    said : ending ≡ ending_is.Told → IsAbout command → Case command ending

  case_of : (command : Command) (ending : Ending) → Is command → Says words command → HasCause Is words seen after log ending → Case command ending
  case_of command ending_is.BadWords is says cause = absurd (cause.0 command is says)
  case_of command ending_is.NoMemory is says cause = wanted refl
  case_of command ending_is.Told is says cause = said refl (of_command command ending_is.Told says cause).0
  case_of command (ending_is.NoFile path) is says cause = gone path refl (of_command command (ending_is.NoFile path) says cause).0
  case_of command (ending_is.Found path finding) is says cause = found path finding refl (of_command command (ending_is.Found path finding) says cause).0
  case_of command (ending_is.Ran h) is says cause = done (ran h refl (of_command command (ending_is.Ran h) says cause))
  case_of command (ending_is.LogFailed path h) is says cause = done (unkept path h refl (of_command command (ending_is.LogFailed path h) says cause))
  case_of command (ending_is.LogNotMade h) is says cause = done (unmade h refl (of_command command (ending_is.LogNotMade h) says cause))
  case_of command (ending_is.Audited illegal) is says cause = done (audited illegal refl (of_command command (ending_is.Audited illegal) says cause).0)
  case_of command (ending_is.Assembled bytes) is says cause = done (made bytes refl (of_command command (ending_is.Assembled bytes) says cause))
  case_of command (ending_is.NotWritten path) is says cause = done (unwritten path refl (of_command command (ending_is.NotWritten path) says cause))
  case_of command (ending_is.Loaded loaded) is says cause = done (loads loaded refl (of_command command (ending_is.Loaded loaded) says cause).0)
  case_of command (ending_is.Shown entries) is says cause = done (shown_by entries.list refl (of_command command (ending_is.Shown entries) says cause).0)

  status_by : (ending other : Ending) → ending ≡ other → (status ≡ status_of ending) ⊎ Otherwise sink status → (status ≡ status_of other) ⊎ Otherwise sink status
  status_by ending other e shows = subst (λ (x : Ending). (status ≡ status_of x) ⊎ Otherwise sink status) e shows

  told_is : (command : Command) (ending : Ending) → IsAbout command → Case command ending → (status ≡ status_of ending) ⊎ Otherwise sink status → (status ≡ exit.Success) ⊎ Otherwise sink status
  told_is command ending about (gone path e stops) shows = absurd (no_files command stops.number path about stops.named)
  told_is command ending about (found path finding e stops) shows = absurd (no_files command stops.number path about stops.named)
  told_is command ending about (done was) shows = absurd (done_not_about command seen after log ending was about)
  told_is command ending about (wanted e) shows = inr (memory_is (status_by ending ending_is.NoMemory e shows))
  told_is command ending about (said e is) shows = status_by ending ending_is.Told e shows

  -- ---- a file is missing

  abbrev Gone : FileMap → List ℕ → ℕ → Type 0
  Gone files path n = files path ≡ None

  missing_is : (command : Command) (files : FileMap) (path : List ℕ) (ending : Ending) → seen.files ≡ Some files → StopsAt command seen.files path (Gone files path) → Case command ending → (status ≡ status_of ending) ⊎ Otherwise sink status
      → (status ≡ exit.FileFault) ⊎ Otherwise sink status
  missing_is command files path ending told stops (wanted e) shows = inr (memory_is (status_by ending ending_is.NoMemory e shows))
  missing_is command files path ending told stops (said e about) shows = absurd (no_files command stops.number path about stops.named)
  missing_is command files path ending told stops (gone other e c) shows = status_by ending (ending_is.NoFile other) e shows
  missing_is command files path ending told stops (found other finding e c) shows =
      absurd (elim (order stops.number c.number) [
        | before less ↦ not_gone seen.files files path _ told (c.earlier stops.number path less stops.named) stops.stops
        | same e ↦
            let paths : other ≡ path = same_path _ _ _ c.named (ap (slice_get (files_of command)) (sym e) ∙ stops.named) in
            not_gone seen.files files path _ told (subst (λ (p : List ℕ). FileIs seen.files p (λ text. FoundAt command seen.files c.number text finding)) paths c.stops) stops.stops
        | behind less ↦
            let both = both_of seen.files files other _ _ told c.stops (stops.earlier c.number other less c.named) in
            ends_not_on command seen.files files c.number both.0 finding told both.1 both.2
      ])
  missing_is command files path ending told stops (done was) shows =
      absurd (not_gone seen.files files path _ told (done_goes command seen after log ending was stops.number path stops.named) stops.stops)

  -- ---- a file ends the command

  abbrev Ends : Command → List ℕ → Finding → ℕ → Type 0
  Ends command path finding n = FileIs seen.files path (λ text. FoundAt command seen.files n text finding)

  file_fault : (rose : Rose seen.file_faults after.file_faults) → (status ≡ exit.FileFault) ⊎ Otherwise sink status → Fails seen after sink status
  file_fault rose (inl fault) = inl (fault, rose)
  file_fault rose (inr other) = inr other

  gone_or_rose : (command : Command) (files : FileMap) (path other : List ℕ) (finding : Finding) → seen.files ≡ Some files → StopsAt command seen.files path (Ends command path finding) → StopsAt command seen.files other (λ k. IsMissing seen.files other ⊎ Rose seen.file_faults after.file_faults)
      → (status ≡ exit.FileFault) ⊎ Otherwise sink status → Fails seen after sink status
  gone_or_rose command files path other finding told stops c shows = elim c.stops [
    | inr rose ↦ file_fault rose shows
    | inl missing ↦ absurd (elim (order stops.number c.number) [
      | before less ↦
          let both = both_of seen.files files path _ _ told stops.stops (c.earlier stops.number path less stops.named) in
          ends_not_on command seen.files files stops.number both.0 finding told both.1 both.2
      | same e ↦
          let paths : path ≡ other = same_path _ _ _ stops.named (ap (slice_get (files_of command)) e ∙ c.named) in
          not_gone seen.files files other _ told (subst (λ (p : List ℕ). Ends command p finding stops.number) paths stops.stops) (missing files told)
      | behind less ↦ not_gone seen.files files other _ told (stops.earlier c.number other less c.named) (missing files told)
    ])
  ]

  found_is : (command : Command) (files : FileMap) (path : List ℕ) (finding : Finding) (ending : Ending) → seen.files ≡ Some files → StopsAt command seen.files path (Ends command path finding) → Case command ending
      → (status ≡ status_of ending) ⊎ Otherwise sink status → (status ≡ finding_status finding) ⊎ Fails seen after sink status
  found_is command files path finding ending told stops (wanted e) shows = inr (inr (memory_is (status_by ending ending_is.NoMemory e shows)))
  found_is command files path finding ending told stops (said e about) shows = absurd (no_files command stops.number path about stops.named)
  found_is command files path finding ending told stops (gone other e c) shows = inr (gone_or_rose command files path other finding told stops c (status_by ending (ending_is.NoFile other) e shows))
  found_is command files path finding ending told stops (found other there e c) shows =
      elim (order stops.number c.number) [
        | before less ↦
            let both = both_of seen.files files path _ _ told stops.stops (c.earlier stops.number path less stops.named) in
            absurd (ends_not_on command seen.files files stops.number both.0 finding told both.1 both.2)
        | same at ↦
            let paths : path ≡ other = same_path _ _ _ stops.named (ap (slice_get (files_of command)) at ∙ c.named) in
            let here : Ends command other finding c.number = subst (λ (k : ℕ). Ends command other finding k) at (subst (λ (p : List ℕ). Ends command p finding stops.number) paths stops.stops) in
            let both = both_of seen.files files other _ _ told here c.stops in
            let one : finding_status there ≡ finding_status finding = one_status command seen.files c.number both.0 there finding both.2 both.1 in
            elim (status_by ending (ending_is.Found other there) e shows) [ inl is ↦ inl (is ∙ one) | inr else ↦ inr (inr else) ]
        | behind less ↦
            let both = both_of seen.files files other _ _ told c.stops (stops.earlier c.number other less c.named) in
            absurd (ends_not_on command seen.files files c.number both.0 there told both.1 both.2)
      ]
  found_is command files path finding ending told stops (done was) shows =
      let both = both_of seen.files files path _ _ told stops.stops (done_goes command seen after log ending was stops.number path stops.named) in
      absurd (ends_not_on command seen.files files stops.number both.0 finding told both.1 both.2)

  -- ---- all files are there, and the command goes on past them

  -- no file ended it, unless reading one failed
  goes_to_end : (command : Command) (files : FileMap) (ending : Ending) → (IsAbout command → ⊥) → seen.files ≡ Some files → AllGoOn command seen.files → Case command ending → (status ≡ status_of ending) ⊎ Otherwise sink status
      → Done command seen after log ending ⊎ Fails seen after sink status
  goes_to_end command files ending not_about told goes (wanted e) shows = inr (inr (memory_is (status_by ending ending_is.NoMemory e shows)))
  goes_to_end command files ending not_about told goes (said e about) shows = absurd (not_about about)
  goes_to_end command files ending not_about told goes (gone other e c) shows = elim c.stops [
    | inr rose ↦ inr (file_fault rose (status_by ending (ending_is.NoFile other) e shows))
    | inl missing ↦ absurd (not_gone seen.files files other _ told (goes c.number other c.named) (missing files told))
  ]
  goes_to_end command files ending not_about told goes (found other there e c) shows =
      let both = both_of seen.files files other _ _ told c.stops (goes c.number other c.named) in
      absurd (ends_not_on command seen.files files c.number both.0 there told both.1 both.2)
  goes_to_end command files ending not_about told goes (done was) shows = inl was

  ran_is : (command : Command) (ending : Ending) → RunsGuest command → Done command seen after log ending ⊎ Fails seen after sink status → (status ≡ status_of ending) ⊎ Otherwise sink status
      → ((h : How) × EndsBy log.entries.list h × (status ≡ end_status h)) ⊎ Fails seen after sink status
  ran_is command ending guest (inr fails) shows = inr fails
  ran_is command ending guest (inl (ran h e was)) shows = elim (status_by ending (ending_is.Ran h) e shows) [ inl is ↦ inl (h, ran_ends command seen was.0 log h was.1, is) | inr other ↦ inr (inr other) ]
  ran_is command ending guest (inl (unkept path h e was)) shows =
      let lost = subst (λ (x : Ending). Keeps (output_of command) was.0 log after x) e was.2 in
      let rose = rose_since seen.file_faults was.0.file_faults after.file_faults (ran_later command seen was.0 log h was.1) lost.3 in
      inr (file_fault rose (status_by ending (ending_is.LogFailed path h) e shows))
  ran_is command ending guest (inl (unmade h e was)) shows = inr (inr (memory_is (status_by ending (ending_is.LogNotMade h) e shows)))
  ran_is command ending guest (inl (audited answer e was)) shows = absurd (runs_not_audits (kind_of command) (guest_runs command guest) (audited_audits command seen.files answer was))
  ran_is command ending guest (inl (made bytes e was)) shows = absurd (kind_not (kind_of command) for_guests for_assembly guests_are_other (guest_runs command guest) (assembled_kind command _ was))
  ran_is command ending guest (inl (unwritten path e was)) shows = absurd (kind_not (kind_of command) for_guests for_assembly guests_are_other (guest_runs command guest) (assembled_kind command _ was))
  ran_is command ending guest (inl (loads loaded e was)) shows = absurd (kind_not (kind_of command) for_guests for_loads guests_are_no_load (guest_runs command guest) (load_kind command _ was))
  ran_is command ending guest (inl (shown_by entries e was)) shows = absurd (runs_not_shows (kind_of command) (guest_runs command guest) (shown_shows command seen.files entries was))

  audited_is : (command : Command) (ending : Ending) → IsAudit command → Done command seen after log ending ⊎ Fails seen after sink status → (status ≡ status_of ending) ⊎ Otherwise sink status
      → ((answer : Option ℕ) × AuditOf command seen.files answer × (status ≡ audit_status answer)) ⊎ Fails seen after sink status
  audited_is command ending audit (inr fails) shows = inr fails
  audited_is command ending audit (inl (audited answer e was)) shows = elim (status_by ending (ending_is.Audited answer) e shows) [ inl is ↦ inl (answer, was, is) | inr other ↦ inr (inr other) ]
  audited_is command ending audit (inl (ran h e was)) shows = absurd (runs_not_audits (kind_of command) (ran_runs command seen was.0 log h was.1) (is_audit command audit))
  audited_is command ending audit (inl (unkept path h e was)) shows = absurd (runs_not_audits (kind_of command) (ran_runs command seen was.0 log h was.1) (is_audit command audit))
  audited_is command ending audit (inl (unmade h e was)) shows = absurd (runs_not_audits (kind_of command) (ran_runs command seen was.0 log h was.1) (is_audit command audit))
  audited_is command ending audit (inl (made bytes e was)) shows = absurd (kind_not (kind_of command) for_audits for_assembly audits_are_other (is_audit command audit) (assembled_kind command _ was))
  audited_is command ending audit (inl (unwritten path e was)) shows = absurd (kind_not (kind_of command) for_audits for_assembly audits_are_other (is_audit command audit) (assembled_kind command _ was))
  audited_is command ending audit (inl (loads loaded e was)) shows = absurd (kind_not (kind_of command) for_audits for_loads audits_are_no_load (is_audit command audit) (load_kind command _ was))
  audited_is command ending audit (inl (shown_by entries e was)) shows = absurd (audits_not_shows (kind_of command) (is_audit command audit) (shown_shows command seen.files entries was))

  shown_is : (command : Command) (ending : Ending) → IsShow command → Done command seen after log ending ⊎ Fails seen after sink status → (status ≡ status_of ending) ⊎ Otherwise sink status
      → (status ≡ exit.Success) ⊎ Fails seen after sink status
  shown_is command ending show (inr fails) shown = inr fails
  shown_is command ending show (inl (shown_by entries zero_is was)) (inl is) = inl (is ∙ zero_is)
  shown_is command ending show (inl (shown_by entries zero_is was)) (inr other) = inr (inr other)
  shown_is command ending show (inl (ran h e was)) shown = absurd (runs_not_shows (kind_of command) (ran_runs command seen was.0 log h was.1) (is_show command show))
  shown_is command ending show (inl (unkept path h e was)) shown = absurd (runs_not_shows (kind_of command) (ran_runs command seen was.0 log h was.1) (is_show command show))
  shown_is command ending show (inl (unmade h e was)) shown = absurd (runs_not_shows (kind_of command) (ran_runs command seen was.0 log h was.1) (is_show command show))
  shown_is command ending show (inl (made bytes e was)) shown = absurd (kind_not (kind_of command) for_shows for_assembly shows_are_other (is_show command show) (assembled_kind command _ was))
  shown_is command ending show (inl (unwritten path e was)) shown = absurd (kind_not (kind_of command) for_shows for_assembly shows_are_other (is_show command show) (assembled_kind command _ was))
  shown_is command ending show (inl (loads loaded e was)) shown = absurd (kind_not (kind_of command) for_shows for_loads shows_are_no_load (is_show command show) (load_kind command _ was))
  shown_is command ending show (inl (audited answer e was)) shown = absurd (audits_not_shows (kind_of command) (audited_audits command seen.files answer was) (is_show command show))

  assembled_is : (command : Command) (ending : Ending) → IsAssemble command → Done command seen after log ending ⊎ Fails seen after sink status → (status ≡ status_of ending) ⊎ Otherwise sink status
      → (status ≡ exit.Success) ⊎ Fails seen after sink status
  assembled_is command ending asks (inr fails) look = inr fails
  assembled_is command ending asks (inl (made bytes e was)) look = elim (status_by ending (ending_is.Assembled bytes) e look) [ inl is ↦ inl is | inr other ↦ inr (inr other) ]
  assembled_is command ending asks (inl (unwritten path e was)) look =
      let a = assembly_is command _ was in
      inr (file_fault a.3.2 (status_by ending (ending_is.NotWritten path) e look))
  assembled_is command ending asks (inl (ran h e was)) look = absurd (kind_not (kind_of command) for_guests for_assembly guests_are_other (ran_runs command seen was.0 log h was.1) (assembled_kind command _ asks))
  assembled_is command ending asks (inl (unkept path h e was)) look = absurd (kind_not (kind_of command) for_guests for_assembly guests_are_other (ran_runs command seen was.0 log h was.1) (assembled_kind command _ asks))
  assembled_is command ending asks (inl (unmade h e was)) look = absurd (kind_not (kind_of command) for_guests for_assembly guests_are_other (ran_runs command seen was.0 log h was.1) (assembled_kind command _ asks))
  assembled_is command ending asks (inl (audited answer e was)) look = absurd (kind_not (kind_of command) for_audits for_assembly audits_are_other (audited_audits command seen.files answer was) (assembled_kind command _ asks))
  assembled_is command ending asks (inl (shown_by entries e was)) look = absurd (kind_not (kind_of command) for_shows for_assembly shows_are_other (shown_shows command seen.files entries was) (assembled_kind command _ asks))
  assembled_is command ending asks (inl (loads loaded e was)) look = absurd (kind_not (kind_of command) for_assembly for_loads assembly_is_no_load (assembled_kind command _ asks) (load_kind command _ was))

  -- a load that was asked for came to its end
  load_ended : (command : Command) (ending : Ending) (loaded : LoadEnding) (connections : ℕ) → Starts load_args (guest_file demo.Old) → LoadsAs log loaded connections → (status ≡ loaded_status loaded) ⊎ Otherwise sink status
      → ((h : How) × EndsBy log.entries.list h × (status ≡ end_status h)) ⊎ Otherwise sink status
  load_ended command ending (LoadEnded h figures) connections starts was (inl is) = inl (h, was.1, is)
  load_ended command ending (LoadEnded h figures) connections starts was (inr other) = inr other
  load_ended command ending (LoadRefused fault) connections starts was look = absurd (ok_not_err _ _ _ starts.1 was.1)

  load_done : (command : Command) (ending : Ending) → IsLoadCommand command → Starts load_args (guest_file demo.Old) → Done command seen after log ending → (status ≡ status_of ending) ⊎ Otherwise sink status
      → ((h : How) × EndsBy log.entries.list h × (status ≡ end_status h)) ⊎ Otherwise sink status
  load_done command ending asks starts (loads loaded e was) look =
      let l = load_is command _ was in
      load_ended command ending loaded l.0 starts l.2 (status_by ending (ending_is.Loaded loaded) e look)
  load_done command ending asks starts (ran h e was) look = absurd (kind_not (kind_of command) for_guests for_loads guests_are_no_load (ran_runs command seen was.0 log h was.1) (load_kind command _ asks))
  load_done command ending asks starts (unkept path h e was) look = absurd (kind_not (kind_of command) for_guests for_loads guests_are_no_load (ran_runs command seen was.0 log h was.1) (load_kind command _ asks))
  load_done command ending asks starts (unmade h e was) look = absurd (kind_not (kind_of command) for_guests for_loads guests_are_no_load (ran_runs command seen was.0 log h was.1) (load_kind command _ asks))
  load_done command ending asks starts (audited answer e was) look = absurd (kind_not (kind_of command) for_audits for_loads audits_are_no_load (audited_audits command seen.files answer was) (load_kind command _ asks))
  load_done command ending asks starts (made bytes e was) look = absurd (kind_not (kind_of command) for_assembly for_loads assembly_is_no_load (assembled_kind command _ was) (load_kind command _ asks))
  load_done command ending asks starts (unwritten path e was) look = absurd (kind_not (kind_of command) for_assembly for_loads assembly_is_no_load (assembled_kind command _ was) (load_kind command _ asks))
  load_done command ending asks starts (shown_by entries e was) look = absurd (kind_not (kind_of command) for_shows for_loads shows_are_no_load (shown_shows command seen.files entries was) (load_kind command _ asks))

  loaded_is : (command : Command) (ending : Ending) → IsLoadCommand command → Starts load_args (guest_file demo.Old) → Case command ending → (status ≡ status_of ending) ⊎ Otherwise sink status
      → ((h : How) × EndsBy log.entries.list h × (status ≡ end_status h)) ⊎ Otherwise sink status
  loaded_is command ending asks starts (gone path e stops) look = absurd (load_names_none command _ asks stops.number path stops.named)
  loaded_is command ending asks starts (found path finding e stops) look = absurd (load_names_none command _ asks stops.number path stops.named)
  loaded_is command ending asks starts (done was) look = load_done command ending asks starts was look
  loaded_is command ending asks starts (wanted e) look = inr (memory_is (status_by ending ending_is.NoMemory e look))
  loaded_is command ending asks starts (said e about) look = absurd (kind_not (kind_of command) for_help for_loads help_is_no_load (about_tells command about) (load_kind command _ asks))

  assemble_not_about : (command : Command) → IsAssemble command → IsAbout command → ⊥
  assemble_not_about command asks about = kind_not (kind_of command) for_help for_assembly help_is_other (about_tells command about) (assembled_kind command _ asks)

  guest_not_about : (command : Command) → RunsGuest command → IsAbout command → ⊥
  guest_not_about command guest about = tells_not_runs (kind_of command) (about_tells command about) (guest_runs command guest)

  audit_not_about : (command : Command) → IsAudit command → IsAbout command → ⊥
  audit_not_about command audit about = tells_not_audits (kind_of command) (about_tells command about) (is_audit command audit)

  show_not_about : (command : Command) → IsShow command → IsAbout command → ⊥
  show_not_about command show about = tells_not_shows (kind_of command) (about_tells command about) (is_show command show)

pub exact_is : (Is : Known) (words : List (List ℕ)) (seen after : Seen) (log : Log) (printed : Option (List ℕ) × Option (List ℕ)) (sink : ℕ × ℕ) (status : ExitStatus) → HasStatus Is words seen after log printed sink status → IsExact Is words seen after log sink status
exact_is Is words seen after log printed sink status has =
    let ending = has.0 in
    let look = shown ending printed sink status has.2 in
    let by = λ (command : Command) (is : Is command) (says : Says words command). case_of Is words seen after log sink status command ending is says has.1 in
    let to_end = λ (command : Command) (files : FileMap) (is : Is command) (says : Says words command) (other : IsAbout command → ⊥) (told : seen.files ≡ Some files) (goes : AllGoOn command seen.files).
    goes_to_end Is words seen after log sink status command files ending other told goes (by command is says) look in
    record {
      bad_words = bad_words_is Is words seen after log sink status ending has.1 look;
      told = λ command is says about. told_is Is words seen after log sink status command ending about (by command is says) look;
      missing = λ command files path is says told stops. missing_is Is words seen after log sink status command files path ending told stops (by command is says) look;
      found = λ command files path finding is says told stops. found_is Is words seen after log sink status command files path finding ending told stops (by command is says) look;
      audited = λ command files is says audit told goes. audited_is Is words seen after log sink status command ending audit (to_end command files is says (audit_not_about Is words seen after log sink status command audit) told goes) look;
      assembled = λ command files is says asks told goes. assembled_is Is words seen after log sink status command ending asks (to_end command files is says (assemble_not_about Is words seen after log sink status command asks) told goes) look;
      loaded = λ command is says asks starts. loaded_is Is words seen after log sink status command ending asks starts (by command is says) look;
      shown = λ command files is says show told goes. shown_is Is words seen after log sink status command ending show (to_end command files is says (show_not_about Is words seen after log sink status command show) told goes) look;
      ran = λ command files is says guest told goes. ran_is Is words seen after log sink status command ending guest (to_end command files is says (guest_not_about Is words seen after log sink status command guest) told goes) look;
    }
