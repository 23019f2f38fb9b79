-- What a command came to has its cause.
use Rattle.std.proofs.Common.{◌≡◌, ◌≤◌, ◌<◌, ℕ, zero, suc, [], ◌∷◌, List, refl, ap, ap₂, sym, ◌∙◌, subst, Option, Some, None, arith, ◌⊎◌, inl, inr, Ok, Err}
use Rattle.std.specs.Prelude.{slice_get}
use Rattle.mv_outside.specs.Causes.{Rose}
use Rattle.mv_calls.specs.declared.calls.Item.{Item}
use Rattle.mv_outside.specs.Files.{ChangesOnly, FileMap}
use Rattle.mv_outside.specs.Told.{told_more, told_more-none}
use Rattle.mv_core.specs.Sound.{IsNewRun}
use Rattle.mv_load.specs.Loads.{IsLoad, IsLegal as IsLegalLoad}
use Rattle.mv_guest.specs.Standing.{Standing}
use Rattle.mv_transform.specs.Births.{behaviour, started}
use Rattle.mv_outside.specs.Began.{Began}
use Rattle.mv_history.specs.Ends.{EndsBy}
use Rattle.mv_history.specs.declared.log.How.{How}
use Rattle.mv_history.specs.declared.log.Log.{Log}
use Rattle.mv_core.specs.Found.{AreFilesKept}
use Rattle.mv_rehearse.specs.Runs.{DidCalls, IsLegalRun}
use Rattle.mv_history.specs.World.{outside}
use Rattle.mv_history.specs.declared.log.Entry.{Entry}
use Rattle.mv_words.specs.declared.command.Command.{Command}
use Rattle.mv_words.specs.declared.command.Command.TheVariants as ask
use Rattle.mv_inspect.specs.Told.{FileIs, IsMissing, StandsAt}
use Rattle.mv_commands.specs.Named.{FoundAt, GoesOn, Starts, StopsAt, files_of}
use Rattle.mv_commands.specs.Loading.{Meaning, IsJudged, ending_by}
use Rattle.mv_words.specs.Commands.{AreInThrees, Says, IsRing, IsSize}
use Rattle.mv_inspect.specs.Audits.{AreInThrees as AreThrees, AuditGoes, HasSomeLog, IsInspected, audit_files}
use Rattle.mv_inspect.specs.Logs.{IsListed}
use Rattle.mv_inspect.specs.declared.auditing.Inspected.{Inspected}
use Rattle.mv_inspect.specs.declared.auditing.Inspected.TheVariants as inspected
use Rattle.mv_inspect.specs.declared.listing.Listed.{Listed}
use Rattle.mv_inspect.specs.declared.listing.Listed.TheVariants as listed
use Rattle.mv_commands.specs.Loading.{audit_ending_by, show_ending_by}
use Rattle.mv_words.proofs.OneReading.{one_reading}
use Rattle.mv_commands.specs.Causes.{AnyNumber, AsksLoad, DidTheLog, IsLoadCommand, LoadOf, LoadsAs, AssemblyOf, WroteAlone, Known, IsOnOneThread, IsKept, IsLegal, Keeps, KeepsFiles, RanFor, RunOf, Seen, NoGuest, CauseOf, HasCause, IsBegun, IsFeasible, IsRun, output_of}
use Rattle.mv_commands.specs.Keeping.{SaysHow}
use Rattle.mv_schedule.specs.Schedules.{schedule_of}
use Rattle.mv_schedule.specs.declared.fault.ScheduleFault.{ScheduleFault}
use Rattle.mv_commands.specs.declared.ending.LoadEnding.{LoadEnding}
use Rattle.mv_commands.specs.declared.ending.LoadEnding.TheVariants.{Ended as LoadEnded, Refused as LoadRefused}
use Rattle.mv_commands.specs.declared.ending.Ending.{Ending}
use Rattle.mv_commands.specs.declared.ending.Ending.TheVariants as ending_is
use Rattle.mv_commands.specs.declared.ending.Finding.{Finding}
use Rattle.mv_commands.specs.declared.ending.Finding.TheVariants.{BadSchedule}
use Rattle.mv_commands.specs.declared.judging.Judged.{Judged}
use Rattle.mv_commands.specs.declared.judging.Judged.TheVariants as judged

-- what rose since a later moment rose since an earlier one
pub rose_since : (before mid now : ℕ) → before ≤ mid → Rose mid now → Rose before now
rose_since before mid now le rose = omega (arith, le, rose)

-- the guest's file is one of which it starts
pub starts_there : (told : Option FileMap) (old : List ℕ) (args : List (List ℕ)) (guest : Standing) (log : Log) → IsNewRun behaviour guest log → log.start.args ≡ args → StandsAt told old log.start.«module» → FileIs told old (Starts args)
starts_there told old args guest log new are stands files e =
    let begun : started log.start.«module» args ≡ Ok (behaviour.state guest) = ap (started log.start.«module») (sym are) ∙ new.starts in
    (log.start.«module», stands files e, (behaviour.state guest, begun))

abbrev some_text : List ℕ → Option (List ℕ)
some_text text = Some text

same_text : (a b : List ℕ) → some_text a ≡ some_text b → a ≡ b
same_text a b e = cc

-- the schedule is judged behind the guest's file
pub stops_at_schedule : (old schedule : List ℕ) (args : List (List ℕ)) (ring : ℕ) (path : Option (List ℕ)) (told : Option FileMap) (P : ℕ → Type 0) → FileIs told old (Starts (old ∷ args)) → P 1 → StopsAt (ask.Rehearse old schedule args ring path) told schedule P
stops_at_schedule old schedule args ring path told P goes stops = record { number = 1; named = refl; earlier = earlier; stops = stops }
  where
    earlier : (n : ℕ) (other : List ℕ) → n < 1 → slice_get (files_of (ask.Rehearse old schedule args ring path)) n ≡ Some other → FileIs told other (GoesOn (ask.Rehearse old schedule args ring path) told n)
    earlier zero other less is = subst (λ (p : List ℕ). FileIs told p (Starts (old ∷ args))) (same_text old other is) goes
    earlier (suc n) other less is = absurd (omega arith)

-- the first file of a command is judged
pub stops_at_first : (command : Command) (told : Option FileMap) (path : List ℕ) (P : ℕ → Type 0) → slice_get (files_of command) 0 ≡ Some path → P 0 → StopsAt command told path P
stops_at_first command told path P named stops = record { number = 0; named = named; earlier = λ n other less is. absurd (omega arith); stops = stops }

-- a guest of the file ran, and its log ended
pub is_run : (old : List ℕ) (args : List (List ℕ)) (before after : Seen) (log first : Log) (began : Began) (h : How) → IsBegun before first began → first.start.args ≡ old ∷ args → StandsAt before.files old first.start.«module»
    → IsLegalRun behaviour began log → DidCalls began log.entries.list after.done after.kernel_faults
    → AreFilesKept began.files began.files_faults log.entries.list log.updates.list after.files after.file_faults → EndsBy log.entries.list h → IsRun old args before after began log h
is_run old args before after log first began h begun args_are stands legal did files ends = record {
  module_is = λ map e. stands map e ∙ ap Some (sym begun.start ∙ sym legal.same_module);
  args_are = legal.same_args ∙ begun.args ∙ args_are;
  begins = record { start = sym legal.same_module; args = sym legal.same_args; done = begun.done; coming = begun.coming; said = begun.said; files = begun.files; kernel_faults = begun.kernel_faults; console_faults = begun.console_faults; file_faults = begun.file_faults };
  legal = legal;
  did = did;
  files = files;
  ends = ends;
}

-- a cause of a command is one of what it is equal to
pub same_cause : (command asked : Command) (before after : Seen) (log : Log) (ending : Ending) → command ≡ asked → CauseOf asked before after log ending → CauseOf command before after log ending
same_cause command asked before after log ending is cause = subst (λ (x : Command). CauseOf x before after log ending) (sym is) cause

-- the run's log is kept, or isn't
pub ran_cause : (command : Command) (before mid after : Seen) (log other : Log) (h : How) (ending : Ending) → other ≡ log → RunOf command before mid log h → SaysHow h ending → Keeps (output_of command) mid log after ending → CauseOf command before after other ending
ran_cause command before mid after log other h (ending_is.Ran by) same run says keeps = subst (λ (l : Log). CauseOf command before after l (ending_is.Ran by)) (sym same) (mid, subst (λ (x : How). RunOf command before mid log x) (sym says) run, keeps)
ran_cause command before mid after log other h (ending_is.LogFailed path by) same run says keeps = subst (λ (l : Log). CauseOf command before after l (ending_is.LogFailed path by)) (sym same) (mid, subst (λ (x : How). RunOf command before mid log x) (sym says) run, keeps)
ran_cause command before mid after log other h (ending_is.LogNotMade by) same run says keeps = subst (λ (l : Log). CauseOf command before after l (ending_is.LogNotMade by)) (sym same) (mid, subst (λ (x : How). RunOf command before mid log x) (sym says) run, keeps)
ran_cause command before mid after log other h ending_is.BadWords same run says keeps = absurd says
ran_cause command before mid after log other h ending_is.NoMemory same run says keeps = absurd says
ran_cause command before mid after log other h ending_is.Told same run says keeps = absurd says
ran_cause command before mid after log other h (ending_is.NoFile path) same run says keeps = absurd says
ran_cause command before mid after log other h (ending_is.Found path finding) same run says keeps = absurd says
ran_cause command before mid after log other h (ending_is.Audited illegal) same run says keeps = absurd says
ran_cause command before mid after log other h (ending_is.Shown entries) same run says keeps = absurd says
ran_cause command before mid after log other h (ending_is.Assembled bytes) same run says keeps = absurd says
ran_cause command before mid after log other h (ending_is.NotWritten path) same run says keeps = absurd says
ran_cause command before mid after log other h (ending_is.Loaded loaded) same run says keeps = absurd says

-- a command that judges one file
pub judged_cause : (Says : Meaning) (command : Command) (path : List ℕ) (before after : Seen) (log : Log) (found : Judged) → slice_get (files_of command) 0 ≡ Some path → ((text : List ℕ) (finding : Finding) → Says text finding → FoundAt command before.files 0 text finding)
    → IsJudged Says before.files path before.file_faults after.file_faults found → NoGuest before after log → CauseOf command before after log (ending_by path found)
judged_cause Says command path before after log judged.NoFile named says is none = (stops_at_first command before.files path _ named is, none)
judged_cause Says command path before after log judged.NoMemory named says is none = none
judged_cause Says command path before after log (judged.Found finding) named says is none =
    (stops_at_first command before.files path _ named (λ files e. (let there = is files e in (there.0, there.1, says there.0 finding there.2))), none)

-- the same, as the command comes to it
pub judged_comes : (Says : Meaning) (command asked : Command) (path : List ℕ) (before after : Seen) (log : Log) (found : Judged) (ending : Ending) (faults : ℕ) → command ≡ asked → slice_get (files_of asked) 0 ≡ Some path → ((text : List ℕ) (finding : Finding) → Says text finding → FoundAt asked before.files 0 text finding)
    → ending ≡ ending_by path found → after.file_faults ≡ faults → IsJudged Says before.files path before.file_faults faults found → NoGuest before after log → CauseOf command before after log ending
judged_comes Says command asked path before after log found ending faults is named says ending_is same judged none =
    let there : IsJudged Says before.files path before.file_faults after.file_faults found = subst (λ (n : ℕ). IsJudged Says before.files path before.file_faults n found) (sym same) judged in
    let caused : CauseOf asked before after log ending = subst (λ (e : Ending). CauseOf asked before after log e) (sym ending_is) (judged_cause Says asked path before after log found named says there none) in
    subst (λ (x : Command). CauseOf x before after log ending) (sym is) caused

-- the schedule's file is missing
pub schedule_missing : (old schedule : List ℕ) (args : List (List ℕ)) (ring : ℕ) (path : Option (List ℕ)) (before after : Seen) (log : Log) (ending : Ending) (told : Option FileMap) (mid faults : ℕ) → ending ≡ ending_is.NoFile schedule → FileIs before.files old (Starts (old ∷ args))
    → told ≡ before.files → before.file_faults ≤ mid → after.file_faults ≡ faults → IsMissing told schedule ⊎ Rose mid faults → NoGuest before after log → CauseOf (ask.Rehearse old schedule args ring path) before after log ending
schedule_missing old schedule args ring path before after log ending told mid faults is goes same le now missing none =
    subst (λ (e : Ending). CauseOf (ask.Rehearse old schedule args ring path) before after log e) (sym is) (stops_at_schedule old schedule args ring path before.files _ goes (cause missing), none)
  where
    cause : IsMissing told schedule ⊎ Rose mid faults → IsMissing before.files schedule ⊎ Rose before.file_faults after.file_faults
    cause (inl gone) = inl (subst (λ (t : Option FileMap). IsMissing t schedule) same gone)
    cause (inr rose) = inr (rose_since before.file_faults mid after.file_faults le (subst (λ (n : ℕ). Rose mid n) (sym now) rose))

-- the schedule's file is no schedule
pub schedule_refused : (old schedule : List ℕ) (args : List (List ℕ)) (ring : ℕ) (path : Option (List ℕ)) (before after : Seen) (log : Log) (ending : Ending) (told : Option FileMap) (fault : ScheduleFault) → ending ≡ ending_is.Found schedule (BadSchedule fault) → FileIs before.files old (Starts (old ∷ args))
    → told ≡ before.files → FileIs told schedule (λ text. schedule_of text ≡ Err fault) → NoGuest before after log → CauseOf (ask.Rehearse old schedule args ring path) before after log ending
schedule_refused old schedule args ring path before after log ending told fault is goes same refused none =
    subst (λ (e : Ending). CauseOf (ask.Rehearse old schedule args ring path) before after log e) (sym is)
    (stops_at_schedule old schedule args ring path before.files _ goes (subst (λ (t : Option FileMap). FileIs t schedule (λ text. schedule_of text ≡ Err fault)) same refused), none)

ring_feasible : (rings : List (List ℕ)) (n : ℕ) → IsRing rings n → (4 ≤ n) × (n ≤ 4096)
ring_feasible [] n is = (omega (arith, is), omega (arith, is))
ring_feasible (text ∷ []) n is = (is.low, is.high)
ring_feasible (text ∷ other ∷ more) n is = absurd is

size_feasible : (placed : List (List ℕ)) (n : ℕ) → IsSize placed n → (1 ≤ n) × (n ≤ 10000)
size_feasible [] n is = absurd is
size_feasible (text ∷ []) n is = (is.low, is.high)
size_feasible (text ∷ other ∷ more) n is = absurd is

-- the first file is missing
pub first_missing : (command : Command) (path : List ℕ) (before after : Seen) (log : Log) (ending : Ending) (faults : ℕ) → slice_get (files_of command) 0 ≡ Some path → ending ≡ ending_is.NoFile path → after.file_faults ≡ faults
    → IsMissing before.files path ⊎ Rose before.file_faults faults → NoGuest before after log → CauseOf command before after log ending
first_missing command path before after log ending faults named is now missing none =
    subst (λ (e : Ending). CauseOf command before after log e) (sym is)
    (stops_at_first command before.files path _ named (subst (λ (n : ℕ). IsMissing before.files path ⊎ Rose before.file_faults n) (sym now) missing), none)

-- no guest starts of the first file
pub first_refused : (command : Command) (path : List ℕ) (before after : Seen) (log : Log) (ending : Ending) (finding : Finding) → slice_get (files_of command) 0 ≡ Some path → ending ≡ ending_is.Found path finding
    → FileIs before.files path (λ text. FoundAt command before.files 0 text finding) → NoGuest before after log → CauseOf command before after log ending
first_refused command path before after log ending finding named is found none =
    subst (λ (e : Ending). CauseOf command before after log e) (sym is) (stops_at_first command before.files path _ named found, none)

in_threes : (names : List (List ℕ)) → AreInThrees names → AreThrees names
in_threes [] threes = tt
in_threes (m ∷ []) threes = absurd threes
in_threes (m ∷ f ∷ []) threes = absurd threes
in_threes (m ∷ f ∷ r ∷ names) threes = in_threes names threes

-- the capacity that the words give is one of a feed, and the files of updates come in threes
pub feasible : (words : List (List ℕ)) (command : Command) → Says words command → IsFeasible command
feasible words (ask.Run old args) says = tt
feasible words (ask.Rehearse old schedule args ring path) says = ring_feasible says.values.rings ring says.asks.1.ring_is
feasible words (ask.Serve old args ring path) says = ring_feasible says.values.rings ring says.asks.1.ring_is
feasible words (ask.Check path) says = tt
feasible words (ask.Rules forward) says = tt
feasible words (ask.Audit log old updates) says = in_threes updates says.asks.3
feasible words (ask.Show log) says = tt
feasible words (ask.Assemble from to) says = tt
feasible words (ask.Load connections) says = size_feasible says.placed connections says.asks.2
feasible words ask.Help says = tt
feasible words ask.Version says = tt

-- the cause of what a command came to is one of its words
pub cause_by : (Is : Known) (words : List (List ℕ)) (command : Command) (before after : Seen) (log : Log) (ending : Ending) → Is command → Says words command → CauseOf command before after log ending → HasCause Is words before after log ending
cause_by Is words command before after log ending_is.BadWords is says cause = absurd cause
cause_by Is words command before after log ending_is.NoMemory is says cause = cause
cause_by Is words command before after log ending_is.Told is says cause = (command, is, says, cause)
cause_by Is words command before after log (ending_is.NoFile path) is says cause = (command, is, says, cause)
cause_by Is words command before after log (ending_is.Found path finding) is says cause = (command, is, says, cause)
cause_by Is words command before after log (ending_is.Ran h) is says cause = (command, is, says, cause)
cause_by Is words command before after log (ending_is.LogFailed path h) is says cause = (command, is, says, cause)
cause_by Is words command before after log (ending_is.LogNotMade h) is says cause = (command, is, says, cause)
cause_by Is words command before after log (ending_is.Audited illegal) is says cause = (command, is, says, cause)
cause_by Is words command before after log (ending_is.Shown entries) is says cause = (command, is, says, cause)
cause_by Is words command before after log (ending_is.Assembled bytes) is says cause = (command, is, says, cause)
cause_by Is words command before after log (ending_is.NotWritten path) is says cause = (command, is, says, cause)
cause_by Is words command before after log (ending_is.Loaded loaded) is says cause = (command, is, says, cause)

-- words that ask for a service ask for nothing on one thread
pub no_service : (words : List (List ℕ)) (service : Command) → (IsOnOneThread service → ⊥) → Says words service → (command : Command) → IsOnOneThread command → Says words command → ⊥
no_service words service other says command is asks = other (subst IsOnOneThread (one_reading words command service asks says) is)

pub refused_service : (words : List (List ℕ)) (service : Command) (before after : Seen) (log : Log) (ending : Ending) → (IsOnOneThread service → ⊥) → Says words service → ending ≡ ending_is.BadWords → NoGuest before after log → HasCause IsOnOneThread words before after log ending
refused_service words service before after log ending other says is none =
    subst (λ (e : Ending). HasCause IsOnOneThread words before after log e) (sym is) (no_service words service other says, none)

-- a command that assembles names the paths of its text and its module
pub assembly_is : (command : Command) (P : List ℕ → List ℕ → Type 0) → AssemblyOf command P → (from : List ℕ) × (to : List ℕ) × (command ≡ ask.Assemble from to) × P from to
assembly_is (ask.Assemble from to) P holds = (from, to, refl, holds)
assembly_is (ask.Run old args) P holds = absurd holds
assembly_is (ask.Rehearse old schedule args ring path) P holds = absurd holds
assembly_is (ask.Serve old args ring path) P holds = absurd holds
assembly_is (ask.Check path) P holds = absurd holds
assembly_is (ask.Rules forward) P holds = absurd holds
assembly_is (ask.Audit from old updates) P holds = absurd holds
assembly_is (ask.Show from) P holds = absurd holds
assembly_is (ask.Load connections) P holds = absurd holds
assembly_is ask.Help P holds = absurd holds
assembly_is ask.Version P holds = absurd holds

-- a command that asks for a load says how many connections it has
pub load_is : (command : Command) (P : ℕ → Type 0) → LoadOf command P → (connections : ℕ) × (command ≡ ask.Load connections) × P connections
load_is (ask.Load connections) P holds = (connections, refl, holds)
load_is (ask.Assemble from to) P holds = absurd holds
load_is (ask.Run old args) P holds = absurd holds
load_is (ask.Rehearse old schedule args ring path) P holds = absurd holds
load_is (ask.Serve old args ring path) P holds = absurd holds
load_is (ask.Check path) P holds = absurd holds
load_is (ask.Rules forward) P holds = absurd holds
load_is (ask.Audit from old updates) P holds = absurd holds
load_is (ask.Show from) P holds = absurd holds
load_is ask.Help P holds = absurd holds
load_is ask.Version P holds = absurd holds

-- the log of a load is legal
pub load_legal : (log : Log) (loaded : LoadEnding) (connections : ℕ) → LoadsAs log loaded connections → IsLegal log
load_legal log (LoadEnded h figures) connections is = let run = is.0.run.legal in inr (run.first, ap₂ started run.same_module run.same_args ∙ run.started, run.legal)
load_legal log (LoadRefused fault) connections is = inl is.0.entries

-- an audit of it finds so
pub load_audits : (connections : ℕ) (log : Log) → IsLoad connections log → IsLegalLoad log
load_audits connections log is = let run = is.run.legal in record { first = run.first; started = ap₂ started run.same_module run.same_args ∙ run.started; legal = run.legal }

run_legal : (old : List ℕ) (args : List (List ℕ)) (before after : Seen) (began : Began) (log : Log) (h : How) → IsRun old args before after began log h → IsLegal log
run_legal old args before after began log h ran = inr (ran.legal.first, ap₂ started ran.legal.same_module ran.legal.same_args ∙ ran.legal.started, ran.legal.legal)

-- what a run of a command is
abbrev SomeRun : Seen → Seen → Log → How → Type 0
SomeRun before after log h = (old : List ℕ) × (args : List (List ℕ)) × (began : Began) × IsRun old args before after began log h

some_run : (command : Command) (before after : Seen) (log : Log) (h : How) → RunOf command before after log h → SomeRun before after log h
some_run (ask.Run old args) before after log h ran = (old, args, ran.began, ran.is_run)
some_run (ask.Rehearse old schedule args ring path) before after log h ran = (old, args, ran.began, ran.is_run)
some_run (ask.Serve old args ring path) before after log h ran = (old, args, ran.began, ran.is_run)
some_run (ask.Check path) before after log h ran = absurd ran
some_run (ask.Rules forward) before after log h ran = absurd ran
some_run (ask.Audit record_ old updates) before after log h ran = absurd ran
some_run (ask.Show record_) before after log h ran = absurd ran
some_run (ask.Assemble from to) before after log h ran = absurd ran
some_run (ask.Load connections) before after log h ran = absurd ran
some_run ask.Help before after log h ran = absurd ran
some_run ask.Version before after log h ran = absurd ran

ran_legal : (command : Command) (before after : Seen) (log : Log) (h : How) → RunOf command before after log h → IsLegal log
ran_legal command before after log h ran = let r = some_run command before after log h ran in run_legal r.0 r.1 before after r.2 log h r.3

-- whatever the words come to, the log is legal
pub legal_by : (Is : Known) (words : List (List ℕ)) (before after : Seen) (log : Log) (ending : Ending) → HasCause Is words before after log ending → IsLegal log
legal_by Is words before after log ending_is.BadWords cause = inl cause.1.entries
legal_by Is words before after log ending_is.NoMemory cause = inl cause.entries
legal_by Is words before after log ending_is.Told cause = inl cause.3.1.entries
legal_by Is words before after log (ending_is.NoFile path) cause = inl cause.3.1.entries
legal_by Is words before after log (ending_is.Found path finding) cause = inl cause.3.1.entries
legal_by Is words before after log (ending_is.Ran h) cause = ran_legal cause.0 before cause.3.0 log h cause.3.1
legal_by Is words before after log (ending_is.LogFailed path h) cause = ran_legal cause.0 before cause.3.0 log h cause.3.1
legal_by Is words before after log (ending_is.LogNotMade h) cause = ran_legal cause.0 before cause.3.0 log h cause.3.1
legal_by Is words before after log (ending_is.Audited illegal) cause = inl cause.3.1.entries
legal_by Is words before after log (ending_is.Shown entries) cause = inl cause.3.1.entries
legal_by Is words before after log (ending_is.Assembled bytes) cause = let a = assembly_is cause.0 _ cause.3 in inl a.3.1.entries
legal_by Is words before after log (ending_is.NotWritten path) cause = let a = assembly_is cause.0 _ cause.3 in inl a.3.3.entries
legal_by Is words before after log (ending_is.Loaded loaded) cause = let l = load_is cause.0 _ cause.3.0 in load_legal log loaded l.0 l.2

-- ## The calls that were done

abbrev Did : Seen → Seen → Log → Type 0
Did before after log = after.done ≡ told_more before.done (outside log.entries.list)

none_did : (before after : Seen) (log : Log) → NoGuest before after log → Did before after log
none_did before after log none = none.done ∙ sym (told_more-none before.done) ∙ ap (λ (es : List Entry). told_more before.done (outside es)) (sym none.entries)

wrote_did : (to : List ℕ) (before after : Seen) (log : Log) → WroteAlone to before after log → Did before after log
wrote_did to before after log wrote = wrote.done ∙ sym (told_more-none before.done) ∙ ap (λ (es : List Entry). told_more before.done (outside es)) (sym wrote.entries)

run_did : (old : List ℕ) (args : List (List ℕ)) (before after : Seen) (began : Began) (log : Log) (h : How) → IsRun old args before after began log h → Did before after log
run_did old args before after began log h ran = ran.did.done_is ∙ ap (λ (d : Option (List Item)). told_more d (outside log.entries.list)) ran.begins.done

kept_done : (wanted : Option (List ℕ)) (mid : Seen) (log : Log) (after : Seen) → IsKept wanted mid log after → after.done ≡ mid.done
kept_done None mid log after kept = ap (λ (s : Seen). s.done) kept
kept_done (Some path) mid log after kept = kept.0.done

keeps_done : (wanted : Option (List ℕ)) (mid : Seen) (log : Log) (after : Seen) (ending : Ending) → Keeps wanted mid log after ending → after.done ≡ mid.done
keeps_done wanted mid log after (ending_is.Ran h) keeps = kept_done wanted mid log after keeps
keeps_done wanted mid log after (ending_is.LogFailed other h) keeps = keeps.1.done
keeps_done wanted mid log after (ending_is.LogNotMade h) keeps = keeps.1.done
keeps_done wanted mid log after ending_is.BadWords keeps = absurd keeps
keeps_done wanted mid log after ending_is.NoMemory keeps = absurd keeps
keeps_done wanted mid log after ending_is.Told keeps = absurd keeps
keeps_done wanted mid log after (ending_is.NoFile other) keeps = absurd keeps
keeps_done wanted mid log after (ending_is.Found other finding) keeps = absurd keeps
keeps_done wanted mid log after (ending_is.Audited illegal) keeps = absurd keeps
keeps_done wanted mid log after (ending_is.Shown entries) keeps = absurd keeps
keeps_done wanted mid log after (ending_is.Assembled bytes) keeps = absurd keeps
keeps_done wanted mid log after (ending_is.NotWritten path) keeps = absurd keeps
keeps_done wanted mid log after (ending_is.Loaded loaded) keeps = absurd keeps

ran_did : (command : Command) (before after : Seen) (log : Log) (h : How) (ending : Ending) → RanFor command before after log h ending → Did before after log
ran_did command before after log h ending ran =
    let r = some_run command before ran.0 log h ran.1 in
    keeps_done (output_of command) ran.0 log after ending ran.2 ∙ run_did r.0 r.1 before ran.0 r.2 log h r.3

-- words that ask for another command ask for no load
no_load : (words : List (List ℕ)) (command : Command) → Says words command → (IsLoadCommand command → ⊥) → AsksLoad words → ⊥
no_load words command says other asks = other (subst IsLoadCommand (one_reading words asks.0 command asks.1 says) asks.2)

-- the calls are the log's, and the words ask for no load
did_all : (words : List (List ℕ)) (before after : Seen) (log : Log) (command : Command) → Says words command → (IsLoadCommand command → ⊥) → Did before after log → DidTheLog words before.done after.done log
did_all words before after log command says other did = record { done = λ no. did; load = λ asks. absurd (no_load words command says other asks) }

-- no guest ran, whatever was asked
did_none : (words : List (List ℕ)) (before after : Seen) (log : Log) → NoGuest before after log → DidTheLog words before.done after.done log
did_none words before after log none = record { done = λ no. none_did before after log none; load = λ asks. none.done }

run_no_load : (command : Command) (before after : Seen) (log : Log) (h : How) → RunOf command before after log h → IsLoadCommand command → ⊥
run_no_load command before after log h ran asks =
    let l = load_is command AnyNumber asks in
    subst (λ (c : Command). RunOf c before after log h) l.1 ran

assembly_no_load : (command : Command) (P : List ℕ → List ℕ → Type 0) → AssemblyOf command P → IsLoadCommand command → ⊥
assembly_no_load command P holds asks =
    let l = load_is command AnyNumber asks in
    subst (λ (c : Command). AssemblyOf c P) l.1 holds

ran_did_all : (Is : Known) (words : List (List ℕ)) (before after : Seen) (log : Log) (h : How) (ending : Ending) → (found : (command : Command) × Is command × Says words command × RanFor command before after log h ending) → DidTheLog words before.done after.done log
ran_did_all Is words before after log h ending found =
    did_all words before after log found.0 found.2 (run_no_load found.0 before found.3.0 log h found.3.1) (ran_did found.0 before after log h ending found.3)

wrote_did_all : (words : List (List ℕ)) (before after : Seen) (log : Log) (command : Command) (P : List ℕ → List ℕ → Type 0) → Says words command → AssemblyOf command P → (to : List ℕ) → WroteAlone to before after log → DidTheLog words before.done after.done log
wrote_did_all words before after log command P says holds to wrote = did_all words before after log command says (assembly_no_load command P holds) (wrote_did to before after log wrote)

-- a load did nothing with what was handed in
loaded_did : (words : List (List ℕ)) (before after : Seen) (log : Log) (command : Command) (P : ℕ → Type 0) → Says words command → LoadOf command P → after ≡ before → DidTheLog words before.done after.done log
loaded_did words before after log command P says holds same =
    let l = load_is command P holds in
    record {
      done = λ no. absurd (no (command, says, subst IsLoadCommand (sym l.1) tt));
      load = λ asks. ap (λ (s : Seen). s.done) same;
    }

-- whatever the words come to, the calls done are the log's
pub did_by : (Is : Known) (words : List (List ℕ)) (before after : Seen) (log : Log) (ending : Ending) → HasCause Is words before after log ending → DidTheLog words before.done after.done log
did_by Is words before after log ending_is.BadWords cause = did_none words before after log cause.1
did_by Is words before after log ending_is.NoMemory cause = did_none words before after log cause
did_by Is words before after log ending_is.Told cause = did_none words before after log cause.3.1
did_by Is words before after log (ending_is.NoFile path) cause = did_none words before after log cause.3.1
did_by Is words before after log (ending_is.Found path finding) cause = did_none words before after log cause.3.1
did_by Is words before after log (ending_is.Ran h) cause = ran_did_all Is words before after log h (ending_is.Ran h) cause
did_by Is words before after log (ending_is.LogFailed path h) cause = ran_did_all Is words before after log h (ending_is.LogFailed path h) cause
did_by Is words before after log (ending_is.LogNotMade h) cause = ran_did_all Is words before after log h (ending_is.LogNotMade h) cause
did_by Is words before after log (ending_is.Audited illegal) cause = did_none words before after log cause.3.1
did_by Is words before after log (ending_is.Shown entries) cause = did_none words before after log cause.3.1
did_by Is words before after log (ending_is.Assembled bytes) cause = let a = assembly_is cause.0 _ cause.3 in wrote_did_all words before after log cause.0 _ cause.2 cause.3 a.1 a.3.1
did_by Is words before after log (ending_is.NotWritten path) cause = let a = assembly_is cause.0 _ cause.3 in wrote_did_all words before after log cause.0 _ cause.2 cause.3 a.1 a.3.3
did_by Is words before after log (ending_is.Loaded loaded) cause = loaded_did words before after log cause.0 _ cause.2 cause.3.0 cause.3.1

-- ## The files

unchanged : (words : List (List ℕ)) (told now : Option FileMap) → now ≡ told → KeepsFiles words told now
unchanged words None now same = same
unchanged words (Some files) now same = (files, same, λ path no. refl)

changed : (words : List (List ℕ)) (command : Command) (path : List ℕ) (told now : Option FileMap) → Says words command → output_of command ≡ Some path → ChangesOnly told path now → KeepsFiles words told now
changed words command path None None says named others = refl
changed words command path None (Some files) says named others = absurd others
changed words command path (Some files) None says named others = absurd others
changed words command path (Some files) (Some later) says named others = (later, refl, λ other no. others other (λ e. no (command, says, named ∙ ap Some (sym e))))

-- what stands at each path after a run whose log was kept, or wasn't
kept_files : (words : List (List ℕ)) (command : Command) (wanted : Option (List ℕ)) (mid : Seen) (log : Log) (after : Seen) → Says words command → output_of command ≡ wanted → IsKept wanted mid log after → KeepsFiles words mid.files after.files
kept_files words command None mid log after says named kept = unchanged words mid.files after.files (ap (λ (s : Seen). s.files) kept)
kept_files words command (Some path) mid log after says named kept = changed words command path mid.files after.files says named kept.1.others

keeps_files : (words : List (List ℕ)) (command : Command) (mid : Seen) (log : Log) (after : Seen) (ending : Ending) → Says words command → Keeps (output_of command) mid log after ending → KeepsFiles words mid.files after.files
keeps_files words command mid log after (ending_is.Ran h) says keeps = kept_files words command (output_of command) mid log after says refl keeps
keeps_files words command mid log after (ending_is.LogFailed other h) says keeps = changed words command other mid.files after.files says keeps.0 keeps.2
keeps_files words command mid log after (ending_is.LogNotMade h) says keeps = unchanged words mid.files after.files keeps.2
keeps_files words command mid log after ending_is.BadWords says keeps = absurd keeps
keeps_files words command mid log after ending_is.NoMemory says keeps = absurd keeps
keeps_files words command mid log after ending_is.Told says keeps = absurd keeps
keeps_files words command mid log after (ending_is.NoFile other) says keeps = absurd keeps
keeps_files words command mid log after (ending_is.Found other finding) says keeps = absurd keeps
keeps_files words command mid log after (ending_is.Audited illegal) says keeps = absurd keeps
keeps_files words command mid log after (ending_is.Shown entries) says keeps = absurd keeps
keeps_files words command mid log after (ending_is.Assembled bytes) says keeps = absurd keeps
keeps_files words command mid log after (ending_is.NotWritten path) says keeps = absurd keeps
keeps_files words command mid log after (ending_is.Loaded loaded) says keeps = absurd keeps

ran_files : (words : List (List ℕ)) (command : Command) (before after : Seen) (log : Log) (h : How) (ending : Ending) → Says words command → RanFor command before after log h ending → KeepsFiles words before.files after.files
ran_files words command before after log h ending says ran =
    let r = some_run command before ran.0 log h ran.1 in
    let same : ran.0.files ≡ before.files = r.3.files.same ∙ r.3.begins.files in
    subst (λ (t : Option FileMap). KeepsFiles words t after.files) same (keeps_files words command ran.0 log after ending says ran.2)

-- whatever the words come to, no file changes but one that they name for the log
pub files_by : (Is : Known) (words : List (List ℕ)) (before after : Seen) (log : Log) (ending : Ending) → HasCause Is words before after log ending → KeepsFiles words before.files after.files
files_by Is words before after log ending_is.BadWords cause = unchanged words _ _ cause.1.files
files_by Is words before after log ending_is.NoMemory cause = unchanged words _ _ cause.files
files_by Is words before after log ending_is.Told cause = unchanged words _ _ cause.3.1.files
files_by Is words before after log (ending_is.NoFile path) cause = unchanged words _ _ cause.3.1.files
files_by Is words before after log (ending_is.Found path finding) cause = unchanged words _ _ cause.3.1.files
files_by Is words before after log (ending_is.Ran h) cause = ran_files words cause.0 before after log h (ending_is.Ran h) cause.2 cause.3
files_by Is words before after log (ending_is.LogFailed path h) cause = ran_files words cause.0 before after log h (ending_is.LogFailed path h) cause.2 cause.3
files_by Is words before after log (ending_is.LogNotMade h) cause = ran_files words cause.0 before after log h (ending_is.LogNotMade h) cause.2 cause.3
files_by Is words before after log (ending_is.Audited illegal) cause = unchanged words _ _ cause.3.1.files
files_by Is words before after log (ending_is.Shown entries) cause = unchanged words _ _ cause.3.1.files
files_by Is words before after log (ending_is.Assembled bytes) cause = let a = assembly_is cause.0 _ cause.3 in changed words cause.0 a.1 _ _ cause.2 (ap output_of a.2) a.3.1.others
files_by Is words before after log (ending_is.Loaded loaded) cause = unchanged words _ _ (ap (λ (s : Seen). s.files) cause.3.1)
files_by Is words before after log (ending_is.NotWritten path) cause = let a = assembly_is cause.0 _ cause.3 in changed words cause.0 a.1 _ _ cause.2 (ap output_of a.2) a.3.3.others

-- ## Logs that are read from files

-- what an audit comes to has its cause
audit_cause : (from old : List ℕ) (names : List (List ℕ)) (before after : Seen) (log : Log) (inspected : Inspected) → IsInspected before.files from old names before.file_faults after.file_faults inspected → NoGuest before after log
    → CauseOf (ask.Audit from old names) before after log (audit_ending_by from old inspected)
audit_cause from old names before after log (inspected.NoFile path) is none = (is, none)
audit_cause from old names before after log inspected.NoMemory is none = none
audit_cause from old names before after log (inspected.BadLog fault) is none = (stops_at_first (ask.Audit from old names) before.files from _ refl is, none)
audit_cause from old names before after log (inspected.BadModule fault) is none = (record { number = 1; named = refl; earlier = earlier; stops = is.1 }, none)
  where
    earlier : (n : ℕ) (other : List ℕ) → n < 1 → slice_get (audit_files from old names) n ≡ Some other → FileIs before.files other (AuditGoes before.files from n)
    earlier zero other less named = subst (λ (p : List ℕ). FileIs before.files p HasSomeLog) (same_text from other named) is.0
    earlier (suc n) other less named = absurd (omega arith)
audit_cause from old names before after log inspected.Legal is none = (is, none)
audit_cause from old names before after log (inspected.Illegal entry) is none = (is, none)

pub audit_comes : (command : Command) (from old : List ℕ) (names : List (List ℕ)) (before after : Seen) (log : Log) (inspected : Inspected) (ending : Ending) (faults : ℕ) → command ≡ ask.Audit from old names → ending ≡ audit_ending_by from old inspected → after.file_faults ≡ faults
    → IsInspected before.files from old names before.file_faults faults inspected → NoGuest before after log → CauseOf command before after log ending
audit_comes command from old names before after log inspected ending faults is ending_is now found none =
    let there : IsInspected before.files from old names before.file_faults after.file_faults inspected = subst (λ (n : ℕ). IsInspected before.files from old names before.file_faults n inspected) (sym now) found in
    let caused : CauseOf (ask.Audit from old names) before after log ending = subst (λ (e : Ending). CauseOf (ask.Audit from old names) before after log e) (sym ending_is) (audit_cause from old names before after log inspected there none) in
    subst (λ (x : Command). CauseOf x before after log ending) (sym is) caused

-- what a log that is to be shown comes to has its cause
show_cause : (from : List ℕ) (before after : Seen) (log : Log) (listed : Listed) → IsListed before.files from before.file_faults after.file_faults listed → NoGuest before after log → CauseOf (ask.Show from) before after log (show_ending_by from listed)
show_cause from before after log listed.NoFile is none = (stops_at_first (ask.Show from) before.files from _ refl is, none)
show_cause from before after log listed.NoMemory is none = none
show_cause from before after log (listed.Refused fault) is none = (stops_at_first (ask.Show from) before.files from _ refl is, none)
show_cause from before after log (listed.Log args entries) is none = ((is.0, is.1, (args, is.2)), none)

pub show_comes : (command : Command) (from : List ℕ) (before after : Seen) (log : Log) (listed : Listed) (ending : Ending) (faults : ℕ) → command ≡ ask.Show from → ending ≡ show_ending_by from listed → after.file_faults ≡ faults
    → IsListed before.files from before.file_faults faults listed → NoGuest before after log → CauseOf command before after log ending
show_comes command from before after log listed ending faults is ending_is now found none =
    let there : IsListed before.files from before.file_faults after.file_faults listed = subst (λ (n : ℕ). IsListed before.files from before.file_faults n listed) (sym now) found in
    let caused : CauseOf (ask.Show from) before after log ending = subst (λ (e : Ending). CauseOf (ask.Show from) before after log e) (sym ending_is) (show_cause from before after log listed there none) in
    subst (λ (x : Command). CauseOf x before after log ending) (sym is) caused
