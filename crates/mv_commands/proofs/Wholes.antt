-- More is read of a file than it may have, so what was read is the whole file, or is too long as the file is.
use Rattle.std.proofs.Common.{◌≡◌, ℕ, ◌≤◌, ◌<◌, ◌^◌, Bool, true, false, ltb, List, take, length, Option, Some, Result, Ok, Err, refl, sym, ap, ap₂, ◌∙◌, subst, arith, inl, inr}
use Rattle.std.proofs.lemmas.List.{take_all, length-take}
use Rattle.std.proofs.lemmas.Bool.{ltb-true, ltb-false, lt-ltb}
use Rattle.mv_syntax.specs.declared.fault.ReadFault.{ReadFault}
use Rattle.mv_syntax.specs.declared.fault.ReadKind.TheVariants.{Limit}
use Rattle.mv_syntax.specs.declared.fault.BornFault.TheVariants as born
use Rattle.mv_syntax.specs.Sections.{Parts}
use Rattle.mv_syntax.specs.Modules.{Spells, module_at}
use Rattle.mv_rules.specs.declared.fault.RuleKind.TheVariants as rule_kind
use Rattle.mv_rules.specs.RulesText.{rules_in}
use Rattle.mv_outside.specs.Files.{FileMap}
use Rattle.mv_transform.specs.Births.{behaviour, started, started_from, with_module}
use Rattle.mv_start.specs.Instances.{started_instance}
use Rattle.mv_guest.specs.Standing.{Standing}
use Rattle.mv_rehearse.specs.declared.beats.Beat.{Beat}
use Rattle.mv_commands.specs.Named.{IsInvalid, IsValidFile, SaysOfModule, SaysOfRules}
use Rattle.mv_inspect.specs.Told.{FileIs, StandsAt}
use Rattle.mv_statements.specs.declared.fault.TextFault.{TextFault}
use Rattle.mv_statements.specs.declared.fault.TextKind.TheVariants.{Size}
use Rattle.mv_text.specs.Assembly.{assembled}
use Rattle.mv_commands.specs.Named.{IsNoText}
use Rattle.mv_commands.specs.Loading.{IsMade, IsMadeOf}
use Rattle.mv_commands.specs.declared.assembling.Made.{Made}
use Rattle.mv_commands.specs.declared.assembling.Made.TheVariants as made
use Rattle.mv_commands.specs.Loading.{IsJudged, IsJudgedOf, IsLoaded, IsStarted, IsPlanned, IsPlannedOf}
use Rattle.mv_schedule.specs.Schedules.{schedule_of}
use Rattle.mv_commands.specs.declared.ending.Finding.{Finding}
use Rattle.mv_commands.specs.declared.ending.Finding.TheVariants.{Refused, Valid, BadRules, Rules, BadSchedule, BadLog, BadText}
use Rattle.mv_schedule.specs.declared.fault.ScheduleFault.{ScheduleFault}
use Rattle.mv_schedule.specs.declared.fault.ScheduleFault.TheVariants as schedule_fault
use Rattle.mv_commands.specs.declared.judging.Judged.{Judged}
use Rattle.mv_commands.specs.declared.judging.Judged.TheVariants as judged
use Rattle.mv_commands.specs.declared.loading.Loaded.{Loaded}
use Rattle.mv_commands.specs.declared.loading.Loaded.TheVariants as loaded
use Rattle.mv_commands.specs.declared.loading.Planned.{Planned}
use Rattle.mv_commands.specs.declared.loading.Planned.TheVariants as planned

-- ## Modules

module_too_long : (file : List ℕ) → 2 ^ 24 < length file → module_at file ≡ Err (record { place = 0; kind = Limit })
unfolding module_at
module_too_long file long = rw (lt-ltb _ _ long) refl

module_by : (long : Bool) (text all : List ℕ) → ltb 16777217 (length all) ≡ long → text ≡ take 16777217 all → module_at text ≡ module_at all
module_by false text all few read =
    let short : length all ≤ 16777217 = ltb-false _ _ few in
    ap module_at (read ∙ take_all 16777217 all short)
module_by true text all many read =
    let long : 16777217 < length all = ltb-true _ _ many in
    let cut : length text ≡ 16777217 = omega (arith, ap length read, length-take 16777217 all) in
    module_too_long text (omega arith) ∙ sym (module_too_long all (omega arith))

-- what was read spells the module that the file spells, or has its fault
pub same_module : (text all : List ℕ) → text ≡ take 16777217 all → module_at text ≡ module_at all
same_module text all read = module_by (ltb 16777217 (length all)) text all refl read

pub same_start : (text all : List ℕ) (args : List (List ℕ)) → text ≡ take 16777217 all → started text args ≡ started all args
same_start text all args read = ap (λ (r : Result Parts ReadFault). with_module r (λ p. started_from p args (started_instance p))) (same_module text all read)

-- the whole file, where it isn't too long
spelled_whole : (text all : List ℕ) (parts : Parts) → text ≡ take 16777217 all → Spells text parts → text ≡ all
spelled_whole text all parts read is =
    let few : length all ≤ 16777217 = omega (arith, is.small, ap length read, length-take 16777217 all) in
    read ∙ take_all 16777217 all few

module_says : (text all : List ℕ) (finding : Finding) → text ≡ take 16777217 all → SaysOfModule text finding → SaysOfModule all finding
module_says text all (Refused (born.Read fault)) read is = sym (same_module text all read) ∙ is
module_says text all (Refused (born.Valid fault)) read is = subst (λ (t : List ℕ). IsInvalid t fault) (spelled_whole text all is.parts read is.spelled) is
module_says text all (Refused (born.Start fault)) read is = absurd is
module_says text all (Refused born.NoTransform) read is = absurd is
module_says text all (Refused born.NoResume) read is = absurd is
module_says text all (Refused (born.Transform trap)) read is = absurd is
module_says text all (Refused (born.Code code)) read is = absurd is
module_says text all Valid read is = subst IsValidFile (spelled_whole text all is.parts read is.spelled) is
module_says text all (BadRules fault) read is = absurd is
module_says text all (Rules count) read is = absurd is
module_says text all (BadSchedule fault) read is = absurd is
module_says text all (BadLog fault) read is = absurd is
module_says text all (BadText fault) read is = absurd is

-- ## Rules

rules_too_long : (text : List ℕ) → 65536 < length text → rules_in text ≡ Err (record { line = 1; kind = rule_kind.Size })
rules_too_long text long = rw (lt-ltb _ _ long) refl

rules_by : (long : Bool) (text all : List ℕ) → ltb 65537 (length all) ≡ long → text ≡ take 65537 all → rules_in text ≡ rules_in all
rules_by false text all few read =
    let short : length all ≤ 65537 = ltb-false _ _ few in
    ap rules_in (read ∙ take_all 65537 all short)
rules_by true text all many read =
    let long : 65537 < length all = ltb-true _ _ many in
    let cut : length text ≡ 65537 = omega (arith, ap length read, length-take 65537 all) in
    rules_too_long text (omega arith) ∙ sym (rules_too_long all (omega arith))

same_rules : (text all : List ℕ) → text ≡ take 65537 all → rules_in text ≡ rules_in all
same_rules text all read = rules_by (ltb 65537 (length all)) text all refl read

rules_say : (text all : List ℕ) (finding : Finding) → rules_in text ≡ rules_in all → SaysOfRules text finding → SaysOfRules all finding
rules_say text all (BadRules fault) same (inl is) = inl (sym same ∙ is)
rules_say text all (BadRules fault) same (inr is) = inr (is.0, sym same ∙ is.1, is.2)
rules_say text all (Rules count) same is = (is.0, sym same ∙ is.1, is.2, is.3)
rules_say text all (Refused fault) same is = absurd is
rules_say text all Valid same is = absurd is
rules_say text all (BadSchedule fault) same is = absurd is
rules_say text all (BadLog fault) same is = absurd is
rules_say text all (BadText fault) same is = absurd is

-- ## Schedules

schedule_too_long : (text : List ℕ) → 2 ^ 24 < length text → schedule_of text ≡ Err schedule_fault.Limit
schedule_too_long text long = rw (lt-ltb _ _ long) refl

schedule_by_length : (long : Bool) (text all : List ℕ) → ltb 16777217 (length all) ≡ long → text ≡ take 16777217 all → schedule_of text ≡ schedule_of all
schedule_by_length false text all few read =
    let short : length all ≤ 16777217 = ltb-false _ _ few in
    ap schedule_of (read ∙ take_all 16777217 all short)
schedule_by_length true text all many read =
    let long : 16777217 < length all = ltb-true _ _ many in
    let cut : length text ≡ 16777217 = omega (arith, ap length read, length-take 16777217 all) in
    schedule_too_long text (omega arith) ∙ sym (schedule_too_long all (omega arith))

pub same_schedule : (text all : List ℕ) → text ≡ take 16777217 all → schedule_of text ≡ schedule_of all
same_schedule text all read = schedule_by_length (ltb 16777217 (length all)) text all refl read

-- ## Assembler texts

text_too_long : (text : List ℕ) → 2 ^ 24 < length text → assembled text ≡ Err (record { line = 1; kind = Size })
text_too_long text long = rw (lt-ltb _ _ long) refl

text_by_length : (long : Bool) (text all : List ℕ) → ltb 16777217 (length all) ≡ long → text ≡ take 16777217 all → assembled text ≡ assembled all
text_by_length false text all few read =
    let short : length all ≤ 16777217 = ltb-false _ _ few in
    ap assembled (read ∙ take_all 16777217 all short)
text_by_length true text all many read =
    let long : 16777217 < length all = ltb-true _ _ many in
    let cut : length text ≡ 16777217 = omega (arith, ap length read, length-take 16777217 all) in
    text_too_long text (omega arith) ∙ sym (text_too_long all (omega arith))

same_assembly : (text all : List ℕ) → text ≡ take 16777217 all → assembled text ≡ assembled all
same_assembly text all read = text_by_length (ltb 16777217 (length all)) text all refl read

text_says : (text all : List ℕ) (finding : Finding) → assembled text ≡ assembled all → IsNoText text finding → IsNoText all finding
text_says text all (BadText fault) same is = sym same ∙ is
text_says text all (Refused (born.Valid fault)) same is = (is.0, sym same ∙ is.1, is.2)
text_says text all (Refused (born.Read fault)) same is = absurd is
text_says text all (Refused (born.Start fault)) same is = absurd is
text_says text all (Refused born.NoTransform) same is = absurd is
text_says text all (Refused born.NoResume) same is = absurd is
text_says text all (Refused (born.Transform trap)) same is = absurd is
text_says text all (Refused (born.Code code)) same is = absurd is
text_says text all Valid same is = absurd is
text_says text all (BadRules fault) same is = absurd is
text_says text all (Rules count) same is = absurd is
text_says text all (BadSchedule fault) same is = absurd is
text_says text all (BadLog fault) same is = absurd is

text_not : (r : Result Parts TextFault) (fault : TextFault) (parts : Parts) → r ≡ Err fault → r ≡ Ok parts → ⊥
text_not r fault parts e f = cc

whole_text_by : (long : Bool) (read all : List ℕ) (parts : Parts) → ltb 16777217 (length all) ≡ long → read ≡ take 16777217 all → assembled read ≡ Ok parts → read ≡ all
whole_text_by false read all parts few is ok =
    let short : length all ≤ 16777217 = ltb-false _ _ few in
    is ∙ take_all 16777217 all short
whole_text_by true read all parts many is ok =
    let long : 16777217 < length all = ltb-true _ _ many in
    absurd (text_not (assembled read) _ parts (same_assembly read all is ∙ text_too_long all (omega arith)) ok)

-- the whole file, where it is an assembler text
whole_text : (read all : List ℕ) (parts : Parts) → read ≡ take 16777217 all → assembled read ≡ Ok parts → read ≡ all
whole_text read all parts is ok = whole_text_by (ltb 16777217 (length all)) read all parts refl is ok

-- ## What was read is the front of the file of a path, as far as it is told

abbrev pub IsFront : ℕ → Option FileMap → List ℕ → List ℕ → Type 0
IsFront most told path read = (files : FileMap) → told ≡ Some files → (all : List ℕ) × (files path ≡ Some all) × (read ≡ take most all)

-- what is said of the text that was read is said of the file
by_front : (most : ℕ) (told : Option FileMap) (path read : List ℕ) (P : List ℕ → Type 0) → IsFront most told path read → ((all : List ℕ) → read ≡ take most all → P all) → FileIs told path P
by_front most told path read P front says files e = let all = front files e in (all.0, all.1, says all.0 all.2)

pub module_judged : (told : Option FileMap) (path : List ℕ) (faults faults_now : ℕ) (read : List ℕ) (found : Judged) → IsFront 16777217 told path read → IsJudgedOf SaysOfModule read found → IsJudged SaysOfModule told path faults faults_now found
module_judged told path faults faults_now read judged.NoFile front is = absurd is
module_judged told path faults faults_now read judged.NoMemory front is = tt
module_judged told path faults faults_now read (judged.Found finding) front is = by_front 16777217 told path read _ front (λ all e. module_says read all finding e is)

pub rules_judged : (told : Option FileMap) (path : List ℕ) (faults faults_now : ℕ) (read : List ℕ) (found : Judged) → IsFront 65537 told path read → IsJudgedOf SaysOfRules read found → IsJudged SaysOfRules told path faults faults_now found
rules_judged told path faults faults_now read judged.NoFile front is = absurd is
rules_judged told path faults faults_now read judged.NoMemory front is = tt
rules_judged told path faults faults_now read (judged.Found finding) front is = by_front 65537 told path read _ front (λ all e. rules_say read all finding (same_rules read all e) is)

starts_by : (r : Result Parts ReadFault) (fault : ReadFault) (args : List (List ℕ)) (s : Standing) → r ≡ Err fault → with_module r (λ p. started_from p args (started_instance p)) ≡ Ok s → ⊥
starts_by r fault args s e is = let bad : Err (born.Read fault) ≡ Ok s = rw e at is in absurd cc

-- the whole file, where a guest starts of it
whole_start_by : (long : Bool) (read all : List ℕ) (args : List (List ℕ)) (s : Standing) → ltb 16777217 (length all) ≡ long → read ≡ take 16777217 all → started read args ≡ Ok s → read ≡ all
whole_start_by false read all args s few is ok =
    let short : length all ≤ 16777217 = ltb-false _ _ few in
    is ∙ take_all 16777217 all short
whole_start_by true read all args s many is ok =
    let long : 16777217 < length all = ltb-true _ _ many in
    absurd (starts_by (module_at read) _ args s (same_module read all is ∙ module_too_long all (omega arith)) ok)

pub whole_start : (read all : List ℕ) (args : List (List ℕ)) (s : Standing) → read ≡ take 16777217 all → started read args ≡ Ok s → read ≡ all
whole_start read all args s is ok = whole_start_by (ltb 16777217 (length all)) read all args s refl is ok

schedule_not : (r : Result (List Beat) ScheduleFault) (fault : ScheduleFault) (beats : List Beat) → r ≡ Err fault → r ≡ Ok beats → ⊥
schedule_not r fault beats e f = cc

whole_schedule_by : (long : Bool) (read all : List ℕ) (beats : List Beat) → ltb 16777217 (length all) ≡ long → read ≡ take 16777217 all → schedule_of read ≡ Ok beats → read ≡ all
whole_schedule_by false read all beats few is ok =
    let short : length all ≤ 16777217 = ltb-false _ _ few in
    is ∙ take_all 16777217 all short
whole_schedule_by true read all beats many is ok =
    let long : 16777217 < length all = ltb-true _ _ many in
    absurd (schedule_not (schedule_of read) _ beats (same_schedule read all is ∙ schedule_too_long all (omega arith)) ok)

-- the whole file, where it is a schedule
whole_schedule : (read all : List ℕ) (beats : List Beat) → read ≡ take 16777217 all → schedule_of read ≡ Ok beats → read ≡ all
whole_schedule read all beats is ok = whole_schedule_by (ltb 16777217 (length all)) read all beats refl is ok

-- the file stands as it was read, where what was read is the whole of it
stands_by : (most : ℕ) (told : Option FileMap) (path read : List ℕ) → IsFront most told path read → ((all : List ℕ) → read ≡ take most all → read ≡ all) → StandsAt told path read
stands_by most told path read front whole files e = let all = front files e in all.1 ∙ ap Some (sym (whole all.0 all.2))

pub loaded_is : (told : Option FileMap) (path : List ℕ) (args : List (List ℕ)) (faults faults_now : ℕ) (read : List ℕ) (found : Loaded) → IsFront 16777217 told path read → IsStarted read args found → IsLoaded told path args faults faults_now found
loaded_is told path args faults faults_now read loaded.NoFile front is = absurd is
loaded_is told path args faults faults_now read loaded.NoMemory front is = tt
loaded_is told path args faults faults_now read (loaded.Refused fault) front is = by_front 16777217 told path read _ front (λ all e. sym (same_start read all args e) ∙ is)
loaded_is told path args faults faults_now read (loaded.Starts guest log) front is =
    let starts : started read args ≡ Ok (behaviour.state guest) = ap₂ started (sym is.2) (sym is.1) ∙ is.0.starts in
    (is.0, is.1, subst (λ (t : List ℕ). StandsAt told path t) (sym is.2) (stands_by 16777217 told path read front (λ all e. whole_start read all args _ e starts)))

pub planned_is : (told : Option FileMap) (path : List ℕ) (faults faults_now : ℕ) (read : List ℕ) (found : Planned) → IsFront 16777217 told path read → IsPlannedOf read found → IsPlanned told path faults faults_now found
planned_is told path faults faults_now read planned.NoFile front is = absurd is
planned_is told path faults faults_now read planned.NoMemory front is = tt
planned_is told path faults faults_now read (planned.Refused fault) front is = by_front 16777217 told path read _ front (λ all e. sym (same_schedule read all e) ∙ is)
planned_is told path faults faults_now read (planned.Beats beats) front is = (read, stands_by 16777217 told path read front (λ all e. whole_schedule read all beats.items e is), is)

pub made_is : (told : Option FileMap) (path : List ℕ) (faults faults_now : ℕ) (read : List ℕ) (found : Made) → IsFront 16777217 told path read → IsMadeOf read found → IsMade told path faults faults_now found
made_is told path faults faults_now read made.NoFile front is = absurd is
made_is told path faults faults_now read made.NoMemory front is = tt
made_is told path faults faults_now read (made.Refused finding) front is = by_front 16777217 told path read _ front (λ all e. text_says read all finding (same_assembly read all e) is)
made_is told path faults faults_now read (made.Module file) front is = (read, stands_by 16777217 told path read front (λ all e. whole_text read all is.parts e is.is), is)
