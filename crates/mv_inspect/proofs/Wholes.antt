-- More is read of a file than it may have, so what was read is the whole file, or is too long as the file is.
use Rattle.std.proofs.Common.{◌≡◌, ℕ, ◌≤◌, ◌<◌, ◌^◌, Bool, true, false, ltb, List, take, length, Option, Some, Result, Ok, Err, refl, sym, ap, ◌∙◌, arith}
use Rattle.std.proofs.lemmas.List.{take_all, length-take}
use Rattle.std.proofs.lemmas.Bool.{ltb-true, ltb-false, lt-ltb}
use Rattle.mv_syntax.specs.declared.fault.ReadFault.{ReadFault}
use Rattle.mv_syntax.specs.declared.fault.ReadKind.TheVariants.{Limit}
use Rattle.mv_syntax.specs.declared.fault.BornFault.TheVariants as born
use Rattle.mv_syntax.specs.Sections.{Parts}
use Rattle.mv_syntax.specs.Modules.{module_at}
use Rattle.mv_history.specs.declared.log.Entry.{Entry}
use Rattle.mv_outside.specs.Files.{FileMap}
use Rattle.mv_record.specs.File.{log_of}
use Rattle.mv_record.specs.declared.fault.RecordFault.{RecordFault}
use Rattle.mv_record.specs.declared.fault.RecordKind.TheVariants as record_kind
use Rattle.mv_transform.specs.Births.{started, started_from, with_module}
use Rattle.mv_start.specs.Instances.{started_instance}
use Rattle.mv_guest.specs.Standing.{Standing}
use Rattle.mv_inspect.specs.Told.{FileIs, StandsAt}
use Rattle.mv_inspect.specs.Logs.{IsListed}
use Rattle.mv_inspect.specs.Steps.{IsListedOf, IsBegun, IsBegunOf}
use Rattle.mv_inspect.specs.declared.listing.Listed.{Listed}
use Rattle.mv_inspect.specs.declared.listing.Listed.TheVariants as listed
use Rattle.mv_inspect.specs.declared.auditing.Begun.{Begun}
use Rattle.mv_inspect.specs.declared.auditing.Begun.TheVariants as start

-- ## Logs

log_too_long : (text : List ℕ) → 536870912 < length text → log_of text ≡ Err (record { place = 0; kind = record_kind.Limit })
log_too_long text long = rw (lt-ltb _ _ long) refl

log_by : (long : Bool) (text all : List ℕ) → ltb 536870913 (length all) ≡ long → text ≡ take 536870913 all → log_of text ≡ log_of all
log_by false text all few read =
    let short : length all ≤ 536870913 = ltb-false _ _ few in
    ap log_of (read ∙ take_all 536870913 all short)
log_by true text all many read =
    let long : 536870913 < length all = ltb-true _ _ many in
    let cut : length text ≡ 536870913 = omega (arith, ap length read, length-take 536870913 all) in
    log_too_long text (omega arith) ∙ sym (log_too_long all (omega arith))

-- what was read is the log that the file is, or has its fault
same_log : (text all : List ℕ) → text ≡ take 536870913 all → log_of text ≡ log_of all
same_log text all read = log_by (ltb 536870913 (length all)) text all refl read

log_not : (r : Result (List (List ℕ) × List Entry) RecordFault) (fault : RecordFault) (log : List (List ℕ) × List Entry) → r ≡ Err fault → r ≡ Ok log → ⊥
log_not r fault log e f = cc

whole_log_by : (long : Bool) (read all : List ℕ) (log : List (List ℕ) × List Entry) → ltb 536870913 (length all) ≡ long → read ≡ take 536870913 all → log_of read ≡ Ok log → read ≡ all
whole_log_by false read all log few is ok =
    let short : length all ≤ 536870913 = ltb-false _ _ few in
    is ∙ take_all 536870913 all short
whole_log_by true read all log many is ok =
    let long : 536870913 < length all = ltb-true _ _ many in
    absurd (log_not (log_of read) _ log (same_log read all is ∙ log_too_long all (omega arith)) ok)

-- the whole file, where it is that of a log
whole_log : (read all : List ℕ) (log : List (List ℕ) × List Entry) → read ≡ take 536870913 all → log_of read ≡ Ok log → read ≡ all
whole_log read all log is ok = whole_log_by (ltb 536870913 (length all)) read all log refl is ok

-- ## Modules

module_too_long : (file : List ℕ) → 2 ^ 24 < length file → module_at file ≡ Err (record { place = 0; kind = Limit })
unfolding module_at
module_too_long file long = rw (lt-ltb _ _ long) refl

module_by : (long : Bool) (text all : List ℕ) → ltb 16777217 (length all) ≡ long → text ≡ take 16777217 all → module_at text ≡ module_at all
module_by false text all few read =
    let short : length all ≤ 16777217 = ltb-false _ _ few in
    ap module_at (read ∙ take_all 16777217 all short)
module_by true text all many read =
    let long : 16777217 < length all = ltb-true _ _ many in
    let cut : length text ≡ 16777217 = omega (arith, ap length read, length-take 16777217 all) in
    module_too_long text (omega arith) ∙ sym (module_too_long all (omega arith))

same_module : (text all : List ℕ) → text ≡ take 16777217 all → module_at text ≡ module_at all
same_module text all read = module_by (ltb 16777217 (length all)) text all refl read

same_start : (text all : List ℕ) (args : List (List ℕ)) → text ≡ take 16777217 all → started text args ≡ started all args
same_start text all args read = ap (λ (r : Result Parts ReadFault). with_module r (λ p. started_from p args (started_instance p))) (same_module text all read)

starts_by : (r : Result Parts ReadFault) (fault : ReadFault) (args : List (List ℕ)) (s : Standing) → r ≡ Err fault → with_module r (λ p. started_from p args (started_instance p)) ≡ Ok s → ⊥
starts_by r fault args s e is = let bad : Err (born.Read fault) ≡ Ok s = rw e at is in absurd cc

whole_start_by : (long : Bool) (read all : List ℕ) (args : List (List ℕ)) (s : Standing) → ltb 16777217 (length all) ≡ long → read ≡ take 16777217 all → started read args ≡ Ok s → read ≡ all
whole_start_by false read all args s few is ok =
    let short : length all ≤ 16777217 = ltb-false _ _ few in
    is ∙ take_all 16777217 all short
whole_start_by true read all args s many is ok =
    let long : 16777217 < length all = ltb-true _ _ many in
    absurd (starts_by (module_at read) _ args s (same_module read all is ∙ module_too_long all (omega arith)) ok)

-- the whole file, where a guest starts of it
whole_start : (read all : List ℕ) (args : List (List ℕ)) (s : Standing) → read ≡ take 16777217 all → started read args ≡ Ok s → read ≡ all
whole_start read all args s is ok = whole_start_by (ltb 16777217 (length all)) read all args s refl is ok

-- ## What was read is the front of the file of a path, as far as it is told

abbrev pub IsFront : ℕ → Option FileMap → List ℕ → List ℕ → Type 0
IsFront most told path read = (files : FileMap) → told ≡ Some files → (all : List ℕ) × (files path ≡ Some all) × (read ≡ take most all)

-- what is said of the text that was read is said of the file
by_front : (most : ℕ) (told : Option FileMap) (path read : List ℕ) (P : List ℕ → Type 0) → IsFront most told path read → ((all : List ℕ) → read ≡ take most all → P all) → FileIs told path P
by_front most told path read P front says files e = let all = front files e in (all.0, all.1, says all.0 all.2)

-- the file stands as it was read, where what was read is the whole of it
stands_by : (most : ℕ) (told : Option FileMap) (path read : List ℕ) → IsFront most told path read → ((all : List ℕ) → read ≡ take most all → read ≡ all) → StandsAt told path read
stands_by most told path read front whole files e = let all = front files e in all.1 ∙ ap Some (sym (whole all.0 all.2))

pub log_is : (told : Option FileMap) (path : List ℕ) (faults faults_now : ℕ) (read : List ℕ) (found : Listed) → IsFront 536870913 told path read → IsListedOf read found → IsListed told path faults faults_now found
log_is told path faults faults_now read listed.NoFile front is = absurd is
log_is told path faults faults_now read listed.NoMemory front is = tt
log_is told path faults faults_now read (listed.Refused fault) front is = by_front 536870913 told path read _ front (λ all e. sym (same_log read all e) ∙ is)
log_is told path faults faults_now read (listed.Log args entries) front is = (read, stands_by 536870913 told path read front (λ all e. whole_log read all _ e is), is)

pub start_is : (told : Option FileMap) (path : List ℕ) (args : List (List ℕ)) (faults faults_now : ℕ) (read : List ℕ) (found : Begun) → IsFront 16777217 told path read → IsBegunOf read args found → IsBegun told path args faults faults_now found
start_is told path args faults faults_now read start.NoFile front is = absurd is
start_is told path args faults faults_now read start.NoMemory front is = tt
start_is told path args faults faults_now read (start.Refused fault) front is = by_front 16777217 told path read _ front (λ all e. sym (same_start read all args e) ∙ is)
start_is told path args faults faults_now read (start.Starts guest) front is = (read, stands_by 16777217 told path read front (λ all e. whole_start read all args _ e is), is)
