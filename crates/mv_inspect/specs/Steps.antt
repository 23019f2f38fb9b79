-- For private clauses: what the files of an audit are found to be, one after the other.
use Rattle.std.specs.Prelude.{◌≡◌, ◌⊎◌, ℕ, List, Option, Some, None, Ok, Err}
use Rattle.mv_outside.specs.Causes.{Rose}
use Rattle.mv_outside.specs.Files.{FileMap}
use Rattle.mv_history.specs.World.{begun}
use Rattle.mv_history.specs.declared.log.Entry.{Entry}
use Rattle.mv_history.specs.declared.updates.Update.{Update}
use Rattle.mv_guest.specs.Standing.{Standing}
use Rattle.mv_record.specs.File.{log_of}
use Rattle.mv_transform.specs.Births.{behaviour, started}
use Rattle.mv_inspect.specs.Told.{IsMissing, StandsAt, FileIs, StopsAmong}
use Rattle.mv_inspect.specs.Logs.{HasLog}
use Rattle.mv_inspect.specs.Audits.{IsAuditAnswer}
use Rattle.mv_inspect.specs.declared.listing.Listed.{Listed}
use Rattle.mv_inspect.specs.declared.listing.Listed.TheVariants as listed
use Rattle.mv_inspect.specs.declared.naming.Unread.{Unread}
use Rattle.mv_inspect.specs.declared.naming.Unread.TheVariants as unread
use Rattle.mv_inspect.specs.declared.auditing.Begun.{Begun}
use Rattle.mv_inspect.specs.declared.auditing.Begun.TheVariants as start
use Rattle.mv_inspect.specs.declared.auditing.Inspected.{Inspected}
use Rattle.mv_inspect.specs.declared.auditing.Inspected.TheVariants as inspected

-- what a text that was read is found to be
abbrev pub IsListedOf : List ℕ → Listed → Type 0
IsListedOf text listed.NoFile = ⊥
IsListedOf text listed.NoMemory = Unit {0}
IsListedOf text (listed.Refused fault) = log_of text ≡ Err fault
IsListedOf text (listed.Log args entries) = HasLog text args entries.list

-- a file that is read, and not judged
abbrev pub IsAnyText : ℕ → List ℕ → Type 0
IsAnyText n text = Unit {0}

-- one of these files isn't read, and those before it are there
abbrev pub IsUnread : Option FileMap → List (List ℕ) → ℕ → ℕ → Unread → Type 0
IsUnread told paths faults faults_now (unread.NoFile path) = StopsAmong paths IsAnyText told path (λ n. IsMissing told path ⊎ Rose faults faults_now)
IsUnread told paths faults faults_now unread.NoMemory = Unit {0}

-- the file of this path isn't read, or there was no memory to say so
abbrev pub IsNoFile : List ℕ → Unread → Type 0
IsNoFile path (unread.NoFile named) = named ≡ path
IsNoFile path unread.NoMemory = Unit {0}

-- what is answered where the files aren't all read
abbrev pub answer_to : Unread → Inspected
answer_to (unread.NoFile path) = inspected.NoFile path
answer_to unread.NoMemory = inspected.NoMemory

-- the module of this path starts a guest with these arguments, which stands so
abbrev pub HasGuest : Option FileMap → List ℕ → List (List ℕ) → Standing → Type 0
HasGuest told path args s = (bytes : List ℕ) × StandsAt told path bytes × (started bytes args ≡ Ok s)

-- what the module of this path is found to be
abbrev pub IsBegun : Option FileMap → List ℕ → List (List ℕ) → ℕ → ℕ → Begun → Type 0
IsBegun told path args faults faults_now start.NoFile = IsMissing told path ⊎ Rose faults faults_now
IsBegun told path args faults faults_now start.NoMemory = Unit {0}
IsBegun told path args faults faults_now (start.Refused fault) = FileIs told path (λ text. started text args ≡ Err fault)
IsBegun told path args faults faults_now (start.Starts guest) = HasGuest told path args (behaviour.state guest)

abbrev pub IsBegunOf : List ℕ → List (List ℕ) → Begun → Type 0
IsBegunOf text args start.NoFile = ⊥
IsBegunOf text args start.NoMemory = Unit {0}
IsBegunOf text args (start.Refused fault) = started text args ≡ Err fault
IsBegunOf text args (start.Starts guest) = started text args ≡ Ok (behaviour.state guest)

-- what is found of the entries of a run that began so
abbrev pub IsAuditOf : List Update → Standing → List Entry → Inspected → Type 0
IsAuditOf updates first entries inspected.Legal = IsAuditAnswer updates (begun first) entries None
IsAuditOf updates first entries (inspected.Illegal entry) = IsAuditAnswer updates (begun first) entries (Some entry)
IsAuditOf updates first entries inspected.NoMemory = Unit {0}
IsAuditOf updates first entries (inspected.NoFile path) = ⊥
IsAuditOf updates first entries (inspected.BadLog fault) = ⊥
IsAuditOf updates first entries (inspected.BadModule fault) = ⊥
