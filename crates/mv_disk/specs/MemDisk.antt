-- A disk in memory: what stands in it, what a crash may leave of it, and what each call leaves.
use Rattle.std.specs.Prelude.{◌≡◌, ℕ, ◌/◌, ◌≤◌, Bool, if◌then◌else◌, List, [], ◌∷◌, ◌++◌, take, length, Option, Some, Result, Ok, Err}
use Rattle.mv_calls.specs.declared.fault.Or.{Or}
use Rattle.mv_calls.specs.declared.fault.Or.TheVariants.{Fault, OutOfMemory}
use Rattle.mv_outside.specs.Counts.{one_more, is_named}
use Rattle.mv_outside.specs.declared.fault.Failed.{Failed}
use Rattle.mv_disk.specs.Disk.{Torn, with_bytes}
use Rattle.mv_disk.specs.declared.mem_disk.Step.{Step}
use Rattle.mv_disk.specs.declared.mem_disk.Step.TheVariants as step

-- what a disk in memory holds
pub record DiskState : Type 0 where
  -- what it was made with, all of it on the disk
  pub first : List ℕ
  -- the writes and syncs that were done since, oldest first
  pub steps : List Step
  -- how many calls there were of each
  pub lens : ℕ
  pub reads : ℕ
  pub writes : ℕ
  pub syncs : ℕ
  -- the numbers of the calls that are to fail
  pub fail_len : List ℕ
  pub fail_read : List ℕ
  pub fail_write : List ℕ
  pub fail_sync : List ℕ
  -- how often a call has failed
  pub faults : ℕ

-- what is read after these steps: a write puts at its place as many of its bytes as were done
abbrev pub content_after : List ℕ → List Step → List ℕ
content_after content [] = content
content_after content (step.Write at bytes done ∷ steps) = content_after (with_bytes content at (take done bytes)) steps
content_after content (step.Sync ∷ steps) = content_after content steps

-- What a crash may leave after these steps, where before them it may leave these outcomes: each write may be done in part, in
-- its whole range; a sync makes what is read last.
abbrev pub OutcomesAfter : List ℕ → (List ℕ → Type 0) → List Step → List ℕ → Type 0
OutcomesAfter content outcomes [] c = outcomes c
OutcomesAfter content outcomes (step.Write at bytes done ∷ steps) c =
    OutcomesAfter (with_bytes content at (take done bytes)) (λ d. (before : List ℕ) × outcomes before × Torn at (length bytes) before d) steps c
OutcomesAfter content outcomes (step.Sync ∷ steps) c = OutcomesAfter content (λ d. d ≡ content) steps c

-- and of a disk that began with this content
abbrev pub MayLeave : List ℕ → List Step → List ℕ → Type 0
MayLeave first steps c = OutcomesAfter first (λ d. d ≡ first) steps c

abbrev pub content_of : DiskState → List ℕ
content_of d = content_after d.first d.steps

-- what it tells: what it reads, what a crash now may leave, how many steps there were, and what a crash since may have left
abbrev pub reads_of : DiskState → Option (List ℕ)
reads_of d = Some (content_of d)

abbrev pub LeavesNow : DiskState → List ℕ → Type 0
LeavesNow d c = MayLeave d.first d.steps c

abbrev pub moment_of : DiskState → ℕ
moment_of d = length d.steps

abbrev pub LeftSince : DiskState → ℕ → List ℕ → Type 0
LeftSince d t c = (k : ℕ) × (t ≤ k) × (k ≤ length d.steps) × MayLeave d.first (take k d.steps) c

-- the next call of each fails: its number is in the list
abbrev pub len_fails : DiskState → Bool
len_fails d = is_named d.fail_len d.lens

abbrev pub read_fails : DiskState → Bool
read_fails d = is_named d.fail_read d.reads

abbrev pub write_fails : DiskState → Bool
write_fails d = is_named d.fail_write d.writes

abbrev pub sync_fails : DiskState → Bool
sync_fails d = is_named d.fail_sync d.syncs

abbrev pub faults_after : Bool → ℕ → ℕ
faults_after fails faults = if fails then one_more faults else faults

-- what each call leaves
abbrev pub after_len : DiskState → DiskState
after_len d = record d { lens = one_more d.lens; faults = faults_after (len_fails d) d.faults }

abbrev pub after_read : DiskState → DiskState
after_read d = record d { reads = one_more d.reads; faults = faults_after (read_fails d) d.faults }

-- a write that fails has done half of its bytes; nothing of one is done for want of memory
abbrev pub after_write : DiskState → ℕ → List ℕ → Result Unit (Or Failed) → DiskState
after_write d at bytes (Ok done) = record d { writes = one_more d.writes; steps = d.steps ++ step.Write at bytes (length bytes) ∷ [] }
after_write d at bytes (Err (Fault failed)) =
    record d { writes = one_more d.writes; steps = d.steps ++ step.Write at bytes (length bytes / 2) ∷ []; faults = one_more d.faults }
after_write d at bytes (Err OutOfMemory) = record d { writes = one_more d.writes }

abbrev pub after_sync : DiskState → Result Unit (Or Failed) → DiskState
after_sync d (Ok done) = record d { syncs = one_more d.syncs; steps = d.steps ++ step.Sync ∷ [] }
after_sync d (Err (Fault failed)) = record d { syncs = one_more d.syncs; faults = one_more d.faults }
after_sync d (Err OutOfMemory) = record d { syncs = one_more d.syncs }
