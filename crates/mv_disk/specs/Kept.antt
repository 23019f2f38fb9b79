-- What a journal keeps over crashes.
use Rattle.std.specs.Prelude.{◌≡◌, ℕ, ◌+◌, ◌<◌, ◌≤◌, List, [], ◌∷◌, ◌++◌, length, take, slice_index, Option, Some, Result, Ok, Err}
use Rattle.mv_calls.specs.declared.fault.Or.{Or}
use Rattle.mv_outside.specs.declared.fault.Failed.{Failed}
use Rattle.mv_disk.specs.Disk.{Only}
use Rattle.mv_disk.specs.Records.{records}

-- it reads no bytes, and a crash leaves none
abbrev pub IsBlank : Option (List ℕ) → (List ℕ → Type 0) → Type 0
IsBlank told outcomes = (told ≡ Some []) × Only [] outcomes

-- it reads just these records, and a crash leaves just what it reads
pub record HasRecords (told : Option (List ℕ)) (outcomes : List ℕ → Type 0) (bodies : List (List ℕ)) : Type 0 where
  pub content : List ℕ
  pub told_is : told ≡ Some content
  pub records_are : records content ≡ bodies
  pub lasts : Only content outcomes

-- what was appended to a journal
pub record Story : Type 0 where
  -- the moment at which it was made
  pub since : ℕ
  -- the records that were given to `append`, oldest first
  pub bodies : List (List ℕ)
  -- of each that was answered Ok, the moment of the answer
  pub moments : List ℕ

-- each of them was answered Ok
abbrev pub IsWhole : Story → Type 0
IsWhole s = length s.moments ≡ length s.bodies

-- nothing was appended
abbrev pub new_story : ℕ → Story
new_story since = record { since = since; bodies = []; moments = [] }

-- one record more was given to `append`, which answered at this moment
abbrev pub told_on : Story → List ℕ → Result Unit (Or Failed) → ℕ → Story
told_on s body (Ok done) now = record { since = s.since; bodies = s.bodies ++ body ∷ []; moments = s.moments ++ now ∷ [] }
told_on s body (Err why) now = record { since = s.since; bodies = s.bodies ++ body ∷ []; moments = s.moments }

-- A crash at any moment since the journal was made leaves a first part of the records, and from the moment on at which a
-- record was answered Ok, every crash leaves at least that record and those before it.
pub record IsKept {D : Type 0} (moment : D → ℕ) (left_since : D → ℕ → List ℕ → Type 0) (disk : D) (s : Story) : Type 0 where
  pub made : s.since ≤ moment disk
  pub first_part : (c : List ℕ) → left_since disk s.since c → records c ≡ take (length (records c)) s.bodies
  pub few : length s.moments ≤ length s.bodies
  pub past : (k : ℕ) → k < length s.moments → slice_index s.moments k ≤ moment disk
  pub at_least : (k : ℕ) → k < length s.moments → (c : List ℕ) → left_since disk (slice_index s.moments k) c →
      take (k + 1) (records c) ≡ take (k + 1) s.bodies
