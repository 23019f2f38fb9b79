-- What a disk tells, what its calls do to that, and what a crash may do between two syncs.
use Rattle.std.specs.Prelude.{◌≡◌, ◌⊎◌, ◌↔◌, ℕ, ◌+◌, ◌<◌, ◌≤◌, max, List, ◌++◌, length, take, drop, slice_index, Option, Some, None}
use Rattle.std.specs.Option.{option_map}

-- P holds of the content that is told, if one is
abbrev pub IfTold : Option (List ℕ) → (List ℕ → Type 0) → Type 0
IfTold told P = (content : List ℕ) → told ≡ Some content → P content

-- n bytes from this place on are inside what is told
abbrev pub IsInside : Option (List ℕ) → ℕ → ℕ → Type 0
IsInside told at n = IfTold told (λ content. at + n ≤ length content)

-- what is told has this length
abbrev pub HasLength : Option (List ℕ) → ℕ → Type 0
HasLength told n = IfTold told (λ content. n ≡ length content)

-- these bytes stand at this place of what is told
abbrev pub StandsAt : Option (List ℕ) → ℕ → List ℕ → Type 0
StandsAt told at bytes = IfTold told (λ content. bytes ≡ take (length bytes) (drop at content))

-- the content with these bytes at this place, over what stands there and past the end
abbrev pub with_bytes : List ℕ → ℕ → List ℕ → List ℕ
with_bytes content at bytes = take at content ++ (bytes ++ drop (at + length bytes) content)

-- what is told now has these bytes at this place, and is as before elsewhere
abbrev pub IsWritten : Option (List ℕ) → ℕ → List ℕ → Option (List ℕ) → Type 0
IsWritten told at bytes now = now ≡ option_map (λ content. with_bytes content at bytes) told

-- A write of n bytes at this place, done in part: any bytes stand in its range and past the old end, up to the range's end;
-- bytes outside stay.
pub record Torn (at n : ℕ) (before now : List ℕ) : Type 0 where
  pub front : (p : ℕ) → p < at → p < length before → slice_index now p ≡ slice_index before p
  pub back : (p : ℕ) → at + n ≤ p → p < length before → slice_index now p ≡ slice_index before p
  pub no_shorter : length before ≤ length now
  pub no_longer : length now ≤ max (length before) (at + n)

-- what is told now is what was told, after such a write
abbrev pub IsWrittenInPart : Option (List ℕ) → ℕ → ℕ → Option (List ℕ) → Type 0
IsWrittenInPart None at n now = now ≡ None
IsWrittenInPart (Some content) at n now = (new : List ℕ) × (now ≡ Some new) × Torn at n content new

-- each outcome of a crash now is an outcome from before after this step
abbrev pub Follows : (List ℕ → List ℕ → Type 0) → (List ℕ → Type 0) → (List ℕ → Type 0) → Type 0
Follows step before now = (c : List ℕ) → now c → (d : List ℕ) × before d × step d c

-- a crash leaves this and nothing else
abbrev pub Only : List ℕ → (List ℕ → Type 0) → Type 0
Only content outcomes = (c : List ℕ) → outcomes c → c ≡ content

-- a crash leaves just what is told
abbrev pub IsOnDisk : Option (List ℕ) → (List ℕ → Type 0) → Type 0
IsOnDisk told outcomes = IfTold told (λ content. Only content outcomes)

-- Time goes on: a crash since an earlier moment may have left what it may have left before, or what it may leave now.
pub record Elapses (before now : ℕ) (past since : ℕ → List ℕ → Type 0) (may_leave : List ℕ → Type 0) : Type 0 where
  pub later : before ≤ now
  pub nothing_else : (t : ℕ) (c : List ℕ) → t ≤ before → since t c → past t c ⊎ may_leave c
  pub keeps : (t : ℕ) (c : List ℕ) → t ≤ before → past t c → since t c

-- all that a disk tells is as it was
pub record IsSameDisk {D : Type 0} (reads : D → Option (List ℕ)) (may_leave : D → List ℕ → Type 0) (moment : D → ℕ) (left_since : D → ℕ → List ℕ → Type 0) (before now : D) : Type 0 where
  pub reads_same : reads now ≡ reads before
  pub leaves_same : (c : List ℕ) → may_leave now c ↔ may_leave before c
  pub moment_same : moment now ≡ moment before
  pub since_same : (t : ℕ) (c : List ℕ) → left_since now t c ↔ left_since before t c

-- Each crash during a run of calls leaves a content of which P holds.
pub record LeavesOnly {D : Type 0} (moment : D → ℕ) (left_since : D → ℕ → List ℕ → Type 0) (before now : D) (P : List ℕ → Type 0) : Type 0 where
  pub later : moment before ≤ moment now
  pub each : (c : List ℕ) → left_since now (moment before) c → P c
  -- for a run that began earlier
  pub earlier : (t : ℕ) (c : List ℕ) → t ≤ moment before → left_since now t c → left_since before t c ⊎ P c
