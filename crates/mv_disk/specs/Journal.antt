-- What stands behind a journal.
use Rattle.std.specs.Prelude.{◌≡◌, ℕ, ◌^◌, ◌<◌, List, [], ◌∷◌, ◌++◌, length, Option, Bool, false}
use Rattle.std.specs.Int.{w32, to_le_bytes}
use Rattle.std.specs.List.{flat_map, All}
use Rattle.mv_disk.specs.Disk.{IfTold, Only}
use Rattle.mv_disk.specs.Records.{mark}

-- a journal, as contracts see it: its disk, and whether an append has failed or wanted memory
pub record JournalSeen (D : Type 0) : Type 0 where
  pub disk : D
  pub failed : Bool

-- a record without its gate and the next: its length and its body
abbrev pub sized : List ℕ → List ℕ
sized body = to_le_bytes w32 (length body) ++ body

-- a record with its gate open
abbrev pub row : List ℕ → List ℕ
row body = 1 ∷ sized body

-- the mark, these records, and a closed gate
abbrev pub at_rest : List (List ℕ) → List ℕ
at_rest bodies = mark ++ (flat_map row bodies ++ 0 ∷ [])

-- the content is such records, all of it on the disk, and ends here
pub record IsAtRest (end : ℕ) (outcomes : List ℕ → Type 0) (content : List ℕ) : Type 0 where
  pub bodies : List (List ℕ)
  pub content_is : content ≡ at_rest bodies
  pub short : All (λ body. length body < 2 ^ 32) bodies
  pub end_is : end ≡ length content
  pub lasts : Only content outcomes

-- what a journal keeps as long as no append has failed
abbrev pub IsReady : ℕ → Bool → Option (List ℕ) → (List ℕ → Type 0) → Type 0
IsReady end failed told outcomes = failed ≡ false → (0 < end) × IfTold told (IsAtRest end outcomes)
