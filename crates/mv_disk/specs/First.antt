-- What a disk in memory was made with.
use Rattle.std.specs.Prelude.{ℕ, List, Option, Some, None}

-- what it keeps, or what it reads as long as it keeps nothing
abbrev pub first_of : Option (List ℕ) → List ℕ → List ℕ
first_of None content = content
first_of (Some first) content = first
