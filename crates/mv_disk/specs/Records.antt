-- The records that a content holds (docs/FORMATS.md, "The disk of a recorder").
use Rattle.std.specs.Prelude.{ℕ, zero, suc, ◌+◌, ◌==◌, ◌&&◌, nat_lt, if◌then◌else◌, codes, List, [], ◌∷◌, length, take, drop, Option, Some, None}
use Rattle.std.specs.Int.{w32, from_le_bytes}
use Rattle.std.specs.Option.{option_map_or}
use Rattle.std.specs.Str.{bytes_eq}

-- the bytes that a content with records begins with
abbrev pub mark : List ℕ
mark = codes "MVDISK01"

-- The body of the record that begins here, where it counts: its gate is 1, and its length, its body and the next gate are there.
unfoldable pub front_body : List ℕ → Option (List ℕ)
front_body [] = None
front_body (gate ∷ rest) =
    let size = from_le_bytes w32 rest in
    if (gate == 1) && nat_lt (4 + size) (length rest) then Some (take size (drop 4 rest)) else None

-- The records from here on, up to the first that doesn't count. The number bounds how many there can be, and is no matter where
-- it is as large as the number of bytes.
unfoldable pub records_within : ℕ → List ℕ → List (List ℕ)
records_within zero rest = []
records_within (suc n) rest = option_map_or (λ body. body ∷ records_within n (drop (5 + length body) rest)) (front_body rest) []

-- the records from here on: no more than bytes
abbrev pub records_from : List ℕ → List (List ℕ)
records_from rest = records_within (length rest) rest

-- the records of a content: those behind its mark, and none without it
abbrev pub records : List ℕ → List (List ℕ)
records content = if bytes_eq (take 8 content) mark then records_from (drop 8 content) else []
