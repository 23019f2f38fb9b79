-- A connection as it is kept: all its pieces, and how far they were read.
use Rattle.std.specs.Prelude.{ℕ, List, [], ◌∷◌, drop, unwrap_or}
use Rattle.std.specs.List.{slice_get}

-- the pieces without the first bytes of the first
abbrev pub without_bytes : ℕ → List (List ℕ) → List (List ℕ)
without_bytes count [] = []
without_bytes count (piece ∷ rest) = drop count piece ∷ rest

-- what is left where this piece is the next, and so many of its bytes were read
abbrev pub left_from : ℕ → ℕ → List (List ℕ) → List (List ℕ)
left_from next from pieces = without_bytes from (drop next pieces)

-- the next piece, with nothing in it where there is none
abbrev pub piece_at : List (List ℕ) → ℕ → List ℕ
piece_at pieces next = unwrap_or (slice_get pieces next) []
