-- Files that a command names by their paths, as far as they are told.
use Rattle.std.specs.Prelude.{◌≡◌, ◌<◌, ℕ, List, Option, Some, None, slice_get}
use Rattle.mv_outside.specs.Files.{FileMap}

-- no file of this path is told
abbrev pub IsMissing : Option FileMap → List ℕ → Type 0
IsMissing told path = (files : FileMap) → told ≡ Some files → files path ≡ None

-- the file of this path has this text
abbrev pub StandsAt : Option FileMap → List ℕ → List ℕ → Type 0
StandsAt told path text = (files : FileMap) → told ≡ Some files → files path ≡ Some text

-- P holds of the text of the file of this path
abbrev pub FileIs : Option FileMap → List ℕ → (List ℕ → Type 0) → Type 0
FileIs told path P = (files : FileMap) → told ≡ Some files → (text : List ℕ) × (files path ≡ Some text) × P text

-- the files of these paths before this one are such that the command goes on, and P holds of its number
pub record StopsAmong (paths : List (List ℕ)) (Goes : ℕ → List ℕ → Type 0) (told : Option FileMap) (path : List ℕ) (P : ℕ → Type 0) : Type 0 where
  pub number : ℕ
  pub named : slice_get paths number ≡ Some path
  pub earlier : (n : ℕ) (other : List ℕ) → n < number → slice_get paths n ≡ Some other → FileIs told other (Goes n)
  pub stops : P number
