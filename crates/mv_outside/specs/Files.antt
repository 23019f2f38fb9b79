-- Files as a map from paths to bytes.
use Rattle.std.specs.Prelude.{◌≡◌, ◌≢◌, ℕ, ◌+◌, List, Option, Some, None, take}
use Rattle.mv_outside.specs.declared.files.Found.{Found}
use Rattle.mv_outside.specs.declared.files.Found.TheVariants as found

-- what stands at each path, if anything does
abbrev pub FileMap : Type 0
FileMap = List ℕ → Option (List ℕ)

-- P holds of the bytes, if some were read
abbrev pub IfBytes : Found → (List ℕ → Type 0) → Type 0
IfBytes (found.Bytes bytes) P = P bytes
IfBytes found.Missing P = Unit {0}
IfBytes found.Failed P = Unit {0}
IfBytes found.Memory P = Unit {0}

-- what is read at a path is the first cap + 1 bytes of what is told to stand there, and what is missing doesn't stand there
abbrev pub Finds : Option FileMap → List ℕ → ℕ → Found → Type 0
Finds told path cap (found.Bytes bytes) =
    (files : FileMap) → told ≡ Some files → (all : List ℕ) × (files path ≡ Some all) × (bytes ≡ take (cap + 1) all)
Finds told path cap found.Missing = (files : FileMap) → told ≡ Some files → files path ≡ None
Finds told path cap found.Failed = Unit {0}
Finds told path cap found.Memory = Unit {0}

-- the file has these bytes, as far as it is told
abbrev pub HasFile : Option FileMap → List ℕ → List ℕ → Type 0
HasFile None path bytes = Unit {0}
HasFile (Some files) path bytes = files path ≡ Some bytes

-- every other path is as before
abbrev pub ChangesOnly : Option FileMap → List ℕ → Option FileMap → Type 0
ChangesOnly None path None = Unit {0}
ChangesOnly (Some before) path (Some now) = (other : List ℕ) → other ≢ path → now other ≡ before other
ChangesOnly None path (Some now) = ⊥
ChangesOnly (Some before) path None = ⊥
