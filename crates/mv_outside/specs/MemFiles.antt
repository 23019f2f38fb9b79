-- Files in memory: what stands at each path, and what each call leaves.
use Rattle.std.specs.Prelude.{◌≡◌, ◌≢◌, ℕ, Bool, true, ◌&&◌, if◌then◌else◌, List, [], ◌∷◌, Option, Some, None, is_none}
use Rattle.std.specs.Option.{option_map}
use Rattle.std.specs.List.{find, All}
use Rattle.std.specs.Str.{bytes_eq}
use Rattle.mv_outside.specs.Counts.{one_more, is_named}
use Rattle.mv_outside.specs.Files.{FileMap}
use Rattle.mv_outside.specs.declared.mem_files.FileAt.{FileAt}

-- what files in memory hold
pub record FilesState : Type 0 where
  pub files : List FileAt
  -- how many calls of `read` and of `write` there were
  pub reads : ℕ
  pub writes : ℕ
  -- the numbers of the calls that are to fail
  pub fail_read : List ℕ
  pub fail_write : List ℕ
  -- how often a call has failed
  pub faults : ℕ

-- whether the file stands at the path
abbrev pub is_at : List ℕ → FileAt → Bool
is_at path file = bytes_eq file.path path

-- what stands at each path
abbrev pub file_at : List FileAt → FileMap
file_at files path = option_map (λ (file : FileAt). file.bytes) (find (is_at path) files)

-- no two of the files stand at one path
abbrev pub do_paths_differ : List FileAt → Bool
do_paths_differ [] = true
do_paths_differ (first ∷ rest) = is_none (file_at rest first.path) && do_paths_differ rest

-- the next read, and the next write, fails: its number is in the list
abbrev pub read_fails : FilesState → Bool
read_fails f = is_named f.fail_read f.reads

abbrev pub write_fails : FilesState → Bool
write_fails f = is_named f.fail_write f.writes

-- each of the files stands at its path
abbrev pub HoldsGiven : List FileAt → FileMap → Type 0
HoldsGiven given map = All (λ (file : FileAt). map file.path ≡ Some file.bytes) given

-- every other path is as before
abbrev pub ChangesFile : List FileAt → List ℕ → List FileAt → Type 0
ChangesFile before path now = (other : List ℕ) → other ≢ path → file_at now other ≡ file_at before other

-- what a failed write leaves of a file
abbrev pub emptied : Option (List ℕ) → Option (List ℕ)
emptied None = None
emptied (Some bytes) = Some []

-- what `read` leaves
abbrev pub after_read : FilesState → FilesState
after_read f = record f { reads = one_more f.reads; faults = if read_fails f then one_more f.faults else f.faults }

-- what `write` leaves, but for the files
abbrev pub after_write : FilesState → List FileAt → FilesState
after_write f files = record f { files = files; writes = one_more f.writes; faults = if write_fails f then one_more f.faults else f.faults }
