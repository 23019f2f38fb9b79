-- What the file of a log is found to be.
use Rattle.std.specs.Prelude.{◌≡◌, ◌⊎◌, ℕ, List, Option, Ok, Err}
use Rattle.mv_outside.specs.Causes.{Rose}
use Rattle.mv_outside.specs.Files.{FileMap}
use Rattle.mv_history.specs.declared.log.Entry.{Entry}
use Rattle.mv_record.specs.File.{log_of}
use Rattle.mv_inspect.specs.Told.{IsMissing, StandsAt, FileIs}
use Rattle.mv_inspect.specs.declared.listing.Listed.{Listed}
use Rattle.mv_inspect.specs.declared.listing.Listed.TheVariants as listed

-- the text is the file of a log with these arguments and entries
abbrev pub HasLog : List ℕ → List (List ℕ) → List Entry → Type 0
HasLog text args entries = log_of text ≡ Ok (args, entries)

-- the file of this path is that of a log with these arguments and entries
abbrev pub HasRecord : Option FileMap → List ℕ → List (List ℕ) → List Entry → Type 0
HasRecord told path args entries = (text : List ℕ) × StandsAt told path text × HasLog text args entries

-- what the file of this path is found to be; the counts are those of its faults, before and after
abbrev pub IsListed : Option FileMap → List ℕ → ℕ → ℕ → Listed → Type 0
IsListed told path faults faults_now listed.NoFile = IsMissing told path ⊎ Rose faults faults_now
IsListed told path faults faults_now listed.NoMemory = Unit {0}
IsListed told path faults faults_now (listed.Refused fault) = FileIs told path (λ text. log_of text ≡ Err fault)
IsListed told path faults faults_now (listed.Log args entries) = HasRecord told path args entries.list
