-- Reading a whole log file: the places of its faults (docs/FORMATS.md, "Log file").
use Rattle.std.specs.Prelude.{ℕ, zero, suc, ◌-◌, List, [], ◌∷◌, length, Result, Ok, Err, nat_lt, ◌==◌, if◌then◌else◌, codes}
use Rattle.mv_history.specs.declared.log.Entry.{Entry}
use Rattle.mv_history.specs.Roomy.{Roomy}
use Rattle.mv_record.specs.declared.fault.BodyFault.{BodyFault}
use Rattle.mv_record.specs.declared.fault.BodyFault.TheVariants as body
use Rattle.mv_record.specs.declared.fault.RecordKind.{RecordKind}
use Rattle.mv_record.specs.declared.fault.RecordKind.TheVariants.{Magic, Cut, Code, Length, Suit, Limit}
use Rattle.mv_record.specs.declared.fault.RecordFault.{RecordFault}
use Rattle.mv_calls.specs.declared.fault.Or.{Or}
use Rattle.mv_record.specs.Reading.{Gives, ◌>>=◌, list_at, byte_list_at, whole_body}

-- the most bytes of a file
abbrev pub file_limit : ℕ
file_limit = 536870912

abbrev pub fault : RecordKind → ℕ → RecordFault
fault kind place = record { place = place; kind = kind }

-- the file ends too early
abbrev pub unless_cut : {A : Type 0} → ℕ → Result A BodyFault → Result A RecordFault
unless_cut total (Ok x) = Ok x
unless_cut total (Err e) = Err (fault Cut total)

-- what follows these bytes; `total` is the file's length, so a byte with n bytes from it on has the place total - n
abbrev pub after_magic : ℕ → List ℕ → List ℕ → Result (List ℕ) RecordFault
after_magic total [] bytes = Ok bytes
after_magic total (m ∷ ms) [] = Err (fault Cut total)
after_magic total (m ∷ ms) (b ∷ bs) = if b == m then after_magic total ms bs else Err (fault Magic (total - length (b ∷ bs)))

-- the place of a body's fault: the body's length has `here` bytes from its first on, and `after` bytes follow the body
abbrev pub placed_fault : ℕ → ℕ → ℕ → BodyFault → RecordFault
placed_fault total here after body.Passes = fault Length (total - here)
placed_fault total here after (body.Code left) = fault Code ((total - after) - left)
placed_fault total here after (body.Suit left) = fault Suit ((total - after) - left)

abbrev pub placed : {A : Type 0} → ℕ → ℕ → ℕ → Result A BodyFault → Result A RecordFault
placed total here after (Ok x) = Ok x
placed total here after (Err e) = Err (placed_fault total here after e)

-- a length and a body of exactly that length
unfoldable pub record_at : ℕ → List ℕ → Result (Entry × List ℕ) RecordFault
record_at total bytes = do
  text ← unless_cut total (byte_list_at bytes)
  e ← placed total (length bytes) (length text.1) (whole_body text.0)
  Ok (e, text.1)

-- the entries up to the end, at most so many
unfoldable pub entries_at : ℕ → ℕ → List ℕ → Result (List Entry) RecordFault
entries_at total k [] = Ok []
entries_at total zero (b ∷ bs) = Ok []
entries_at total (suc k) (b ∷ bs) = do
  first ← record_at total (b ∷ bs)
  others ← entries_at total k first.1
  Ok (first.0 ∷ others)

unfoldable pub contents_of : List ℕ → Result (List (List ℕ) × List Entry) RecordFault
contents_of bytes = do
  rest ← after_magic (length bytes) (codes "MVLOG001") bytes
  args ← unless_cut (length bytes) (list_at byte_list_at rest)
  entries ← entries_at (length bytes) (length args.1) args.1
  Ok (args.0, entries)

-- what reading a file gives: its arguments and entries, or its first fault
abbrev pub log_of : List ℕ → Result (List (List ℕ) × List Entry) RecordFault
log_of bytes = if nat_lt file_limit (length bytes) then Err (fault Limit 0) else contents_of bytes

-- what `read_log` returned is what reading gives
abbrev pub GivesLog : Result (List (List ℕ) × Roomy Entry) (Or RecordFault) → Result (List (List ℕ) × List Entry) RecordFault → Type 0
GivesLog = Gives (λ x. (x.0, x.1.list))
