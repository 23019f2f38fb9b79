-- What came of making a journal.
use Rattle.std.specs.Prelude.{ℕ}
use Rattle.mv_disk.specs.Journal.{JournalSeen}
use Rattle.mv_disk.specs.declared.journal.Made.{Made}
use Rattle.mv_disk.specs.declared.journal.Made.TheVariants as made

-- the disk, which is handed back with every answer
abbrev pub disk_of : {D : Type 0} → Made D → D
disk_of (made.Journal journal) = journal.disk
disk_of (made.Used disk len) = disk
disk_of (made.Failed disk) = disk
disk_of (made.Memory disk) = disk

-- P holds of the journal, if there is one
abbrev pub IfJournal : {D : Type 0} → Made D → (JournalSeen D → Type 0) → Type 0
IfJournal (made.Journal journal) P = P journal
IfJournal (made.Used disk len) P = Unit {0}
IfJournal (made.Failed disk) P = Unit {0}
IfJournal (made.Memory disk) P = Unit {0}

-- P holds of the length, if the disk isn't empty
abbrev pub IfUsed : {D : Type 0} → Made D → (ℕ → Type 0) → Type 0
IfUsed (made.Journal journal) P = Unit {0}
IfUsed (made.Used disk len) P = P len
IfUsed (made.Failed disk) P = Unit {0}
IfUsed (made.Memory disk) P = Unit {0}

-- the disk isn't empty
abbrev pub IsUsed : {D : Type 0} → Made D → Type 0
IsUsed (made.Journal journal) = ⊥
IsUsed (made.Used disk len) = Unit {0}
IsUsed (made.Failed disk) = ⊥
IsUsed (made.Memory disk) = ⊥

-- the disk failed
abbrev pub IsFailed : {D : Type 0} → Made D → Type 0
IsFailed (made.Journal journal) = ⊥
IsFailed (made.Used disk len) = ⊥
IsFailed (made.Failed disk) = Unit {0}
IsFailed (made.Memory disk) = ⊥
