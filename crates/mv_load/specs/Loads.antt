-- What a load is: the rehearsal of the first guest over all that is made of a number (docs/FORMATS.md, "Load").
use Rattle.std.specs.Prelude.{◌≡◌, ℕ, List, [], ◌∷◌, Some, Ok, codes}
use Rattle.mv_kernmem.specs.Kernels.{KernelState}
use Rattle.mv_kernmem.specs.declared.script.Script.{Script}
use Rattle.mv_outside.specs.Began.{Began}
use Rattle.mv_outside.specs.MemConsole.{ConsoleState}
use Rattle.mv_outside.specs.MemFiles.{FilesState, file_at}
use Rattle.mv_version.specs.Behaviour.{Behaviour}
use Rattle.mv_history.specs.Ends.{EndsBy}
use Rattle.mv_history.specs.World.{AreLegal, begun}
use Rattle.mv_history.specs.declared.log.How.{How}
use Rattle.mv_history.specs.declared.log.Log.{Log}
use Rattle.mv_core.specs.Found.{AreFilesKept}
use Rattle.mv_rehearse.specs.Runs.{DidCalls, IsLegalRun, OrdersAnswered, Rehearsed}
use Rattle.mv_rehearse.specs.declared.beats.Beat.{Beat}
use Rattle.mv_schedule.specs.Schedules.{schedule_of}
use Rattle.mv_transform.specs.Births as guests
use Rattle.mv_load.specs.Connections.{load_script}
use Rattle.mv_load.specs.Files.{guest_file, load_files}
use Rattle.mv_load.specs.Operator.{load_console}
use Rattle.mv_load.specs.Played.{IsPlayed}
use Rattle.mv_load.specs.Schedule.{load_beats}
use Rattle.mv_load.specs.declared.guests.Demo.TheVariants as demo

-- ## The beginning

-- the one argument of the guest: the path of its module
abbrev pub load_args : List (List ℕ)
load_args = codes "old" ∷ []

-- the first guest, a kernel that has done nothing, the operator's lines, of which nothing was said, the files, and no fault
abbrev pub load_began : Began
load_began = record {
  start = guest_file demo.Old;
  args = load_args;
  done = Some [];
  coming = Some load_console.coming;
  said = Some load_console.said;
  files = Some (file_at load_files.files);
  kernel_faults = 0;
  console_faults = load_console.faults;
  files_faults = load_files.faults;
}

-- ## The run

-- the log is that of these beats, over a feed of this capacity
pub record IsRehearsal {V : Type 0} (b : Behaviour V) (began : Began) (capacity : ℕ) (beats : List Beat) (log : Log) : Type 0 where
  pub reached : Rehearsed b began capacity beats log

-- The log is what these beats reach from the beginning of a load, over a feed of 256 places. The kernel did its calls, each with the
-- reply of this script; the operator's orders were answered; the files are as they were.
pub record IsRunOf {V : Type 0} (b : Behaviour V) (script : Script) (beats : List Beat) (log : Log) : Type 0 where
  pub rehearsed : IsRehearsal b load_began 256 beats log
  pub legal : IsLegalRun b load_began log
  -- the kernel as it is left
  pub kernel : KernelState
  pub did : DidCalls load_began log.entries.list (Some kernel.done) kernel.faults
  pub played : IsPlayed script kernel
  -- the console as it is left
  pub console : ConsoleState
  pub orders : OrdersAnswered load_began log.entries.list (Some console.coming) (Some console.said) console.faults
  -- the files as they are left
  pub files : FilesState
  pub kept : AreFilesKept load_began.files load_began.files_faults log.entries.list log.updates.list (Some (file_at files.files)) files.faults
  -- the last entry
  pub how : How
  pub ends : EndsBy log.entries.list how

-- of n connections, with guests that behave so
pub record IsLoadOf {V : Type 0} (b : Behaviour V) (n : ℕ) (log : Log) : Type 0 where
  pub beats : List Beat
  pub beats_are : schedule_of (load_beats n) ≡ Ok beats
  pub run : IsRunOf b (load_script n) beats log

-- with the guests of this host
abbrev pub IsLoad : ℕ → Log → Type 0
IsLoad n log = IsLoadOf guests.behaviour n log

-- ## The audit

-- a guest starts as the log's start says, and each entry may come where it comes
pub record IsLegalFrom {V : Type 0} (b : Behaviour V) (log : Log) : Type 0 where
  pub first : V
  pub started : b.started log.start.«module» log.start.args ≡ Ok first
  pub legal : AreLegal b log.updates.list (begun first) log.entries.list

-- with the guests of this host
abbrev pub IsLegal : Log → Type 0
IsLegal log = IsLegalFrom guests.behaviour log
