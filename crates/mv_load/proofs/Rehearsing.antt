-- From the clauses of a rehearsal to a load.
use Rattle.std.proofs.Common.{◌≡◌, ◌+◌, ℕ, suc, List, length, refl, subst, Some, arith}
use Rattle.std.specs.Prelude.{zero}
use Rattle.std.proofs.lemmas.List.{length-append}
use Rattle.mv_kernmem.specs.Kernels.{Begins, KernelState}
use Rattle.mv_kernmem.specs.declared.script.Script.{Script}
use Rattle.mv_outside.specs.Began.{Began}
use Rattle.mv_outside.specs.MemConsole.{ConsoleState}
use Rattle.mv_outside.specs.MemFiles.{FilesState, file_at}
use Rattle.mv_version.specs.Behaviour.{Behaviour}
use Rattle.mv_history.specs.declared.log.Log.{Log}
use Rattle.mv_core.specs.Found.{AreFilesKept}
use Rattle.mv_rehearse.specs.Runs.{DidCalls, HasEnded, IsLegalRun, OrdersAnswered}
use Rattle.mv_rehearse.specs.declared.beats.Beat.{Beat}
use Rattle.mv_rehearse.specs.declared.outcome.ExitStatus.{ExitStatus}
use Rattle.mv_load.specs.Connections.{connections}
use Rattle.mv_load.specs.Files.{load_files}
use Rattle.mv_load.specs.Loads.{IsRehearsal, IsRunOf, load_began}
use Rattle.mv_load.specs.Operator.{load_console}
use Rattle.mv_load.specs.Played.{IsPlayed}

-- as many connections as are asked for
pub connections_length : (n : ℕ) → length (connections n) ≡ n
connections_length zero = refl
connections_length (suc n) =
    let both : length (connections (suc n)) ≡ length (connections n) + 1 = length-append (connections n) _ in
    let before : length (connections n) ≡ n = connections_length n in
    omega (arith, both, before)

-- what a load begins with, from what was made for it
pub begins : (start : List ℕ) (args : List (List ℕ)) (script : Script) (kernel : KernelState) (console : ConsoleState) (files : FilesState) →
    start ≡ load_began.start → args ≡ load_began.args → Begins script kernel → console ≡ load_console → files ≡ load_files →
    record { start = start; args = args; done = Some kernel.done; coming = Some console.coming; said = Some console.said; files = Some (file_at files.files); kernel_faults = kernel.faults; console_faults = console.faults; files_faults = files.faults } ≡ load_began
begins start args script kernel console files a b k c f = rw (a, b, k.done, k.faults, c, f) refl

module _ {V : Type 0} (b : Behaviour V) (script : Script) (beats : List Beat) (log : Log) (began : Began) (kernel : KernelState) (console : ConsoleState) (given files : FilesState) (status : ExitStatus) where
  -- a run that began so is one of a load
  pub run_of : began ≡ load_began → given ≡ load_files → IsRehearsal b began 256 beats log → IsLegalRun b began log → DidCalls began log.entries.list (Some kernel.done) kernel.faults → IsPlayed script kernel →
      OrdersAnswered began log.entries.list (Some console.coming) (Some console.said) console.faults → AreFilesKept (Some (file_at given.files)) given.faults log.entries.list log.updates.list (Some (file_at files.files)) files.faults →
      HasEnded log.entries.list status → IsRunOf b script beats log
  run_of same_began same_files rehearsed legal did played orders kept ended = record {
    rehearsed = subst (λ (w : Began). IsRehearsal b w 256 beats log) same_began rehearsed;
    legal = subst (λ (w : Began). IsLegalRun b w log) same_began legal;
    kernel = kernel;
    did = subst (λ (w : Began). DidCalls w log.entries.list (Some kernel.done) kernel.faults) same_began did;
    played = played;
    console = console;
    orders = subst (λ (w : Began). OrdersAnswered w log.entries.list (Some console.coming) (Some console.said) console.faults) same_began orders;
    files = files;
    kept = subst (λ (f : FilesState). AreFilesKept (Some (file_at f.files)) f.faults log.entries.list log.updates.list (Some (file_at files.files)) files.faults) same_files kept;
    how = ended.by;
    ends = ended.last;
  }
