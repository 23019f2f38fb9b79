-- For private clauses: what a run on two threads comes to.
use Rattle.std.specs.Prelude.{ℕ, Option, List}
use Rattle.mv_calls.specs.declared.calls.Item.{Item}
use Rattle.mv_outside.specs.Began.{Began}
use Rattle.mv_outside.specs.Files.{FileMap}
use Rattle.mv_version.specs.Behaviour.{Behaviour}
use Rattle.mv_history.specs.Ends.{EndsBy}
use Rattle.mv_history.specs.declared.log.How.TheVariants as how
use Rattle.mv_core.specs.Found.{AreFilesKept}
use Rattle.mv_rehearse.specs.Runs.{DidCalls, HasEnded, IsLegalRun, OrdersAnswered}
use Rattle.mv_rehearse.specs.declared.outcome.Outcome.{Outcome}

-- over what the run began with, and by what its kernel, its console and its files tell
pub record IsServed {V K C F : Type 0} (b : Behaviour V) (began : Began) (done : K → Option (List Item)) (kernel_faults : K → ℕ) (coming : C → Option (List (Option (List ℕ)))) (said : C → Option (List ℕ)) (console_faults : C → ℕ) (content : F → Option FileMap) (files_faults : F → ℕ) (outcome : Outcome K C F) : Type 0 where
  pub legal : IsLegalRun b began outcome.log
  pub did : DidCalls began outcome.log.entries.list (done outcome.kernel) (kernel_faults outcome.kernel)
  pub orders : OrdersAnswered began outcome.log.entries.list (coming outcome.console) (said outcome.console) (console_faults outcome.console)
  pub found : AreFilesKept began.files began.files_faults outcome.log.entries.list outcome.log.updates.list (content outcome.files) (files_faults outcome.files)
  pub ended : HasEnded outcome.log.entries.list outcome.status
  pub whole : EndsBy outcome.log.entries.list how.Cut → ⊥
