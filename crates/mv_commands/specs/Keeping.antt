-- For private clauses: what became of the file of a log.
use Rattle.std.specs.Prelude.{◌≡◌, ℕ, List, Option}
use Rattle.mv_outside.specs.Causes.{Rose}
use Rattle.mv_outside.specs.Files.{ChangesOnly, FileMap}
use Rattle.mv_history.specs.declared.log.How.{How}
use Rattle.mv_history.specs.declared.log.Log.{Log}
use Rattle.mv_commands.specs.Causes.{HasLogFile}
use Rattle.mv_commands.specs.declared.ending.Ending.{Ending}
use Rattle.mv_commands.specs.declared.ending.Ending.TheVariants as ending
use Rattle.mv_commands.specs.declared.keeping.Written.{Written}
use Rattle.mv_commands.specs.declared.keeping.Written.TheVariants as written

-- the ending says that the log ended so
abbrev pub SaysHow : How → Ending → Type 0
SaysHow h (ending.Ran by) = by ≡ h
SaysHow h (ending.LogFailed path by) = by ≡ h
SaysHow h (ending.LogNotMade by) = by ≡ h
SaysHow h other = ⊥

abbrev pub IsWritten : Option FileMap → ℕ → List ℕ → Log → Option FileMap → ℕ → Written → Type 0
IsWritten told faults path log now faults_now written.Kept = HasLogFile path told log now
IsWritten told faults path log now faults_now written.Failed = ChangesOnly told path now × Rose faults faults_now
IsWritten told faults path log now faults_now written.NoMemory = now ≡ told
