use Rattle.mv_execution.proofs.Stops.{run-stands}
use Rattle.mv_execution.proofs.Counts.{run-counts}
use Rattle.mv_execution.proofs.laws.stops_are_seen.Goals as goal

pub returns : goal.returns
returns c = record { stands = run-stands; counts = run-counts }
