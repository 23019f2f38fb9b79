use Rattle.mv_history.proofs.Ending.{ended_by, ends_by, goes_on, may_runs}
use Rattle.mv_history.proofs.log_laws.logs_end_once.Goals as goal

pub returns : goal.returns
returns g c = record {
  runs = may_runs g.V.Version.behaviour;
  last = ends_by g.V.Version.behaviour;
  ended = ended_by g.V.Version.behaviour;
  beside = goes_on g.V.Version.behaviour;
}
