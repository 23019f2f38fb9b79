use Rattle.mv_history.proofs.TurnLaws.{lead_keeps, sends_alike, sends_few, sends_none}
use Rattle.mv_history.proofs.log_laws.turns_send_little.Goals as goal

pub returns : goal.returns
returns g c = record {
  few = sends_few g.V.Version.behaviour;
  alike = sends_alike;
  leader = lead_keeps g.V.Version.behaviour;
  silent = λ updates w chosen none. sends_none updates w chosen g.V.Version.behaviour none;
}
