use Rattle.mv_history.proofs.Settling.{first_settled, sent_settled, settled_each, settled_front, settled_same, started_settled, world_settled}
use Rattle.mv_history.proofs.spot_laws.messages_are_settled.Goals as goal

pub returns : goal.returns
returns g c = record {
  started = started_settled g.V.Version.behaviour g.met.V.Version.settled;
  first = first_settled g.V.Version.behaviour;
  world = λ updates w es settled. world_settled g.V.Version.behaviour g.met.V.Version.settled updates es w settled;
  sent = λ updates w es settled. sent_settled g.V.Version.behaviour g.met.V.Version.settled updates es w settled;
  front = settled_front g.V.Version.behaviour;
  each = settled_each g.V.Version.behaviour;
  same = settled_same g.V.Version.behaviour;
}
