use Rattle.mv_history.proofs.ReplayLaws.{replay-append, replay-fails}
use Rattle.mv_history.proofs.laws.replays_join.Goals as goal

pub returns-clause-stands : goal.returns-clause-stands
returns-clause-stands g c k s t xs ys h = replay-append g.V.Version.behaviour k s xs ys t h

pub returns-clause-fails : goal.returns-clause-fails
returns-clause-fails g c k j s xs ys want met h = replay-fails g.V.Version.behaviour k s xs ys j want met h
