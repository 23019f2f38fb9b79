use Rattle.mv_history.proofs.FollowerLaws.{hears_shaped}
use Rattle.mv_history.proofs.RulesLaws.{accepted_kept, accepted_shaped}
use Rattle.mv_history.proofs.laws.accepted_rules_are_shaped.Goals as goal

pub returns : goal.returns
returns g c = record { shaped = accepted_shaped; kept = accepted_kept; heard = hears_shaped }
