use Rattle.mv_history.proofs.LeadLaws.{lead_may}
use Rattle.mv_history.proofs.laws.turns_are_legal.Goals as goal

pub returns : goal.returns
returns g c = record { legal = λ updates w chosen shaped runs unasked ok. lead_may g.V.Version.behaviour updates w chosen shaped runs unasked ok }
